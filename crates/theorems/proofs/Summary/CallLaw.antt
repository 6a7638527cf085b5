-- What a call of `duper_summary` answers and leaves says which summary it is.
-- Assumes nothing.
use Rattle.std.specs.Prelude.{Some, None, Ok, Err}
use mathlib.Core.Path.{◌≡◌, refl, sym, ap, ◌∙◌}
use Prim.Native.Nat.{ℕ, ◌/◌, ◌%◌, ◌<◌}
use native.Mathlib.Omega.{arith}
use mathlib.Core.List.{List}
use lib.ListN.{get_or}
use Rattle.text.specs.Switches.{present_edition}
use Rattle.reader.specs.Reading.{reading}
use Rattle.reader.proofs.NumberBound.{number_law}
use Rattle.summary.specs.declared.summary.Counts.{Counts}
use Rattle.summary.specs.declared.summary.Heights.{Heights}
use Rattle.summary.specs.declared.summary.Summary.{Summary}
use Rattle.std.specs.declared.result.Result.{Result}
use Rattle.std.specs.declared.option.Option as Rust
use Rattle.text.specs.Refusal.{Refusal}
use Rattle.summary.proofs.AnswerLaws.{summary_place}
use Rattle.duper.specs.Numbers.{packed, summary_number, summary_counts, summary_heights, heights_or, SummaryCrosses}
use Rattle.theorems.specs.Summary.{refused_at, answer, counts_in, HeightsHeld, SummaryCall, SummaryUnpacked, SummariesUnpacked}
use Rattle.theorems.proofs.Summary.ShapeLaw.{counted_root, some_number}
use Rattle.theorems.proofs.Summary.FloatLaw.{heights_held}

module _ (words : ℕ) (text : List ℕ) where
  -- one height at least is measured, or none
  some_measured : (c : Counts) (h : Heights) → answer present_edition words text ≡ Ok (record { counts = c; heights = Some h }) → 0 < c.measured
  unfolding HeightsHeld counts_in
  some_measured c h e =
      let t = counted_root present_edition text (reading present_edition words text) c (ap counts_in e) in
      let r = (heights_held present_edition words text).some_measured c h t.0 e t.1 in
      let n = r.3 in
      omega arith

  none_measured : (c : Counts) → answer present_edition words text ≡ Ok (record { counts = c; heights = None }) → c.measured ≡ 0
  unfolding HeightsHeld counts_in
  none_measured c e =
      let t = counted_root present_edition text (reading present_edition words text) c (ap counts_in e) in
      ((heights_held present_edition words text).none_measured c t.0 e t.1).1

  module _ (a : SummaryCall words text) where
    -- a summary that holds these heights, or none
    summarized : (x : Summary) (o : Rust.Option Heights) → x.heights ≡ o → answer present_edition words text ≡ Ok x
        → SummaryCrosses (Ok x) a.number a.lent_counts a.counts a.lent_heights a.heights → SummaryUnpacked words text a
    unfolding summary_number summary_counts summary_heights heights_or
    summarized x (Some h) q e X =
        let n = X.number_is in
        let t : answer present_edition words text ≡ Ok (record { counts = x.counts; heights = Some h }) =
        e ∙ (λ i. Ok (record { counts = x.counts; heights = q i })) in
        let m = some_measured x.counts h t in
        let d : get_or a.counts 0 0 ≡ x.counts.measured = ap (λ (l : List ℕ). get_or l 0 0) X.counts_are in
        record {
          with_heights = λ _ _. (x.counts, h, t, X.counts_are, X.heights_are ∙ ap (λ (o : Rust.Option Heights). heights_or o a.lent_heights) q);
          without = λ _ z. absurd (omega arith);
          refusal = λ z. absurd (omega arith);
        }
    summarized x None q e X =
        let n = X.number_is in
        let t : answer present_edition words text ≡ Ok (record { counts = x.counts; heights = None }) =
        e ∙ (λ i. Ok (record { counts = x.counts; heights = q i })) in
        let m = none_measured x.counts t in
        let d : get_or a.counts 0 0 ≡ x.counts.measured = ap (λ (l : List ℕ). get_or l 0 0) X.counts_are in
        record {
          with_heights = λ _ z. absurd (omega arith);
          without = λ _ _. (x.counts, t, X.counts_are, X.heights_are ∙ ap (λ (o : Rust.Option Heights). heights_or o a.lent_heights) q);
          refusal = λ z. absurd (omega arith);
        }

    unpacked_by : (s : Result Summary Refusal) → answer present_edition words text ≡ s → SummaryCrosses s a.number a.lent_counts a.counts a.lent_heights a.heights
        → SummaryUnpacked words text a
    unfolding packed summary_number summary_counts summary_heights
    unpacked_by (Ok x) e X = summarized x x.heights refl e X
    unpacked_by (Err f) e X =
        let n = X.number_is in
        let p = summary_place present_edition words text f (sym e) in
        let s = some_number present_edition text (reading present_edition words text) f.number f.place (number_law present_edition words text) e in
        let d : f.number ≡ a.number / 4294967296 = omega arith in
        let m : f.place ≡ a.number % 4294967296 = omega arith in
        record {
          with_heights = λ z _. absurd (omega arith);
          without = λ z _. absurd (omega arith);
          refusal = λ _. (e ∙ (λ i. refused_at (d i) (m i)), X.counts_are, X.heights_are);
        }

pub summaries_unpacked : SummariesUnpacked
unfolding SummariesUnpacked
summaries_unpacked words text a = unpacked_by words text a (answer present_edition words text) refl a.crosses
