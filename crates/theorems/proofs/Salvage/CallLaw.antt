-- What a call of `duper_salvage` answers and leaves says whether the log was salvaged.
-- Assumes nothing.
use Rattle.std.specs.Prelude.{Err}
use mathlib.Core.Path.{◌≡◌, refl, sym, ap, ◌∙◌, subst}
use Prim.Native.Nat.{ℕ, ◌/◌, ◌%◌, ◌≤◌, ◌<◌}
use native.Mathlib.Omega.{arith}
use mathlib.Core.Logic.{inl, inr}
use mathlib.Core.List.{List}
use lib.ListN.{length}
use Rattle.text.specs.Switches.{present_edition}
use Rattle.text.specs.Refusal.{refusal}
use Rattle.salvage.specs.Salvage.{lines_of, kept_of, salvaged_text, SalvageResult, salvage_refused, salvage_done, salvage}
use Rattle.duper.specs.Numbers.{packed, salvage_number, salvage_words, SalvageCrosses}
use Rattle.theorems.specs.Salvage.{Salvage, SalvageCall, SalvageUnpacked, SalvagesUnpacked}
use Rattle.theorems.proofs.Salvage.ReadLaw.{OneOfThree, Ways, refused_by, done_by, way, written_by}

-- a refusal has a number, and its place is below 4294967296
three_range : (number place : ℕ) → OneOfThree number place → (1 ≤ number) × (place < 4294967296)
unfolding OneOfThree
three_range number place (inl k) = let n = k.0 in let p = k.1 in (omega arith, omega arith)
three_range number place (inr (inl n, p)) = (omega arith, omega arith)
three_range number place (inr (inr n, p)) = (omega arith, omega arith)

module _ (words : ℕ) (log : List ℕ) (a : SalvageCall words log) where
  unpacked_by : (r : SalvageResult) → salvage present_edition words log a.lent_out a.lent_verdicts ≡ r
      → Ways present_edition words log a.lent_out a.lent_verdicts r → SalvageCrosses r a.number a.answer a.out a.verdicts a.table
      → SalvageUnpacked words log a
  unfolding packed salvage_number salvage_words salvage_refused salvage_done
  unpacked_by r e (refused_by number place k) X =
      let n = X.number_is in
      let q = three_range number place k in
      let h = q.0 in
      let l = q.1 in
      let d : number ≡ a.number / 4294967296 = omega arith in
      let m : place ≡ a.number % 4294967296 = omega arith in
      record {
        written = λ z. absurd (omega arith);
        refusal = λ _. (ap (λ (x : SalvageResult). x.answer) e ∙ (λ i. Err (refusal (d i) (m i))), X.answer_is, X.out_is, X.verdicts_are);
        cleared = X.table_is;
      }
  unpacked_by r e (done_by F) X =
      let n = X.number_is in
      let bytes = length (salvaged_text (kept_of present_edition words (lines_of log))) in
      let lines = length (lines_of log) in
      record {
        written = λ _. (
          bytes,
          lines,
          X.answer_is,
          subst (λ (x : List ℕ). Salvage present_edition words log bytes lines a.lent_out a.lent_verdicts x a.verdicts) (sym X.out_is)
              (subst (Salvage present_edition words log bytes lines a.lent_out a.lent_verdicts _) (sym X.verdicts_are)
              (written_by present_edition words log a.lent_out a.lent_verdicts (salvage_done present_edition words (lines_of log) a.lent_out a.lent_verdicts) (done_by F) bytes lines refl)),
        );
        refusal = λ z. absurd (omega arith);
        cleared = X.table_is;
      }

pub salvages_unpacked : SalvagesUnpacked
unfolding SalvagesUnpacked
salvages_unpacked words log a =
    unpacked_by words log a (salvage present_edition words log a.lent_out a.lent_verdicts) refl
    (way present_edition words log a.lent_out a.lent_verdicts) a.crosses
