-- A correction's or an undo's answer at the boundary: its place is small enough to be packed, and the code's answer has its number.
-- Assumes nothing.
use Rattle.std.specs.Prelude.{Ok, Err}
use mathlib.Core.Path.{◌≡◌, refl, sym, ap, ◌∙◌, subst}
use Prim.Native.Nat.{ℕ, ◌≤◌}
use native.Mathlib.Omega.{arith}
use mathlib.Core.Bool.{Bool, true, false, cond}
use mathlib.Core.List.{List}
use lib.Dec.{eqb}
use Rattle.text.specs.Refusal.{Refusal, refusal}
use Rattle.text.specs.declared.switches.Switches.{Switches}
use Rattle.text.proofs.Choice.{cond_both}
use Rattle.reader.specs.Syntax.{Outcome, taken, refused}
use Rattle.reader.specs.Reading.{reading, max_text}
use Rattle.reader.proofs.PlaceBound.{PlaceWithin, place_law}
use Rattle.std.specs.declared.result.Result as Rust
use Rattle.editor.specs.Edit.{Lent, Report, Result, text_of, verdict_of, change_of, leaving, Shows, bad_length, length_refused, result_of, decided, once_read, correction_refusal, with_correction, correct, undo_refusal, with_undo, undo, Change}
use Rattle.duper.specs.Numbers.{packed, change_number, change_words, crossing, crossed}
use Rattle.duper.specs.Internal.{verdict_number, PlaceFits, words_of}

-- ---- places

SmallPlace : Result → Type 0
SmallPlace r = r.answer.place ≤ max_text

module _ (sw : Switches) (words : ℕ) (b : Lent) (refusal : ℕ) (new : Lent) where
  read_place : (o : Outcome) → PlaceWithin max_text o → SmallPlace (once_read sw words b o refusal new)
  unfolding once_read decided result_of SmallPlace PlaceWithin
  read_place (taken tree) h = cond_both SmallPlace (eqb refusal 0) (λ _. omega arith) (λ _. omega arith)
  read_place (refused number place) h = h

  opened_place : SmallPlace (cond (bad_length b) (length_refused words b) (once_read sw words b (reading sw words (text_of b)) refusal new))
  unfolding SmallPlace length_refused
  opened_place =
      cond_both SmallPlace (bad_length b) (λ _. omega arith) (λ _. read_place (reading sw words (text_of b)) (place_law sw words (text_of b)))

pub correct_place : (sw : Switches) (words : ℕ) (b : Lent) (node : ℕ) (replacement : List ℕ) → (correct sw words b node replacement).answer.place ≤ max_text
unfolding correct SmallPlace
correct_place sw words b node replacement =
    opened_place sw words b (correction_refusal sw words b node replacement) (with_correction sw words b node replacement)

pub undo_place : (sw : Switches) (words : ℕ) (b : Lent) → (undo sw words b).answer.place ≤ max_text
unfolding undo SmallPlace
undo_place sw words b = opened_place sw words b (undo_refusal sw words b) (with_undo b)

-- ---- numbers

module _ (a : Report) where
  verdict_fits : a.place ≤ max_text → PlaceFits (change_of a).verdict
  unfolding change_of verdict_of PlaceFits
  verdict_fits h = cond_both PlaceFits (eqb a.number 0) (λ _. tt) (λ _. h)

  verdict_number_law : verdict_number (change_of a).verdict ≡ change_number a
  unfolding change_of verdict_of verdict_number change_number
  verdict_number_law = by (eqb a.number 0)
    where
      by : (t : Bool) → verdict_number (cond t (Ok tt) (Err (refusal a.number a.place))) ≡ cond t 0 (packed (refusal a.number a.place))
      by true = refl
      by false = refl

pub fits : {result : Result} {r : Change} {text journal table : List ℕ} → result.answer.place ≤ max_text → Shows change_of result (leaving r text journal table) → PlaceFits r.verdict
fits {result} h s = rw s.answer_is (verdict_fits result.answer h)

pub change_crosses : {result : Result} {r : Change} {text journal table answer : List ℕ} {n : ℕ} → Shows change_of result (leaving r text journal table) → n ≡ verdict_number r.verdict
    → answer ≡ words_of r → Shows crossed result (leaving (crossing n answer) text journal table)
unfolding words_of change_of change_words crossed
change_crosses {result} {r} s e f =
    record {
      answer_is = λ i. crossing
          ((e ∙ ap (λ (c : Change). verdict_number c.verdict) s.answer_is ∙ verdict_number_law result.answer) i)
          ((f ∙ ap words_of s.answer_is) i);
      text_is = s.text_is;
      journal_is = s.journal_is;
      table_is = s.table_is;
    }

-- ---- what `tell` answers, by cases of the verdict

module _ {v : Rust.Result Unit Refusal} where
  pub told_done : v ≡ (Ok tt) → 0 ≡ verdict_number v
  unfolding verdict_number
  told_done e = sym (ap verdict_number e)

  module _ {f : Refusal} (e : v ≡ Err f) where
    pub told_refused : packed f ≡ verdict_number v
    unfolding verdict_number
    told_refused = sym (ap verdict_number e)

    pub told_place : PlaceFits v → f.place ≤ max_text
    unfolding PlaceFits
    told_place h = subst PlaceFits e h
