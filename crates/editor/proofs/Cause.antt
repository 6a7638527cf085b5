-- Document 01, "Corrections": "16 covers every refusal of the resulting text; after a correction only 9 or 10 can be the cause."
-- Assumes nothing.
use mathlib.Core.Path.{◌≡◌, refl, sym, ap, ◌∙◌, subst}
use mathlib.Core.Logic.{◌⊎◌, inl, inr}
use Prim.Native.Nat.{ℕ, ◌+◌, min}
use native.Mathlib.Omega.{arith}
use mathlib.Core.Bool.{Bool, true, false, not}
use mathlib.Core.List.{List, ◌∷◌, ◌++◌}
use lib.Dec.{T, leb, ltb, eqb}
use lib.ListN.{length, replicate}
use borrow.Author.Tests.{leb-false, ltb-false, not-false, not-true}
use Rattle.text.specs.declared.switches.Switches.{Switches}
use Rattle.text.specs.Switches.{present_edition}
use Rattle.text.specs.Bytes.{ascii}
use Rattle.text.proofs.Choice.{cond-case, is_true}
use Rattle.reader.specs.Syntax.{Outcome, taken, refused}
use Rattle.reader.specs.Reading.{reading, reads, is_taken, node_count, one_value, max_text}
use Rattle.reader.proofs.LimitLaws.{Limit, deep, many, Fair}
use Rattle.reader.proofs.ReplaceLaws.{replaced_reading}
use Rattle.editor.specs.Edit.{Lent, lent_of, in_use, Result, text_of, splice, no_room, bad_length, length_refused, result_of, decided, value_start, value_stop, corrected, entry_of, correction_refusal, with_correction, correct}
use Rattle.editor.proofs.CallLaws.{once_read_law}
use Rattle.editor.proofs.Computing.{editing}

-- ---- "only 9 or 10": the text reads, or is refused with 9 or with 10

pub data OnlyLimits : Outcome → Type 0 where
  text_reads : {o : Outcome} → T (is_taken o) → OnlyLimits o
  too_deep : (place : ℕ) → OnlyLimits (refused 9 place)
  too_many : (place : ℕ) → OnlyLimits (refused 10 place)

limit_only : {k : ℕ} (place : ℕ) → Limit k → OnlyLimits (refused k place)
limit_only place deep = too_deep place
limit_only place many = too_many place

fair_only : (o : Outcome) → Fair o → OnlyLimits o
unfolding Fair is_taken
fair_only (taken t) h = text_reads tt
fair_only (refused k place) h = limit_only place h

module _ (sw : Switches) (words : ℕ) where
  -- the text reads, and 12, 13 and 14 are not given: with the premises of 16 but for 15, which is not needed
  pub corrected_reading : (node : ℕ) (replacement text : List ℕ) (room : ℕ) → T (reads sw words text)
      → leb (node_count (reading sw words text)) node ≡ false
      → one_value sw (ltb 0 node) replacement ≡ true
      → no_room (corrected sw words node replacement text) room ≡ false
      → OnlyLimits (reading sw words (corrected sw words node replacement text))
  unfolding corrected splice value_start value_stop no_room
  corrected_reading node replacement text room h no-12 no-13 no-14 =
      let k = leb-false (node_count (reading sw words text)) node no-12 in
      let l = ltb-false (min room max_text) (length (corrected sw words node replacement text)) no-14 in
      fair_only (reading sw words (corrected sw words node replacement text)) (replaced_reading sw words node text replacement h k no-13 (omega arith))

  -- ---- the cause of 16

  -- the resulting text is refused with 9 or with 10
  abbrev pub Cause : (node : ℕ) (replacement text : List ℕ) → Type 0
  Cause node replacement text =
      (place : ℕ) × ((reading sw words (corrected sw words node replacement text) ≡ refused 9 place)
      ⊎ (reading sw words (corrected sw words node replacement text) ≡ refused 10 place))

  -- "after a correction only 9 or 10 can be the cause": a correction of a text that reads is refused with 16 (so not with 12, 13, 14, 15) only if
  -- the resulting text is refused with 9 or 10
  pub only_9_or_10 : (b : Lent) (node : ℕ) (replacement : List ℕ) → T (reads sw words (text_of b)) → correction_refusal sw words b node replacement ≡ 16
      → Cause node replacement (text_of b)
  unfolding correction_refusal reads
  only_9_or_10 b node replacement h e =
      cond-case Is16 Goal (leb (node_count (reading sw words (text_of b))) node) e (λ _ q. absurd (omega arith))
      (λ no-12 e₁. cond-case Is16 Goal (not (one_value sw (ltb 0 node) replacement)) e₁ (λ _ q. absurd (omega arith))
      (λ no-13 e₂. cond-case Is16 Goal (no_room (corrected sw words node replacement (text_of b)) (length b.text)) e₂ (λ _ q. absurd (omega arith))
      (λ no-14 e₃. cond-case Is16 Goal (ltb (length b.journal) (b.used.journal + length (entry_of sw words node replacement (text_of b)))) e₃
      (λ _ q. absurd (omega arith))
      (λ no-15 e₄. cond-case Is16 Goal (not (is_taken new)) e₄
      (λ not-read _. cause (not-true (is_taken new) not-read) refl
      (corrected_reading node replacement (text_of b) (length b.text) h no-12 (not-false (one_value sw (ltb 0 node) replacement) no-13) no-14))
      (λ _ q. absurd (omega arith))))))
    where
      Is16 : ℕ → Type 0
      Is16 n = n ≡ 16

      new : Outcome
      new = reading sw words (corrected sw words node replacement (text_of b))

      Goal : Type 0
      Goal = Cause node replacement (text_of b)

      cause : {o : Outcome} → is_taken new ≡ false → o ≡ new → OnlyLimits o → Goal
      cause n q (text_reads t) = absurd (subst (λ (x : Bool). T x) (ap is_taken q ∙ n) t)
      cause n q (too_deep place) = (place, inl (sym q))
      cause n q (too_many place) = (place, inr (sym q))

  -- the same of the answer of the call
  abbrev number_of : Result → ℕ
  number_of r = r.answer.number

  decided_16 : (b : Lent) (refusal : ℕ) (new : Lent) → number_of (decided sw words b refusal new) ≡ 16 → refusal ≡ 16
  unfolding decided result_of
  decided_16 b refusal new e =
      cond-case (λ (r : Result). number_of r ≡ 16) (refusal ≡ 16) (eqb refusal 0) e (λ _ q. absurd (omega arith)) (λ _ q. q)

  pub correct_16 : (b : Lent) (node : ℕ) (replacement : List ℕ) → T (reads sw words (text_of b)) → (correct sw words b node replacement).answer.number ≡ 16
      → Cause node replacement (text_of b)
  unfolding correct length_refused reads
  correct_16 b node replacement h e =
      let refusal : ℕ = correction_refusal sw words b node replacement in
      let new : Lent = with_correction sw words b node replacement in
      only_9_or_10 b node replacement h
      (cond-case (λ (r : Result). number_of r ≡ 16) (refusal ≡ 16) (bad_length b) e (λ _ q. absurd (omega arith))
      (λ _ q. decided_16 b refusal new
      (ap number_of (sym (once_read_law sw words b (reading sw words (text_of b)) refusal new (is_true (is_taken (reading sw words (text_of b))) h))) ∙ q)))

-- ---- both are causes: the sentence is sharp

-- a text with 8 bytes more in its buffer, and a journal of 32
abbrev given : List ℕ → Lent
given text = lent_of (text ++ replicate 8 0) (replicate 32 0) (in_use (length text) 0)

-- `[1]`, in a table of two nodes
abbrev small : Lent
small = given (ascii "[1]")

-- 1 in 31 arrays
abbrev nested : Lent
nested = given (replicate 31 91 ++ (49 ∷ replicate 31 93))

pub record BothOccur : Type 0 where
  pub refused_10 : (correct present_edition 24 small 1 (ascii "[2]")).answer.number ≡ 16
  pub by_10 : reading present_edition 24 (corrected present_edition 24 1 (ascii "[2]") (text_of small)) ≡ refused 10 2
  pub refused_9 : (correct present_edition 49152 nested 31 (ascii "[[]]")).answer.number ≡ 16
  pub by_9 : reading present_edition 49152 (corrected present_edition 49152 31 (ascii "[[]]") (text_of nested)) ≡ refused 9 32

pub both_occur : BothOccur
unfolding editing
both_occur = record { refused_10 = refl; by_10 = refl; refused_9 = refl; by_9 = refl }
