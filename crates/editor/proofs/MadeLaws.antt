-- Demand 3 of calls that were made: whatever keeps the contracts of a correction and an undo, call after call, shows what the book says.
-- Assumes nothing.
use mathlib.Core.Path.{◌≡◌, refl, ap, ap₂, ◌∙◌, subst}
use Prim.Native.Nat.{ℕ}
use mathlib.Core.List.{List, [], ◌∷◌, map}
use lib.Dec.{eqb}
use lib.ListN.{length, length-replicate}
use Rattle.text.specs.declared.switches.Switches.{Switches}
use Rattle.text.proofs.Choice.{cond_both}
use Rattle.reader.specs.Syntax.{Outcome, taken, refused}
use Rattle.reader.specs.Reading.{reading}
use Rattle.reader.proofs.SizeLaws.{table_law}
use Rattle.editor.specs.declared.change.InUse.{InUse}
use Rattle.editor.specs.Edit.{Lent, lent_of, Report, Result, Left, Shows, change_of, text_of, journal_of, bad_length, length_refused, result_of, decided, once_read, correct, undo, Change}
use Rattle.editor.specs.Book.{Call, correction, undoing, handed_on, seen_of, called, calls, Demand3}
use Rattle.editor.specs.Internal.{opened}
use Rattle.editor.specs.Calls.{Made, left_lent, Successive, seen_left, seen_as, Demand3Of, Demand3OfCode}
use Rattle.editor.proofs.Demand3.{demand_3}

-- ---- every table that is left is as long as the one that was lent

module _ (sw : Switches) (words : ℕ) where
  abbrev Long : Result → Type 0
  Long r = length r.table ≡ words

  once_long : (b : Lent) (o : Outcome) (refusal : ℕ) (new : Lent) → Long (once_read sw words b o refusal new)
  unfolding once_read decided result_of
  once_long b (taken tree) refusal new = cond_both Long (eqb refusal 0) (λ _. table_law sw words (text_of new)) (λ _. table_law sw words (text_of b))
  once_long b (refused number place) refusal new = table_law sw words (text_of b)

  opened_long : (b : Lent) (refusal : ℕ) (new : Lent) → Long (opened sw words b refusal new)
  unfolding length_refused
  opened_long b refusal new = cond_both Long (bad_length b) (λ _. length-replicate words 0) (λ _. once_long b (reading sw words (text_of b)) refusal new)

  called_long : (b : Lent) (k : Call) → Long (called sw words b k)
  unfolding called correct undo
  called_long b (correction c) = opened_long b _ _
  called_long b undoing = opened_long b _ _

-- ---- by the form in which answers are given

module _ {Form : Type 0} (give : Report → Form) (lengths : Form → InUse) (told : (a : Report) → lengths (give a) ≡ a.used) where
  module _ (res : Result) (l : Left Form) (s : Shows give res l) where
    left_lent_law : left_lent give lengths l ≡ handed_on res
    unfolding left_lent handed_on
    left_lent_law =
        (λ i. lent_of (s.text_is i) (s.journal_is i) (lengths (s.answer_is i)))
        ∙ ap (lent_of res.lent.text res.lent.journal) (told res.answer)

    left_seen : seen_left give lengths l ≡ seen_as give lengths (seen_of res)
    unfolding seen_left seen_as seen_of
    left_seen =
        λ i. record { answer = s.answer_is i; text = text_of (left_lent_law i); journal = journal_of (left_lent_law i); table = s.table_is i }

  module _ (sw : Switches) (words : ℕ) where
    made_seen : (b : Lent) (table : List ℕ) (ms : List (Made Form)) → length table ≡ words → Successive give lengths sw b table ms
        → map (λ (m : Made Form). seen_left give lengths m.left) ms ≡ map (seen_as give lengths) (calls sw words b (map (λ (m : Made Form). m.call) ms))
    unfolding Successive calls
    made_seen b table [] l ch = refl
    made_seen b table (m ∷ ms) l ch =
        let res : Result = called sw words b m.call in
        let s : Shows give res m.left = subst (λ (w : ℕ). Shows give (called sw w b m.call) m.left) l ch.0 in
        ap₂ ◌∷◌ (left_seen res m.left s)
        (made_seen (handed_on res) m.left.table ms (ap length s.table_is ∙ called_long sw words b m.call)
        (subst (λ (x : Lent). Successive give lengths sw x m.left.table ms) (left_lent_law res m.left s) ch.1))

  -- Demand 3 of calls that give their answers in this form
  pub demand_3_of : (sw : Switches) → Demand3Of give lengths sw
  unfolding Demand3Of Demand3
  demand_3_of sw b table start ms ch =
      made_seen sw (length table) b table ms refl ch
      ∙ ap (map (seen_as give lengths)) (demand_3 sw (length table) b start (map (λ (m : Made Form). m.call) ms))

-- Demand 3, of the code. `correct` and `undo` are `correct_edition` and `undo_edition` with the present edition.
pub demand_3_of_code : (sw : Switches) → Demand3OfCode sw
unfolding change_of
demand_3_of_code sw = demand_3_of change_of (λ (c : Change). c.used) (λ a. refl) sw
