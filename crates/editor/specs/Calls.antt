-- Calls that were made one after the other on the same buffers, by what their contracts promise; and demand 3 of them. It is said of every
-- form in which answers may be given: the code's own, src/change.rt, is `Change`. The calls for C and Rust give theirs in numbers.
-- Assumes nothing.
use Rattle.std.specs.Prelude.{ℕ, ◌≡◌, List, [], ◌∷◌, map, length}
use Rattle.text.specs.declared.switches.Switches.{Switches}
use Rattle.editor.specs.declared.change.InUse.{InUse}
use Rattle.editor.specs.Edit.{Lent, lent_of, Report, Left, Shows, change_of, text_of, journal_of, Change}
use Rattle.editor.specs.Book.{Call, Seen, called, book, room_of, Start}

-- a call that was made: which it was, and what it left
pub record Made (Form : Type 0) : Type 0 where
  pub call : Call
  pub left : Left Form

-- `give` is an answer in the form in which it is given, and `lengths` both lengths in use by it
module _ {Form : Type 0} (give : Report → Form) (lengths : Form → InUse) where
  -- demand 3: "Each call gets the text, journal and table buffers as the last one left them, and the lengths last answered". The table is
  -- handed on beside these.
  unfoldable pub left_lent : Left Form → Lent
  left_lent l = lent_of l.text l.journal (lengths l.answer)

  -- calls of which each keeps its contract, and gets what the last one left: "Nobody else writes them meanwhile."
  unfoldable pub Successive : Switches → Lent → (table : List ℕ) → List (Made Form) → Type 0
  Successive sw b table [] = Unit {0}
  Successive sw b table (m ∷ ms) =
      Shows give (called sw (length table) b m.call) m.left × Successive sw (left_lent m.left) m.left.table ms

  -- what is compared after a call that was made; in use are the lengths that it answered
  unfoldable pub seen_left : Left Form → Seen Form
  seen_left l = record { answer = l.answer; text = text_of (left_lent l); journal = journal_of (left_lent l); table = l.table }

  -- what the book says, with its answer in the same form
  unfoldable pub seen_as : Seen Report → Seen Form
  seen_as s = record { answer = give s.answer; text = s.text; journal = s.journal; table = s.table }

  -- Demand 3 of such calls: every list of them, from a text that reads and an empty journal, shows what the book says
  unfoldable pub Demand3Of : Switches → Type 0
  Demand3Of sw =
      (b : Lent) (table : List ℕ) → Start sw (length table) b → (ms : List (Made Form)) → Successive sw b table ms
      → map (λ (m : Made Form). seen_left m.left) ms ≡ map seen_as (book sw (room_of (length table) b) (text_of b) [] (map (λ (m : Made Form). m.call) ms))

-- Demand 3 of the code's calls
abbrev pub Demand3OfCode : Switches → Type 0
Demand3OfCode sw = Demand3Of change_of (λ (c : Change). c.used) sw
