-- Corrections and undo on the lent buffers (document 01, "Corrections"). The code answers with a struct of its own, src/change.rt:
-- `change_of` gives it.
-- Assumes nothing.
use Rattle.std.specs.Prelude.{ℕ, ◌+◌, ◌-◌, ◌*◌, ◌/◌, ◌%◌, min, max, ◌≡◌, Bool, not, cond, ◌||◌, List, [], ◌∷◌, ◌++◌, leb, ltb, eqb, length, take, drop, get_or, replicate, Ok, Err}
use Rattle.text.specs.Buffers.{overwritten}
use Rattle.text.specs.declared.switches.Switches.{Switches}
use Rattle.reader.specs.Syntax.{Outcome, taken, refused}
use Rattle.reader.specs.Reading.{reading, reads, node_count, table_of, word_of, one_value, max_text}
use Rattle.reader.specs.Content.{part}
use Rattle.text.specs.Refusal.{refusal, Refusal, told}
use Rattle.editor.specs.declared.change.InUse.{InUse}
use Rattle.std.specs.declared.result.Result as Rust
use Rattle.editor.specs.declared.change.Change as Code

-- ---- what is lent, and what comes back

-- both lengths in use: the code's struct, src/change.rt
abbrev pub in_use : (text journal : ℕ) → InUse
in_use text journal = record { text = text; journal = journal }

-- the text buffer and the journal, with the length in use of each
pub record Lent : Type 0 where
  pub text : List ℕ
  pub journal : List ℕ
  pub used : InUse

-- what is lent, from its parts
abbrev pub lent_of : (text journal : List ℕ) → InUse → Lent
lent_of text journal used = record { text = text; journal = journal; used = used }

-- the text in use
unfoldable pub text_of : Lent → List ℕ
text_of b = take b.used.text b.text

-- the journal in use
unfoldable pub journal_of : Lent → List ℕ
journal_of b = take b.used.journal b.journal

-- an answer: the refusal and its place, both 0 if there is none; "Each answer gives the node count and both lengths in use"
pub record Report : Type 0 where
  pub number : ℕ
  pub place : ℕ
  pub nodes : ℕ
  pub used : InUse

-- an answer, what the lent buffers then hold, and the table
pub record Result : Type 0 where
  pub answer : Report
  pub lent : Lent
  pub table : List ℕ

-- the code's answer, src/change.rt, its refusal by number and place
pub record Change : Type 0 where
  pub verdict : Rust.Result Unit Refusal
  pub nodes : ℕ
  pub used : InUse

abbrev pub told_change : Code.Change → Change
told_change c = record { verdict = told c.verdict; nodes = c.nodes; used = c.used }

-- its verdict: done where there is no refusal, or else document 01's number and place
unfoldable pub verdict_of : (number place : ℕ) → Rust.Result Unit Refusal
verdict_of number place = cond (eqb number 0) (Ok tt) (Err (refusal number place))

-- the code's answer with the node count and both lengths in use
unfoldable pub change_of : Report → Change
change_of a = record { verdict = verdict_of a.number a.place; nodes = a.nodes; used = a.used }

-- what a call leaves: its answer, in the form in which it is given, and all that each buffer then holds
pub record Left (Form : Type 0) : Type 0 where
  pub answer : Form
  pub text : List ℕ
  pub journal : List ℕ
  pub table : List ℕ

-- what a call leaves, from its parts
abbrev pub leaving : {Form : Type 0} → Form → (text journal table : List ℕ) → Left Form
leaving answer text journal table = record { answer = answer; text = text; journal = journal; table = table }

-- a call leaves the result, with its answer given in a form of `give`
pub record Shows {Form : Type 0} (give : Report → Form) (result : Result) (left : Left Form) : Type 0 where
  pub answer_is : left.answer ≡ give result.answer
  pub text_is : left.text ≡ result.lent.text
  pub journal_is : left.journal ≡ result.lent.journal
  pub table_is : left.table ≡ result.table

-- 11 "a length in use exceeds its buffer"
unfoldable pub bad_length : Lent → Bool
bad_length b = ltb (length b.text) b.used.text || ltb (length b.journal) b.used.journal

-- "11, leave every table word 0 and a node count of 0"
unfoldable pub length_refused : (words : ℕ) → Lent → Result
length_refused words b =
    record {
      answer = record { number = 11; place = 0; nodes = 0; used = b.used };
      lent = b;
      table = replicate words 0;
    }

-- ---- texts and entries

-- a text with the bytes from `start` to before `stop` replaced
unfoldable pub splice : (start stop : ℕ) (replacement text : List ℕ) → List ℕ
splice start stop replacement text = take start text ++ (replacement ++ drop stop text)

-- the bytes of a 32-bit number, "low byte first"
unfoldable pub le32 : ℕ → List ℕ
le32 n = (n % 256) ∷ (n / 256 % 256) ∷ (n / 65536 % 256) ∷ (n / 16777216 % 256) ∷ []

-- the 32-bit number that the first four bytes are, "low byte first"
unfoldable pub from_le32 : List ℕ → ℕ
from_le32 s = get_or s 0 0 + get_or s 1 0 * 256 + get_or s 2 0 * 65536 + get_or s 3 0 * 16777216

-- the bytes of a trailer: "three 32-bit numbers"
abbrev pub trailer_bytes : ℕ
trailer_bytes = 12

-- "three 32-bit numbers, low byte first: start; replacement length; old length plus 12, which is the whole entry"
unfoldable pub trailer : (start new old : ℕ) → List ℕ
trailer start new old = le32 start ++ (le32 new ++ le32 (old + trailer_bytes))

-- "A correction's entry is the bytes it replaces, then the trailer above": the bytes from `start` to before `stop`
unfoldable pub entry : (start stop : ℕ) (replacement text : List ℕ) → List ℕ
entry start stop replacement text = part start stop text ++ trailer start (length replacement) (stop - start)

-- the text buffer with a new text: "Bytes the text no longer uses become 0; later ones stay"
unfoldable pub with_text : (used : ℕ) (new buffer : List ℕ) → List ℕ
with_text used new buffer = new ++ (replicate (used - length new) 0 ++ drop (max used (length new)) buffer)

-- 14 "new length over the buffer or 65,536"
unfoldable pub no_room : (new : List ℕ) (room : ℕ) → Bool
no_room new room = ltb (min room max_text) (length new)

-- ---- the last entry of a journal

-- "three 32-bit numbers", counted from 0, of the trailer at the journal's end
unfoldable pub trailer_number : (i : ℕ) → List ℕ → ℕ
trailer_number i journal = from_le32 (drop (length journal - trailer_bytes + 4 * i) journal)

-- the trailer's first number, "start"
abbrev pub entry_start : List ℕ → ℕ
entry_start journal = trailer_number 0 journal

-- its second, "replacement length"
abbrev pub entry_new : List ℕ → ℕ
entry_new journal = trailer_number 1 journal

-- its third, "old length plus 12, which is the whole entry"
abbrev pub entry_size : List ℕ → ℕ
entry_size journal = trailer_number 2 journal

-- 18 "fewer than 12 bytes; third number under 12 or over the length in use; start plus replacement length over the text's"
unfoldable pub bad_entry : (journal text : List ℕ) → Bool
bad_entry journal text =
    ltb (length journal) trailer_bytes
    || ltb (entry_size journal) trailer_bytes
    || ltb (length journal) (entry_size journal)
    || ltb (length text) (entry_start journal + entry_new journal)

-- the bytes of the entry before its trailer
unfoldable pub old_bytes : List ℕ → List ℕ
old_bytes journal = part (length journal - entry_size journal) (length journal - trailer_bytes) journal

-- "It puts the old bytes back"
unfoldable pub undone : (journal text : List ℕ) → List ℕ
undone journal text = splice (entry_start journal) (entry_start journal + entry_new journal) (old_bytes journal) text

-- "zeroes text bytes no longer used, and cuts the entry off by length only"
unfoldable pub with_undo : Lent → Lent
with_undo b =
    let new : List ℕ = undone (journal_of b) (text_of b) in
    record {
      text = with_text b.used.text new b.text;
      journal = b.journal;
      used = in_use (length new) (b.used.journal - entry_size (journal_of b));
    }

-- ---- the calls, in an edition and with a table of so many words

module _ (sw : Switches) (words : ℕ) where
  -- ---- answers

  -- "After any of these the table is the reading of the text as it then stands"; of a refused reading the node count is 0
  unfoldable pub result_of : (number place : ℕ) → Lent → Result
  result_of number place b =
      record {
        answer = record { number = number; place = place; nodes = node_count (reading sw words (text_of b)); used = b.used };
        lent = b;
        table = table_of words (reading sw words (text_of b));
      }

  -- a refusal with nothing changed, or the new buffers
  unfoldable pub decided : Lent → (refusal : ℕ) → Lent → Result
  decided b refusal new = cond (eqb refusal 0) (result_of 0 0 new) (result_of refusal 0 b)

  -- "the present text is read (1 to 10)"; once it reads, the call has a refusal of its own, or new buffers
  unfoldable pub once_read : Lent → Outcome → (refusal : ℕ) → Lent → Result
  once_read b (taken tree) refusal new = decided b refusal new
  once_read b (refused number place) refusal new = result_of number place b

  -- ---- corrections

  -- word 2 of a node, its value's start, in the reading of a text
  unfoldable pub value_start : (node : ℕ) → List ℕ → ℕ
  value_start node text = word_of (table_of words (reading sw words text)) node 2

  -- word 3 of it, the value's end
  unfoldable pub value_stop : (node : ℕ) → List ℕ → ℕ
  value_stop node text = word_of (table_of words (reading sw words text)) node 3

  -- a text with a node's value, "words 2 to 3", replaced
  unfoldable pub corrected : (node : ℕ) (replacement text : List ℕ) → List ℕ
  corrected node replacement text = splice (value_start node text) (value_stop node text) replacement text

  -- "The journal gains the old bytes, then a trailer that points back"
  unfoldable pub entry_of : (node : ℕ) (replacement text : List ℕ) → List ℕ
  entry_of node replacement text = entry (value_start node text) (value_stop node text) replacement text

  -- "12; 13; 14 (new length over the buffer or 65,536); 15; 16", or 0; "for node 0 it must be a root"
  unfoldable pub correction_refusal : Lent → (node : ℕ) (replacement : List ℕ) → ℕ
  correction_refusal b node replacement =
      cond (leb (node_count (reading sw words (text_of b))) node) 12
      (cond (not (one_value sw (ltb 0 node) replacement)) 13
      (cond (no_room (corrected node replacement (text_of b)) (length b.text)) 14
      (cond (ltb (length b.journal) (b.used.journal + length (entry_of node replacement (text_of b)))) 15
      (cond (not (reads sw words (corrected node replacement (text_of b)))) 16
      0))))

  -- "An accepted correction puts it in place of words 2 to 3, and the bytes after the replaced value move". The journal gains its entry where
  -- its bytes in use end: "Other journal bytes stay"
  unfoldable pub with_correction : Lent → (node : ℕ) (replacement : List ℕ) → Lent
  with_correction b node replacement =
      let new : List ℕ = corrected node replacement (text_of b) in
      let more : List ℕ = entry_of node replacement (text_of b) in
      record {
        text = with_text b.used.text new b.text;
        journal = overwritten b.used.journal more b.journal;
        used = in_use (length new) (b.used.journal + length more);
      }

  -- "Order: 11; the present text is read (1 to 10); 12; .."
  unfoldable pub correct : Lent → (node : ℕ) (replacement : List ℕ) → Result
  correct b node replacement =
      cond (bad_length b) (length_refused words b)
      (once_read b (reading sw words (text_of b)) (correction_refusal b node replacement) (with_correction b node replacement))

  -- ---- undo

  -- "17 (length 0); 18 ..; 14; 16", or 0
  unfoldable pub undo_refusal : Lent → ℕ
  undo_refusal b =
      cond (eqb b.used.journal 0) 17
      (cond (bad_entry (journal_of b) (text_of b)) 18
      (cond (no_room (undone (journal_of b) (text_of b)) (length b.text)) 14
      (cond (not (reads sw words (undone (journal_of b) (text_of b)))) 16
      0)))

  -- "Undo order: 11; reading; 17 ..; 18 ..; 14; 16"
  unfoldable pub undo : Lent → Result
  undo b =
      cond (bad_length b) (length_refused words b)
      (once_read b (reading sw words (text_of b)) (undo_refusal b) (with_undo b))
