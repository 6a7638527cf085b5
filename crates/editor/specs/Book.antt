-- The plain book of demand 3, and the claim about every list of calls.
-- Assumes nothing.
use Rattle.std.specs.Prelude.{ℕ, ◌≤◌, min, ◌≡◌, not, cond, List, [], ◌∷◌, ◌++◌, T, leb, ltb, eqb, length}
use Rattle.text.specs.declared.switches.Switches.{Switches}
use Rattle.reader.specs.Reading.{reading, reads, node_count, table_of, one_value, max_text}
use Rattle.editor.specs.Edit.{Lent, lent_of, in_use, Report, Result, text_of, journal_of, corrected, entry_of, correct, undo}

-- "each a node number and a replacement"
pub record Correction : Type 0 where
  pub node : ℕ
  pub replacement : List ℕ

-- "whether it corrects or undoes, with a correction's node number and replacement"
pub data Call : Type 0 where
  correction : Correction → Call
  undoing : Call

-- "the lengths of the lent buffers": the text's bytes, the journal's bytes, the table's words
pub record Room : Type 0 where
  pub text : ℕ
  pub journal : ℕ
  pub words : ℕ

-- what is compared after a call: the answer, in the form in which it is given, the text in use, the journal in use and the whole table
pub record Seen (Form : Type 0) : Type 0 where
  pub answer : Form
  pub text : List ℕ
  pub journal : List ℕ
  pub table : List ℕ

-- ---- the book: the corrections in force, the last one first

module _ (sw : Switches) (room : Room) (first : List ℕ) where
  -- "Its text is the first text with these made in order"
  unfoldable pub book_text : List Correction → List ℕ
  book_text [] = first
  book_text (c ∷ cs) = corrected sw room.words c.node c.replacement (book_text cs)

  -- "The journal in use is these entries in order"
  unfoldable pub book_journal : List Correction → List ℕ
  book_journal [] = []
  book_journal (c ∷ cs) = book_journal cs ++ entry_of sw room.words c.node c.replacement (book_text cs)

  -- "A correction is refused with the first that holds": 12; 13; 14; 15, "the entries in force and its own together are longer than
  -- the lent journal"; 16; 0 if none holds
  unfoldable pub book_refusal : List Correction → Correction → ℕ
  book_refusal cs c =
      cond (leb (node_count (reading sw room.words (book_text cs))) c.node) 12
      (cond (not (one_value sw (ltb 0 c.node) c.replacement)) 13
      (cond (ltb (min room.text max_text) (length (book_text (c ∷ cs)))) 14
      (cond (ltb room.journal (length (book_journal (c ∷ cs)))) 15
      (cond (not (reads sw room.words (book_text (c ∷ cs)))) 16
      0))))

  -- "Each answer is the refusal, at 0, or none; then the node count .. that text's length and the total length of the entries"
  unfoldable pub told : (refusal : ℕ) → List Correction → Seen Report
  told refusal cs =
      record {
        answer = record {
          number = refusal;
          place = 0;
          nodes = node_count (reading sw room.words (book_text cs));
          used = in_use (length (book_text cs)) (length (book_journal cs));
        };
        text = book_text cs;
        journal = book_journal cs;
        table = table_of room.words (reading sw room.words (book_text cs));
      }

  -- "Else it is added as the last in force."; "An undo is refused with 17 if none is in force. Else the last is dropped."; "A refused call
  -- changes nothing."
  unfoldable pub book_after : List Correction → Call → List Correction
  book_after cs (correction c) = cond (eqb (book_refusal cs c) 0) (c ∷ cs) cs
  book_after [] undoing = []
  book_after (c ∷ cs) undoing = cs

  -- the refusal of a call, or 0: "An undo is refused with 17 if none is in force"
  unfoldable pub book_number : List Correction → Call → ℕ
  book_number cs (correction c) = book_refusal cs c
  book_number [] undoing = 17
  book_number (c ∷ cs) undoing = 0

  -- demand 3: "In force are the accepted ones not undone; an undo takes back the latest of them"; those after a list of calls
  unfoldable pub in_force : List Correction → List Call → List Correction
  in_force cs [] = cs
  in_force cs (k ∷ ks) = in_force (book_after cs k) ks

  -- what the book says after each call of a list
  unfoldable pub book : List Correction → List Call → List (Seen Report)
  book cs [] = []
  book cs (k ∷ ks) = told (book_number cs k) (book_after cs k) ∷ book (book_after cs k) ks

-- ---- the calls themselves, one after the other on the same buffers

-- demand 3: "Each call gets the text, journal and table buffers as the last one left them, and the lengths last answered". Of the table a
-- call takes the count of its words alone, and every table that is left has as many (`table_law`).
unfoldable pub handed_on : Result → Lent
handed_on r = lent_of r.lent.text r.lent.journal r.answer.used

-- what is seen of a call: the text and the journal are those in use by the lengths it answered
unfoldable pub seen_of : Result → Seen Report
seen_of r = record { answer = r.answer; text = text_of (handed_on r); journal = journal_of (handed_on r); table = r.table }

module _ (sw : Switches) (words : ℕ) where
  -- one call on the lent buffers, with a table of so many words
  unfoldable pub called : Lent → Call → Result
  called b (correction c) = correct sw words b c.node c.replacement
  called b undoing = undo sw words b

  -- what is seen after each call of a list
  unfoldable pub calls : Lent → List Call → List (Seen Report)
  calls b [] = []
  calls b (k ∷ ks) = seen_of (called b k) ∷ calls (handed_on (called b k)) ks

  -- the buffers and lengths after a list of calls
  unfoldable pub after : Lent → List Call → Lent
  after b [] = b
  after b (k ∷ ks) = after (handed_on (called b k)) ks

-- "the lengths of the lent buffers" of a call
unfoldable pub room_of : (words : ℕ) → Lent → Room
room_of words b = record { text = length b.text; journal = length b.journal; words = words }

-- demand 3: "Start with a text that reads and an empty journal"; its length in use lies within its buffer, or there would be no text
pub record Start (sw : Switches) (words : ℕ) (b : Lent) : Type 0 where
  pub within : b.used.text ≤ length b.text
  pub empty : b.used.journal ≡ 0
  pub first_reads : T (reads sw words (text_of b))

-- Demand 3, "a single claim about the list": every list of calls shows what the book says
unfoldable pub Demand3 : Switches → Type 0
Demand3 sw =
    (words : ℕ) (b : Lent) → Start sw words b
    → (ks : List Call) → calls sw words b ks ≡ book sw (room_of words b) (text_of b) [] ks
