-- Req 07 for calls that were made, by what their contracts promise: the code's own `read_edition` (reader/src/read.rt), of which `read` is the
-- one of the present edition, and `duper_read` (duper/src/lib.rt) for C and Rust.
-- Assumes nothing.
use Rattle.std.specs.Prelude.{◌≡◌, ℕ, ◌≤◌, ◌<◌, true, List, length, Ok}
use Rattle.text.specs.declared.switches.Switches.{Switches}
use Rattle.text.specs.Switches.{present_edition}
use Rattle.std.specs.declared.result.Result.{Result}
use Rattle.text.specs.Refusal.{Refusal}
use Rattle.reader.specs.Reading.{reading, answer_of, table_of, max_text}
use Rattle.duper.specs.Numbers.{read_number}
use Rattle.theorems.specs.Insertion.{Insertion, may_insert, inserted_at, with_gaps, SameData}
use Rattle.theorems.specs.Nesting.{InParent}

-- ---- the code's own calls

-- a call of `read_edition` with a table of so many words: what it answered, and all that the table then held
pub record ReadCall (sw : Switches) (words : ℕ) (text : List ℕ) : Type 0 where
  pub answer : Result ℕ Refusal
  pub table : List ℕ
  pub answer_is : answer ≡ answer_of (reading sw words text)
  pub table_is : table ≡ table_of words (reading sw words text)

-- the text is read and taken, spaces and comments are inserted, and the new text is read into a table of the same size: it has as many nodes,
-- and the same data
unfoldable pub CommentsKeptOfCode : Type 0
CommentsKeptOfCode =
    (sw : Switches) (words : ℕ) (text : List ℕ) (added : List Insertion) (a : ReadCall sw words text) (b : ReadCall sw words (with_gaps added text)) (nodes : ℕ)
    → a.answer ≡ Ok nodes → may_insert sw text added ≡ true → length (with_gaps added text) ≤ max_text
    → (b.answer ≡ Ok nodes) × SameData (inserted_at added) nodes a.table b.table

-- in the table that a call leaves every node's span lies inside its parent's
unfoldable pub NestedOfCode : Type 0
NestedOfCode =
    (sw : Switches) (words : ℕ) (text : List ℕ) (a : ReadCall sw words text) (nodes node : ℕ) → a.answer ≡ Ok nodes → 0 < node → node < nodes
    → InParent a.table node

-- ---- the calls for C and Rust

-- a call of `duper_read` with a table of so many words: the number that it answered, and all that the table then held
pub record NumberCall (words : ℕ) (text : List ℕ) : Type 0 where
  pub number : ℕ
  pub table : List ℕ
  pub number_is : number ≡ read_number (reading present_edition words text)
  pub table_is : table ≡ table_of words (reading present_edition words text)

-- the same of two such calls: a number below 4294967296 is a node count, as a refusal's is at least 4294967296
unfoldable pub CommentsKeptOfCalls : Type 0
CommentsKeptOfCalls =
    (words : ℕ) (text : List ℕ) (added : List Insertion) (a : NumberCall words text) (b : NumberCall words (with_gaps added text))
    → a.number < 4294967296 → may_insert present_edition text added ≡ true → length (with_gaps added text) ≤ max_text
    → (b.number ≡ a.number) × SameData (inserted_at added) a.number a.table b.table

-- and of the table that such a call leaves
unfoldable pub NestedOfCalls : Type 0
NestedOfCalls =
    (words : ℕ) (text : List ℕ) (a : NumberCall words text) (node : ℕ) → a.number < 4294967296 → 0 < node → node < a.number
    → InParent a.table node
