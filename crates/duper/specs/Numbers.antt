-- Answers as numbers: a reading's, that of a content call, those of a correction or an undo, that of a path, those of a summary and those of a
-- salvage.
-- Assumes nothing.
use Rattle.std.specs.Prelude.{ℕ, ◌+◌, ◌*◌, ◌≡◌, cond, List, [], ◌∷◌, eqb, Float, length, Some, None, Ok, Err}
use Rattle.text.specs.Refusal.{Refusal, refusal}
use Rattle.reader.specs.Tree.{size}
use Rattle.reader.specs.Syntax.{Outcome, taken, refused}
use Rattle.reader.specs.Content as C
use Rattle.editor.specs.Edit.{Report}
use Rattle.std.specs.declared.result.Result.{Result}
use Rattle.summary.specs.declared.summary.Summary.{Summary}
use Rattle.std.specs.declared.option.Option as Rust
use Rattle.summary.specs.declared.summary.Heights.{Heights}
use Rattle.salvage.specs.declared.salvage.Salvaged.{Salvaged}
use Rattle.salvage.specs.Salvage.{SalvageResult}

-- "refusal times 4294967296 plus ..": a refusal as one number, with its place
unfoldable pub packed : Refusal → ℕ
packed f = f.number * 4294967296 + f.place

-- "a C function answering refusal times 4294967296 plus the bytes written"
unfoldable pub content_number : C.ContentAnswer → ℕ
content_number (C.given content) = length content
content_number (C.refused number) = packed (refusal number 0)

-- the papers say this of the content call. Reading has a node count for the bytes written and, when refused, a place ("Numbers of refusal"),
-- and is packed the same way.
unfoldable pub read_number : Outcome → ℕ
read_number (taken tree) = size tree
read_number (refused number place) = packed (refusal number place)

-- a correction's or an undo's refusal is packed the same way with its place; 0 if there is none
unfoldable pub change_number : Report → ℕ
change_number a = cond (eqb a.number 0) 0 (packed (refusal a.number a.place))

-- "Each answer gives the node count and both lengths in use": three numbers, the text's length before the journal's
unfoldable pub change_words : Report → List ℕ
change_words a = a.nodes ∷ a.used.text ∷ a.used.journal ∷ []

-- the form in which a correction or an undo gives its answer at the boundary: its number, and the three numbers
pub record Crossed : Type 0 where
  pub number : ℕ
  pub words : List ℕ

-- what crosses, from its parts
abbrev pub crossing : (number : ℕ) (words : List ℕ) → Crossed
crossing number words = record { number = number; words = words }

-- an answer in this form
unfoldable pub crossed : Report → Crossed
crossed a = crossing (change_number a) (change_words a)

-- what a path leads to: "the node's number, or 23 and the number of the first step", packed as a reading's refusal and its place are
unfoldable pub found_number : Result ℕ Refusal → ℕ
found_number (Ok node) = node
found_number (Err f) = packed f

-- a summary: 0, or a refusal packed the same way
unfoldable pub summary_number : Result Summary Refusal → ℕ
summary_number (Ok a) = 0
summary_number (Err f) = packed f

-- the four counts that the call leaves where these were lent: "A refusal holds no counts or heights", so then they stay
unfoldable pub summary_counts : Result Summary Refusal → (lent : List ℕ) → List ℕ
summary_counts (Ok a) lent = a.counts.measured ∷ a.counts.null ∷ a.counts.absent ∷ a.counts.unfit ∷ []
summary_counts (Err f) lent = lent

-- the "least, greatest and mean" likewise: "With none it holds no height at all", so then these stay too
unfoldable pub heights_or : Rust.Option Heights → (lent : List Float) → List Float
heights_or (Some heights) lent = heights.least ∷ heights.greatest ∷ heights.mean ∷ []
heights_or None lent = lent

-- the same of a refusal
unfoldable pub summary_heights : Result Summary Refusal → (lent : List Float) → List Float
summary_heights (Ok a) lent = heights_or a.heights lent
summary_heights (Err f) lent = lent

-- what a summary shows at the boundary: its number, and what was lent for counts and heights
pub record SummaryCrosses (result : Result Summary Refusal) (number : ℕ) (lent_counts counts : List ℕ) (lent_heights heights : List Float) : Type 0 where
  pub number_is : number ≡ summary_number result
  pub counts_are : counts ≡ summary_counts result lent_counts
  pub heights_are : heights ≡ summary_heights result lent_heights

-- a salvage: 0, or a refusal packed the same way
unfoldable pub salvage_number : Result Salvaged Refusal → ℕ
salvage_number (Ok a) = 0
salvage_number (Err f) = packed f

-- "It answers the bytes written and the number of lines, 0 and 0 if refused"
unfoldable pub salvage_words : Result Salvaged Refusal → List ℕ
salvage_words (Ok a) = a.bytes ∷ a.lines ∷ []
salvage_words (Err f) = 0 ∷ 0 ∷ []

-- what a salvage shows at the boundary: its number, the two numbers beside it, and all that the output, the list and the table then hold
pub record SalvageCrosses (result : SalvageResult) (number : ℕ) (answer out verdicts table : List ℕ) : Type 0 where
  pub number_is : number ≡ salvage_number result.answer
  pub answer_is : answer ≡ salvage_words result.answer
  pub out_is : out ≡ result.out
  pub verdicts_are : verdicts ≡ result.verdicts
  pub table_is : table ≡ result.table
