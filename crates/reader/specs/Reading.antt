-- The reading of a text: a tree, or a refusal with its place; the table that it gives; one value read alone.
-- Assumes nothing.
use Rattle.std.specs.Prelude.{ℕ, ◌+◌, ◌*◌, ◌/◌, min, Bool, true, false, cond, ◌&&◌, List, leb, eqb, length, replicate, get_or, Ok, Err}
use Rattle.text.specs.declared.switches.Switches.{Switches}
use Rattle.text.specs.Refusal.{refusal, Refusal}
use Rattle.text.specs.Utf8.{utf8, is_whole, whole_front}
use Rattle.lexer.specs.Token.{tokens}
use Rattle.reader.specs.Tree.{head_of, size, rows, padded, node_words, no_parent}
use Rattle.reader.specs.declared.tree.Limits.{Limits}
use Rattle.std.specs.declared.result.Result.{Result}
use Rattle.reader.specs.Syntax.{Outcome, taken, refused, run, before}

-- ---- sizes

-- "text at most 65,536 bytes"
abbrev pub max_text : ℕ
max_text = 65536

-- "at most 32 containers open at once"
abbrev pub max_depth : ℕ
max_depth = 32

-- "4,096": no reading has more nodes
abbrev pub max_nodes : ℕ
max_nodes = 4096

-- "nodes at most the smaller of 4,096 and the lent table's words divided by 12, rounded down"
unfoldable pub node_limit : (words : ℕ) → ℕ
node_limit words = min max_nodes (words / node_words)

-- the limits with a table of so many words, where at most `depth` containers may be open at once
abbrev pub limits_to : (depth words : ℕ) → Limits
limits_to depth words = record { depth = depth; nodes = node_limit words }

-- the limits with a table of so many words
unfoldable pub limits_of : (words : ℕ) → Limits
limits_of words = record { depth = max_depth; nodes = node_limit words }

-- "taken alone with 4,096 nodes"
unfoldable pub limits_alone : Limits
limits_alone = record { depth = max_depth; nodes = max_nodes }

-- ---- readings

-- "1 goes before 2, and 2 before the rest"
unfoldable pub outcome : Switches → (any : Bool) → Limits → List ℕ → Outcome
outcome sw any limits text =
    cond (leb (length text) max_text)
    (cond (is_whole (utf8 text)) (run sw limits (tokens sw text) (before any)) (refused 2 (whole_front (utf8 text))))
    (refused 1 max_text)

-- a text read as a root, with a table of so many words: "Root: object, array or tuple". Document 01 calls the table itself its reading:
-- that is `table_of`.
unfoldable pub reading : Switches → (words : ℕ) → List ℕ → Outcome
reading sw words text = outcome sw false (limits_of words) text

-- the same where at most `depth` containers may be open at once: document 02, Req 14, reads lines so
unfoldable pub reading_to : Switches → (depth words : ℕ) → List ℕ → Outcome
reading_to sw depth words text = outcome sw false (limits_to depth words) text

-- the text is taken
unfoldable pub is_taken : Outcome → Bool
is_taken (taken tree) = true
is_taken (refused number place) = false

-- "A text reads if demand 2 takes it within the sizes above, the lent table's node limit included"
unfoldable pub reads : Switches → (words : ℕ) → List ℕ → Bool
reads sw words text = is_taken (reading sw words text)

-- "A refused reading .. leave .. a node count of 0"
unfoldable pub node_count : Outcome → ℕ
node_count (taken tree) = size tree
node_count (refused number place) = 0

-- "Its reading is the table that demand 2 then gives, zeros after the last node"; "A refused reading .. leave every table word 0"
unfoldable pub table_of : (words : ℕ) → Outcome → List ℕ
table_of words (taken tree) = padded words (rows no_parent 0 tree)
table_of words (refused number place) = replicate words 0

-- the code's answer, src/read.rt: the node count, or document 01's number and place of the refusal
unfoldable pub answer_of : Outcome → Result ℕ Refusal
answer_of (taken tree) = Ok (size tree)
answer_of (refused number place) = Err (refusal number place)

-- word `i` of a node in a table
abbrev pub word_of : List ℕ → (node i : ℕ) → ℕ
word_of table node i = get_or table (node_words * node + i) 0

-- ---- one value alone

-- the value runs "from its first byte to its last"
unfoldable pub spans : (n : ℕ) → Outcome → Bool
spans n (taken tree) = eqb (head_of tree).value.start 0 && eqb (head_of tree).value.stop n
spans n (refused number place) = false

-- "one value from its first byte to its last, within the sizes above taken alone with 4,096 nodes"; `any` is false for a root
unfoldable pub one_value : Switches → (any : Bool) → List ℕ → Bool
one_value sw any text = spans (length text) (outcome sw any limits_alone text)
