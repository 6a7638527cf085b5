-- Req 14, "Salvage a broken line log": which lines a log has, said by grammar, and which are kept; which number tells of which line; when a
-- log is salvaged, and when it is refused; that what is written reads, and as what; what the call for C tells; and some logs, worked out by
-- hand.
-- By their contracts `salvage_edition`, and in the present edition `salvage` (salvage/src/salvage.rt), leave what the definition `salvage` says,
-- and what `duper_salvage` (duper/src/lib.rt) leaves is in `SalvageCrosses`.
-- Assumes nothing.
use Rattle.std.specs.Prelude.{◌≡◌, ℕ, suc, ◌+◌, ◌*◌, ◌/◌, ◌%◌, ◌≤◌, ◌<◌, true, false, not, ◌⊎◌, List, [], ◌∷◌, ◌++◌, eqb, length, take, drop, replicate, pos, Ok, Err}
use Prim.Native.String.{String}
use Rattle.std.proofs.Math.Option.{Option, none, some}
use Rattle.text.specs.declared.switches.Switches.{Switches}
use Rattle.text.specs.Refusal.{refusal, Refusal}
use Rattle.text.specs.Switches.{present_edition}
use Rattle.text.specs.Bytes.{ascii}
use Rattle.reader.specs.Tree as T
use Rattle.reader.specs.Tree.{Span, Head, Scalar, Tree, leaf, branch, Forest, nil, cons, count, node_words}
use Rattle.reader.specs.declared.tree.Kind.TheVariants.{Array, Tuple}
use Rattle.reader.specs.Syntax.{Outcome, taken, refused}
use Rattle.reader.specs.Reading.{node_limit, reading, is_taken, node_count}
use Rattle.salvage.specs.Salvage.{lines_of, line_reading, line_verdict, kept_of, verdicts_of, nodes_of, salvaged_text, SalvageResult, salvage_leaving, salvage}
use Rattle.salvage.specs.declared.salvage.Salvaged.{Salvaged}
use Rattle.std.specs.declared.result.Result.{Result}
use Rattle.duper.specs.Numbers.{SalvageCrosses}
use Rattle.theorems.specs.Insertion.{every}

-- ---- lines

-- a line holds no 0A
abbrev pub NoEnd : (line : List ℕ) → Type 0
NoEnd line = every (λ b. not (eqb b 0x0A)) line ≡ true

-- "Split at 0A; a last line without one counts, an empty last piece does not": nothing is left; or what is left is a last line, which is not
-- empty; or a line stands there, a 0A, and what is left behind it
pub data SplitLines : (log : List ℕ) (lines : List (List ℕ)) → Type 0 where
  none_left : SplitLines [] []
  last_line : (line : List ℕ) → 0 < length line → NoEnd line → SplitLines line (line ∷ [])
  one_line : (line log : List ℕ) (lines : List (List ℕ)) → NoEnd line → SplitLines log lines → SplitLines (line ++ (0x0A ∷ log)) (line ∷ lines)

-- a log has these lines, and no others are so
pub record LinesOf (log : List ℕ) : Type 0 where
  pub split : SplitLines log (lines_of log)
  pub only : (lines : List (List ℕ)) → SplitLines log lines → lines ≡ lines_of log

unfoldable pub LinesRead : Type 0
LinesRead = (log : List ℕ) → LinesOf log

-- "Keep each line that reads by itself": each other line is left out, and those that are kept stay in their order
pub data KeepsLines (sw : Switches) (words : ℕ) : (lines kept : List (List ℕ)) → Type 0 where
  no_more : KeepsLines sw words [] []
  one_kept : (line : List ℕ) (lines kept : List (List ℕ)) → is_taken (line_reading sw words line) ≡ true → KeepsLines sw words lines kept
      → KeepsLines sw words (line ∷ lines) (line ∷ kept)
  one_lost : (line : List ℕ) (lines kept : List (List ℕ)) → is_taken (line_reading sw words line) ≡ false → KeepsLines sw words lines kept
      → KeepsLines sw words (line ∷ lines) kept

unfoldable pub LinesKept : Type 0
LinesKept = (sw : Switches) (words : ℕ) (lines : List (List ℕ)) → KeepsLines sw words lines (kept_of sw words lines)

-- "0 for kept, the refusal's number otherwise": 0 is a kept line's number, and no other line's; any other is one of 1 to 10
pub record LineVerdict (sw : Switches) (words : ℕ) (line : List ℕ) : Type 0 where
  pub kept : is_taken (line_reading sw words line) ≡ true → line_verdict (line_reading sw words line) ≡ 0
  pub kept_only : line_verdict (line_reading sw words line) ≡ 0 → is_taken (line_reading sw words line) ≡ true
  pub lost : (number place : ℕ) → line_reading sw words line ≡ refused number place
      → (line_verdict (line_reading sw words line) ≡ number) × (1 ≤ number) × (number ≤ 10)

unfoldable pub VerdictsTell : Type 0
VerdictsTell = (sw : Switches) (words : ℕ) (line : List ℕ) → LineVerdict sw words line

-- ---- a tree elsewhere: all its places are so many bytes further on

abbrev pub moved_span : (by : ℕ) → Span → Span
moved_span by s = record { start = s.start + by; stop = s.stop + by }

-- of a key or a name, if there is one
unfoldable pub moved_some : (by : ℕ) → Option Span → Option Span
moved_some by none = none
moved_some by (some s) = some (moved_span by s)

unfoldable pub moved_head : (by : ℕ) → Head → Head
moved_head by h = record { value = moved_span by h.value; key = moved_some by h.key; name = moved_some by h.name }

-- a string has the span of its token
unfoldable pub moved_scalar : (by : ℕ) → Scalar → Scalar
moved_scalar by (T.text token content) = T.text (moved_span by token) content
moved_scalar by (T.bytes token content) = T.bytes (moved_span by token) content
moved_scalar by (T.integer z) = T.integer z
moved_scalar by (T.decimal minus m p) = T.decimal minus m p
moved_scalar by T.false_value = T.false_value
moved_scalar by T.true_value = T.true_value
moved_scalar by T.null_value = T.null_value

unfoldable mutual
  -- a value with all that is in it
  pub moved : (by : ℕ) → Tree → Tree
  moved by (leaf h s) = leaf (moved_head by h) (moved_scalar by s)
  moved by (branch h kind children) = branch (moved_head by h) kind (moved_all by children)

  -- values side by side
  pub moved_all : (by : ℕ) → Forest → Forest
  moved_all by nil = nil
  moved_all by (cons t f) = cons (moved by t) (moved_all by f)

-- ---- what is written

-- a line's value, `by` bytes further on, before other values
unfoldable pub with_value : (by : ℕ) → Outcome → Forest → Forest
with_value by (taken tree) f = cons (moved by tree) f
with_value by (refused number place) f = f

-- "the kept lines' values in order", the first line at the place `at`: 0A, a comma and 0A stand behind each line
unfoldable pub values_at : Switches → (words at : ℕ) → (kept : List (List ℕ)) → Forest
values_at sw words at [] = nil
values_at sw words at (line ∷ kept) = with_value at (line_reading sw words line) (values_at sw words (at + length line + 3) kept)

-- the head of a value from here to there, with no key and no identifier
abbrev pub bare_head : (start stop : ℕ) → Head
bare_head start stop = record { value = record { start = start; stop = stop }; key = none; name = none }

-- an array from the first byte to the last of so many, with these children
abbrev pub array_of : (bytes : ℕ) → Forest → Tree
array_of bytes children = branch (bare_head 0 bytes) Array children

module _ (sw : Switches) (words : ℕ) (log : List ℕ) where
  -- the lines that are kept of a log
  abbrev pub kept_lines : List (List ℕ)
  kept_lines = kept_of sw words (lines_of log)

  -- of a call that answers so many bytes and lines: what was lent for output and list, and what these then hold
  pub record Salvage (bytes lines : ℕ) (lent_out lent_verdicts out verdicts : List ℕ) : Type 0 where
    -- "What is written always reads" with the lent table's limit, "and its children are the kept lines' values in order": `[` and 0A stand
    -- before the first
    pub reads : reading sw words (take bytes out) ≡ taken (array_of bytes (values_at sw words 2 kept_lines))
    -- as many children as lines are kept
    pub children : count (values_at sw words 2 kept_lines) ≡ length kept_lines
    -- one node for the array, and those of the kept lines
    pub nodes : node_count (reading sw words (take bytes out)) ≡ suc (nodes_of sw words kept_lines)
    -- "the number of lines", and "one number a line"
    pub lines_are : lines ≡ length (lines_of log)
    pub verdicts_are : take lines verdicts ≡ verdicts_of sw words (lines_of log)
    -- "later places of both stay"
    pub out_stays : drop bytes out ≡ drop bytes lent_out
    pub verdicts_stay : drop lines verdicts ≡ drop lines lent_verdicts

-- every salvage that is not refused is so
unfoldable pub SalvagesRead : Type 0
SalvagesRead =
    (sw : Switches) (words : ℕ) (log out verdicts : List ℕ) (bytes lines : ℕ) → (salvage sw words log out verdicts).answer ≡ Ok (record { bytes = bytes; lines = lines })
    → Salvage sw words log bytes lines out verdicts (salvage sw words log out verdicts).out (salvage sw words log out verdicts).verdicts

-- ---- when a log is salvaged

-- a refusal by its number and place
abbrev pub refused_at : (number place : ℕ) → Result Salvaged Refusal
refused_at number place = Err (refusal number place)

module _ (sw : Switches) (words : ℕ) (log out verdicts : List ℕ) where
  -- the bytes to be written
  abbrev pub text_bytes : ℕ
  text_bytes = length (salvaged_text (kept_lines sw words log))

  -- "output room, 65,536 bytes or that table's nodes would be passed": the array is a node too
  abbrev pub NoRoomLeft : Type 0
  NoRoomLeft = (length out < text_bytes) ⊎ ((65536 < text_bytes) ⊎ (node_limit words < suc (nodes_of sw words (kept_lines sw words log))))

  -- "in this order, 1 for an input over 65,536 bytes, 27 at 0 if the list is shorter than the lines, 28 at 0 if" one of these; and else it is
  -- salvaged
  pub record SalvageAnswer : Type 0 where
    pub log_long : 65536 < length log → (salvage sw words log out verdicts).answer ≡ refused_at 1 65536
    pub list_short : length log ≤ 65536 → length verdicts < length (lines_of log) → (salvage sw words log out verdicts).answer ≡ refused_at 27 0
    pub no_room : length log ≤ 65536 → length (lines_of log) ≤ length verdicts → NoRoomLeft → (salvage sw words log out verdicts).answer ≡ refused_at 28 0
    pub salvaged : length log ≤ 65536 → length (lines_of log) ≤ length verdicts → (NoRoomLeft → ⊥)
        → (salvage sw words log out verdicts).answer ≡ Ok (record { bytes = text_bytes; lines = (length (lines_of log)) })
    -- "each leaves output and list untouched"
    pub untouched : (number place : ℕ) → (salvage sw words log out verdicts).answer ≡ refused_at number place
        → ((salvage sw words log out verdicts).out ≡ out) × ((salvage sw words log out verdicts).verdicts ≡ verdicts)
    -- "in a lent table (all zeros afterwards)", whatever the answer
    pub cleared : (salvage sw words log out verdicts).table ≡ replicate words 0

unfoldable pub SalvagesAnswered : Type 0
SalvagesAnswered = (sw : Switches) (words : ℕ) (log out verdicts : List ℕ) → SalvageAnswer sw words log out verdicts

-- ---- the call for C and Rust

-- a call of `duper_salvage` with a table of so many words: what was lent, and what it answered and left
pub record SalvageCall (words : ℕ) (log : List ℕ) : Type 0 where
  pub lent_out : List ℕ
  pub lent_verdicts : List ℕ
  pub number : ℕ
  pub answer : List ℕ
  pub out : List ℕ
  pub verdicts : List ℕ
  pub table : List ℕ
  pub crosses : SalvageCrosses (salvage present_edition words log lent_out lent_verdicts) number answer out verdicts table

-- the number says whether the log was salvaged: 0, and then what is written reads; or else a refusal times 4294967296 plus its place, and
-- nothing is written
pub record SalvageUnpacked (words : ℕ) (log : List ℕ) (a : SalvageCall words log) : Type 0 where
  pub written : a.number ≡ 0
      → (bytes : ℕ) × (lines : ℕ) × (a.answer ≡ bytes ∷ lines ∷ [])
      × Salvage present_edition words log bytes lines a.lent_out a.lent_verdicts a.out a.verdicts
  pub refusal : 0 < a.number
      → ((salvage present_edition words log a.lent_out a.lent_verdicts).answer ≡ refused_at (a.number / 4294967296) (a.number % 4294967296))
      × (a.answer ≡ 0 ∷ 0 ∷ []) × (a.out ≡ a.lent_out) × (a.verdicts ≡ a.lent_verdicts)
  pub cleared : a.table ≡ replicate words 0

unfoldable pub SalvagesUnpacked : Type 0
SalvagesUnpacked = (words : ℕ) (log : List ℕ) (a : SalvageCall words log) → SalvageUnpacked words log a

-- ---- examples

-- a line with its 0A, before others
abbrev pub lf : String → List ℕ → List ℕ
lf line rest = ascii line ++ (0x0A ∷ rest)

-- the words of a table of so many nodes, all 0
abbrev pub zero_table : (nodes : ℕ) → List ℕ
zero_table nodes = replicate (node_words * nodes) 0

-- a call with a table of so many nodes, an output of so many bytes, all 77, and a list of so many places, all 99
abbrev pub asked : (nodes room places : ℕ) (log : List ℕ) → SalvageResult
asked nodes room places log = salvage present_edition (node_words * nodes) log (replicate room 77) (replicate places 99)

-- what a refusal leaves of such a call
abbrev pub left_by : (number nodes room places : ℕ) → SalvageResult
left_by number nodes room places = salvage_leaving (refused_at number 0) (replicate room 77) (replicate places 99) (zero_table nodes)

-- four lines: the second and the last are cut off; the third ends in a comment
abbrev pub example : List ℕ
example = lf "[1]" (lf "{a:" (lf "(2,) // x" (ascii "[\"")))

-- what is written of it: 2 bytes, 3 and 3, 9 and 3, and 1
abbrev pub example_text : List ℕ
example_text = lf "[" (lf "[1]" (lf "," (lf "(2,) // x" (lf "," (ascii "]")))))

pub record SalvagesByHand : Type 0 where
  -- "Split at 0A; a last line without one counts, an empty last piece does not."
  pub no_line : lines_of [] ≡ []
  pub empty_line : lines_of (0x0A ∷ []) ≡ [] ∷ []
  pub last_ended : lines_of (lf "a" (lf "" (lf "b" []))) ≡ ascii "a" ∷ [] ∷ ascii "b" ∷ []
  pub last_open : lines_of (lf "a" (ascii "b")) ≡ ascii "a" ∷ ascii "b" ∷ []
  -- "later places of both stay"
  pub two_kept : asked 10 24 5 example ≡ salvage_leaving (Ok (record { bytes = 21; lines = 4 })) (example_text ++ (77 ∷ 77 ∷ 77 ∷ [])) (0 ∷ 7 ∷ 0 ∷ 3 ∷ 99 ∷ []) (zero_table 10)
  -- what is written, read: the array, and in it an array and a tuple of an integer each
  pub two_read : reading present_edition (node_words * 5) example_text ≡ taken (branch (bare_head 0 21) Array (cons (branch (bare_head 2 5) Array (cons (leaf (bare_head 3 4) (T.integer (pos 1))) nil)) (cons (branch (bare_head 8 12) Tuple (cons (leaf (bare_head 9 10) (T.integer (pos 2))) nil)) nil)))
  -- 0D is a space of its line, and is written with it
  pub carriage_return : asked 3 10 1 (ascii "[]" ++ (0x0D ∷ 0x0A ∷ [])) ≡ salvage_leaving (Ok (record { bytes = 9; lines = 1 })) (lf "[" (ascii "[]" ++ (0x0D ∷ lf "" (lf "," (ascii "]")))) ++ (77 ∷ [])) (0 ∷ []) (zero_table 3)
  -- a character that is cut off loses its line alone
  pub cut_off : asked 2 8 2 (lf "[]" (ascii "[\"" ++ (0xC3 ∷ []))) ≡ salvage_leaving (Ok (record { bytes = 8; lines = 2 })) (lf "[" (lf "[]" (lf "," (ascii "]")))) (0 ∷ 2 ∷ []) (zero_table 2)
  -- a line that has no room by itself is lost, and the others are kept; one that has, and the array not, is 28
  pub no_room_alone : asked 2 8 2 (lf "[1,1]" (ascii "[]")) ≡ salvage_leaving (Ok (record { bytes = 8; lines = 2 })) (lf "[" (lf "[]" (lf "," (ascii "]")))) (10 ∷ 0 ∷ []) (zero_table 2)
  pub no_room_together : asked 3 30 2 (lf "[1,1]" (ascii "[]")) ≡ left_by 28 3 30 2
  -- no line reads, or there is none
  pub none_kept : asked 1 3 2 (lf "" (ascii "1")) ≡ salvage_leaving (Ok (record { bytes = 3; lines = 2 })) (lf "[" (ascii "]")) (7 ∷ 7 ∷ []) (zero_table 1)
  pub empty_log : asked 1 4 1 [] ≡ salvage_leaving (Ok (record { bytes = 3; lines = 0 })) (lf "[" (ascii "]") ++ (77 ∷ [])) (99 ∷ []) (zero_table 1)
  -- "27 at 0 if the list is shorter than the lines"
  pub list_short : asked 10 24 3 example ≡ left_by 27 10 24 3
  -- "28 at 0 if output room .. or that table's nodes would be passed": five nodes
  pub output_short : asked 10 20 4 example ≡ left_by 28 10 20 4
  pub output_enough : (asked 10 21 4 example).answer ≡ Ok (record { bytes = 21; lines = 4 })
  pub nodes_few : asked 4 21 4 example ≡ left_by 28 4 21 4
  pub nodes_enough : (asked 5 21 4 example).answer ≡ Ok (record { bytes = 21; lines = 4 })
  pub no_node_law : asked 0 3 0 [] ≡ left_by 28 0 3 0
  -- "in this order"
  pub list_first : asked 0 0 3 example ≡ left_by 27 0 0 3
  -- "with 31 as the depth limit": the line has 62 bytes and 31 nodes
  pub deep_enough : (asked 32 68 1 (replicate 31 0x5B ++ replicate 31 0x5D)).answer ≡ Ok (record { bytes = 68; lines = 1 })
  pub too_deep : (asked 40 80 1 (replicate 32 0x5B ++ replicate 32 0x5D)).verdicts ≡ 9 ∷ []
