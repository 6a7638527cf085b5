-- Req 09, "Ask by path": which steps a path has and which bytes are an index, said by grammar and not by how they are taken off; what an
-- answer's numbers are; and paths in some texts, worked out by hand.
-- By its contract `find_edition` (path/src/find.rt) answers `found`, and `duper_find` (duper/src/lib.rt) the number of it.
-- Assumes nothing.
use Rattle.std.specs.Prelude.{◌≡◌, ℕ, ◌+◌, ◌*◌, ◌/◌, ◌%◌, ◌≤◌, ◌<◌, Bool, true, not, ◌&&◌, List, [], ◌∷◌, ◌++◌, length, Ok, Err}
use Prim.Native.Char.{code}
use Prim.Native.String.{String}
use Rattle.std.proofs.Math.Option.{none, some}
use Rattle.text.specs.declared.switches.Switches.{Switches}
use Rattle.text.specs.Refusal.{refusal, Refusal}
use Rattle.text.specs.Switches.{present_edition}
use Rattle.text.specs.Bytes.{ascii, is, between, is_digit, digit_value}
use Rattle.reader.specs.Syntax.{refused}
use Rattle.reader.specs.Reading.{reading, node_count}
use Rattle.path.specs.Path.{steps, index, found}
use Rattle.std.specs.declared.result.Result.{Result}
use Rattle.duper.specs.Numbers.{found_number}
use Rattle.theorems.specs.Insertion.{every}

-- ---- steps

-- the steps with a `.` between each two
unfoldable pub joined : List (List ℕ) → List ℕ
joined [] = []
joined (s ∷ []) = s
joined (s ∷ t ∷ ss) = s ++ (code "." ∷ joined (t ∷ ss))

-- no step holds a `.`
unfoldable pub no_dots : List (List ℕ) → Bool
no_dots [] = true
no_dots (s ∷ ss) = every (λ b. not (is "." b)) s && no_dots ss

-- "A path is bytes, steps separated by `.`": these are one step or more, and with the separators between them they are the path
pub record Separated (path : List ℕ) (ss : List (List ℕ)) : Type 0 where
  pub not_none : 0 < length ss
  pub whole : joined ss ≡ path
  pub apart : no_dots ss ≡ true

-- "the empty path is the root": it has no step. Any other path has the steps that its separators leave, and no others are so
pub record StepsOf : Type 0 where
  pub of_empty : steps [] ≡ []
  pub separated : (path : List ℕ) → 0 < length path → Separated path (steps path)
  pub only : (path : List ℕ) → 0 < length path → (ss : List (List ℕ)) → Separated path ss → ss ≡ steps path

-- ---- indices

-- "a decimal index from 0 without leading zeros": 0, or a digit from 1 to 9 and any digits after it; and the number that they make
pub data Decimal : (s : List ℕ) (i : ℕ) → Type 0 where
  nought : Decimal (code "0" ∷ []) 0
  digit : (b : ℕ) → between "1" "9" b ≡ true → Decimal (b ∷ []) (digit_value b)
  further : (s : List ℕ) (i b : ℕ) → Decimal s i → 0 < i → is_digit b ≡ true → Decimal (s ++ (b ∷ [])) (i * 10 + digit_value b)

-- a step that is one says this number, whatever its length, and any other step says none
pub record IndexOf (s : List ℕ) : Type 0 where
  pub says : (i : ℕ) → Decimal s i → index s ≡ some i
  pub no_index : ((i : ℕ) → Decimal s i → ⊥) → index s ≡ none

unfoldable pub IndicesRead : Type 0
IndicesRead = (s : List ℕ) → IndexOf s

-- ---- answers

-- a refusal by its number and place
abbrev pub refused_at : (number place : ℕ) → Result ℕ Refusal
refused_at number place = Err (refusal number place)

module _ (sw : Switches) (words : ℕ) (text path : List ℕ) where
  -- what the call answers
  abbrev pub answer : Result ℕ Refusal
  answer = found sw text path (reading sw words text)

  pub record PathAnswer : Type 0 where
    -- "the node's number": a node of the text
    pub node : (n : ℕ) → answer ≡ Ok n → n < node_count (reading sw words text)
    -- "or 23 and the number of the first step, from 0": a step of the path, and one whose number is below the node count, so that it packs; a
    -- refused text has no nodes, so it was taken
    pub step : (k : ℕ) → answer ≡ refused_at 23 k → (k < length (steps path)) × (k < node_count (reading sw words text))
    -- any other refusal is the reading's, one of 1 to 10
    pub refusal : (number place : ℕ) → answer ≡ refused_at number place → (number ≡ 23 → ⊥)
        → (reading sw words text ≡ refused number place) × (1 ≤ number) × (number ≤ 10)

unfoldable pub PathsAnswered : Type 0
PathsAnswered = (sw : Switches) (words : ℕ) (text path : List ℕ) → PathAnswer sw words text path

-- a call of `duper_find` with a table of so many words: the number that it answered
pub record FindCall (words : ℕ) (text path : List ℕ) : Type 0 where
  pub number : ℕ
  pub number_is : number ≡ found_number (answer present_edition words text path)

-- the number says which answer it is: below 4294967296 it is a node's, else it is a refusal times 4294967296 plus its place
pub record Unpacked (words : ℕ) (text path : List ℕ) (a : FindCall words text path) : Type 0 where
  pub node : a.number < 4294967296 → answer present_edition words text path ≡ Ok a.number
  pub refusal : 4294967296 ≤ a.number → answer present_edition words text path ≡ refused_at (a.number / 4294967296) (a.number % 4294967296)

unfoldable pub PathsUnpacked : Type 0
PathsUnpacked = (words : ℕ) (text path : List ℕ) (a : FindCall words text path) → Unpacked words text path a

-- ---- examples

-- Node 0 is the object in `S(..)`, 1 the array `balls`, 2, 3 and 5 its elements: `1`, `A({..})` with its member 4, and the tuple with 6 and 7; 8 is
-- the empty object, whose key is `a.b`, 9 the object with an empty key and 10 the member of it that has one too, and 11 is `3`.
abbrev pub example : String
example = "S({balls:[1,A({height_mm:7}),(null,\"x\")],\"a\\x2Eb\":{},\"\":{\"\":2},\"\\x30\":3})"

-- in that text, with room for twelve nodes
abbrev pub asked : String → Result ℕ Refusal
asked path = answer present_edition 144 (ascii example) (ascii path)

-- any path in any text, with room for twenty nodes
abbrev pub asked_in : (text path : List ℕ) → Result ℕ Refusal
asked_in text path = answer present_edition 240 text path

-- an array: nodes 1 to 10 are numbers, 11 is the object, 12 and 13 its members
abbrev pub many : List ℕ
many = ascii "[0,1,2,3,4,5,6,7,8,9,{r\"x y\":1,\"\\u00e9\":2}]"

pub record PathsByHand : Type 0 where
  -- "the empty path is the root"
  pub root : asked "" ≡ Ok 0
  -- "In an object a step is the content of a key": not as it is written, and no identifier
  pub key : asked "balls" ≡ Ok 1
  pub key_by_content : asked "0" ≡ Ok 11
  pub key_as_written : asked "\\x30" ≡ refused_at 23 0
  pub key_in_quotes : asked "\"0\"" ≡ refused_at 23 0
  pub key_in_part : asked "ball" ≡ refused_at 23 0
  pub key_and_more : asked "balls0" ≡ refused_at 23 0
  pub no_index_there : asked "00" ≡ refused_at 23 0
  pub identifier : asked "S" ≡ refused_at 23 0
  pub key_with_a_dot : asked "a.b" ≡ refused_at 23 0
  -- "In an array or tuple it is a decimal index from 0"
  pub first_element : asked "balls.0" ≡ Ok 2
  pub nested : asked "balls.1.height_mm" ≡ Ok 4
  pub tuple : asked "balls.2" ≡ Ok 5
  pub in_tuple : asked "balls.2.1" ≡ Ok 7
  pub past_the_end : asked "balls.3" ≡ refused_at 23 1
  -- "without leading zeros", and nothing but digits
  pub leading_zero : asked "balls.01" ≡ refused_at 23 1
  pub two_zeros : asked "balls.00" ≡ refused_at 23 1
  pub plus : asked "balls.+1" ≡ refused_at 23 1
  pub minus : asked "balls.-0" ≡ refused_at 23 1
  pub underscore : asked "balls.1_0" ≡ refused_at 23 1
  pub hex : asked "balls.0x1" ≡ refused_at 23 1
  pub no_digit : asked "balls.height_mm" ≡ refused_at 23 1
  -- 2^32 + 1 and 2^64 + 1 are no 1
  pub wide : asked "balls.4294967297" ≡ refused_at 23 1
  pub wider : asked "balls.18446744073709551617" ≡ refused_at 23 1
  -- "the first step, from 0, that has no child to go to"
  pub below_a_number : asked "balls.0.x" ≡ refused_at 23 2
  pub below_null : asked "balls.2.0.0.0" ≡ refused_at 23 3
  pub in_an_object : asked "balls.1.0" ≡ refused_at 23 2
  pub first_of_two : asked "x.y" ≡ refused_at 23 0
  -- "steps separated by `.`": empty ones too
  pub dot : asked "." ≡ Ok 10
  pub two_dots : asked ".." ≡ refused_at 23 2
  pub dot_first : asked ".balls" ≡ refused_at 23 1
  pub dot_last : asked "balls." ≡ refused_at 23 1
  -- an index of two digits, a key in a raw string and one with an escape of two bytes, asked for by these bytes
  pub two_digits : asked_in many (ascii "10") ≡ Ok 11
  pub raw_key : asked_in many (ascii "10.x y") ≡ Ok 12
  pub beyond_ascii : asked_in many (ascii "10." ++ (0xC3 ∷ 0xA9 ∷ [])) ≡ Ok 13
  pub not_utf8 : asked_in many (ascii "10." ++ (0xE9 ∷ [])) ≡ refused_at 23 1
  pub tuple_at_the_root : asked_in (ascii "(5)") (ascii "0") ≡ Ok 1
  -- "The call reads the text into the lent table itself": a refusal of the reading goes first
  pub refused_text : answer present_edition 144 (ascii "[,,]") (ascii "0") ≡ refused_at 7 2
  pub no_room : answer present_edition 12 (ascii "[1]") [] ≡ refused_at 10 1
