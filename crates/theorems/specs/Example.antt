-- Req 07 on one text, with what it says worked out by hand: the new text, every word of its table, and what may not be inserted.
-- Assumes nothing.
use Rattle.std.specs.Prelude.{◌≡◌, ℕ, true, false, List, [], ◌∷◌, ◌++◌}
use Rattle.text.specs.Switches.{present_edition}
use Rattle.text.specs.Bytes.{ascii}
use Rattle.reader.specs.Reading.{reading, table_of, word_of}
use Rattle.theorems.specs.Insertion.{Gap, space, line, block, Insertion, may_insert, inserted_at, with_gaps, new_row}

-- a gap at a place
abbrev pub put_at : ℕ → Gap → Insertion
put_at p g = record { place = p; gap = g }

-- tokens that touch, an identifier at the text's start and another round a string, two keys, an integer, and a comment that the text's end
-- ends
abbrev pub old : List ℕ
old = ascii "T({a:I(\"x\"),b:+1})//e"

-- before `T`, after `I`, after `"x"`, before `b`, after `+1` and after the last `)`; two at one place stand in the order of the list
abbrev pub gaps : List Insertion
gaps =
    put_at 0 (block (ascii "*")) ∷ put_at 10 (line false (ascii "q/*")) ∷ put_at 12 (space 0x20) ∷ put_at 0 (space 0x09) ∷ put_at 18 (block [])
    ∷ put_at 6 (block (ascii "/")) ∷ put_at 16 (line true (0xC3 ∷ 0xA9 ∷ [])) ∷ []

abbrev pub new : List ℕ
new =
    ascii "/***/" ++ (0x09 ∷ (ascii "T({a:I/*/*/(\"x\"//q/*" ++ (0x0A ∷ (ascii "), b:+1//" ++ (0xC3 ∷ 0xA9 ∷ 0x0D ∷ 0x0A ∷ ascii "})/**///e")))))

-- the rows before the insertions: the object, the string in its identifier, the integer
abbrev pub rows_before : List ℕ
rows_before =
    1 ∷ 4294967295 ∷ 0 ∷ 18 ∷ 0 ∷ 0 ∷ 0 ∷ 1 ∷ 3 ∷ 2 ∷ 0 ∷ 0
    ∷ 4 ∷ 0 ∷ 5 ∷ 11 ∷ 3 ∷ 4 ∷ 5 ∷ 6 ∷ 2 ∷ 7 ∷ 10 ∷ 1
    ∷ 6 ∷ 0 ∷ 14 ∷ 16 ∷ 12 ∷ 13 ∷ 0 ∷ 0 ∷ 3 ∷ 1 ∷ 0 ∷ 0 ∷ []

-- and after
abbrev pub rows_after : List ℕ
rows_after =
    1 ∷ 4294967295 ∷ 6 ∷ 42 ∷ 0 ∷ 0 ∷ 6 ∷ 7 ∷ 3 ∷ 2 ∷ 0 ∷ 0
    ∷ 4 ∷ 0 ∷ 11 ∷ 28 ∷ 9 ∷ 10 ∷ 11 ∷ 12 ∷ 2 ∷ 18 ∷ 21 ∷ 1
    ∷ 6 ∷ 0 ∷ 32 ∷ 34 ∷ 30 ∷ 31 ∷ 0 ∷ 0 ∷ 3 ∷ 1 ∷ 0 ∷ 0 ∷ []

-- the new row of a node, by the definition
abbrev pub said : (node : ℕ) → List ℕ
said node = new_row (inserted_at gaps) (word_of rows_before node)

-- a text with a space and a comment of its own, which a 0D ends; gaps beside them, and of the kinds that are left
abbrev pub spaced : List ℕ
spaced = ascii "[ 1//x" ++ (0x0D ∷ ascii "]")

abbrev pub more_gaps : List Insertion
more_gaps =
    put_at 1 (space 0x0A) ∷ put_at 2 (space 0x0D) ∷ put_at 3 (line true []) ∷ put_at 7 (block (0x0A ∷ [])) ∷ put_at 7 (block (ascii "/*")) ∷ []

pub record Example : Type 0 where
  pub may : may_insert present_edition old gaps ≡ true
  pub new_is : with_gaps gaps old ≡ new
  pub before_is : table_of 36 (reading present_edition 36 old) ≡ rows_before
  pub after_is : table_of 36 (reading present_edition 36 new) ≡ rows_after
  pub said_is : said 0 ++ (said 1 ++ said 2) ≡ rows_after
  pub may_more : may_insert present_edition spaced more_gaps ≡ true
  -- nothing inside a token, and nothing at the text's end where no token ends there
  pub inside : may_insert present_edition old (put_at 8 (space 0x20) ∷ []) ≡ false
  pub at_end_law : may_insert present_edition old (put_at 21 (space 0x20) ∷ []) ≡ false
  -- no comment that ends early or is not UTF-8, and no other byte as a space
  pub line_early : may_insert present_edition old (put_at 18 (line false (0x61 ∷ 0x0D ∷ 0x62 ∷ [])) ∷ []) ≡ false
  pub block_early : may_insert present_edition old (put_at 18 (block (ascii "a*/b")) ∷ []) ≡ false
  pub not_utf8 : may_insert present_edition old (put_at 18 (block (0xE9 ∷ [])) ∷ []) ≡ false
  pub no_space : may_insert present_edition old (put_at 18 (space 0x0B) ∷ []) ≡ false
