-- The cases that document 01 marks with a star ("Both sides of each line"), proved of the definitions together, as one table: by
-- computation.
-- Assumes nothing.
use mathlib.Core.Path.{◌≡◌, refl}
use Prim.Native.Nat.{ℕ, ◌*◌}
use Prim.Native.String.{String}
use mathlib.Core.List.{List, [], ◌∷◌, ◌++◌}
use lib.ListN.{replicate}
use Rattle.text.specs.Switches.{present_edition}
use Rattle.text.specs.Bytes.{ascii}
use Rattle.reader.specs.Tree.{node_words, no_parent}
use Rattle.reader.specs.Syntax.{Outcome, refused}
use Rattle.reader.specs.Reading as R
use Rattle.reader.specs.Content as C
use Rattle.editor.specs.Edit as E
use Rattle.editor.proofs.Computing.{editing}

-- a text's reading in the present edition into a table of ten nodes
abbrev pub read : String → Outcome
read s = R.reading present_edition (node_words * 10) (ascii s)

-- the table that it leaves: the given words, and zeros up to its 120 words
abbrev pub Table : String → (nodes rest : ℕ) → List ℕ → Type 0
Table s nodes rest words = (R.node_count (read s) ≡ nodes) × (R.table_of (node_words * 10) (read s) ≡ words ++ replicate rest 0)

-- the content call on a span of a text, with an output of 8 bytes that hold 1
abbrev pub call : String → (start stop : ℕ) → C.ContentAnswer
call s start stop = C.content_call present_edition start stop (ascii s) (replicate 8 1)

-- `[1, null]` in a text buffer of 16 bytes, with an empty journal of 20, where all other bytes hold 1: node 2 replaced by `12.5`
abbrev pub replaced : E.Result
replaced = E.correct present_edition (node_words * 10) (E.lent_of (ascii "[1, null]" ++ replicate 7 1) (replicate 20 1) (E.in_use 9 0)) 2 (ascii "12.5")

pub record Starred : Type 0 where
  -- "empty text: 7 at 0"
  pub empty_text : read "" ≡ refused 7 0
  -- "`[,]` taken"
  pub lone_comma : Table "[,]" 1 108 (2 ∷ no_parent ∷ 0 ∷ 3 ∷ 0 ∷ 0 ∷ 0 ∷ 0 ∷ 1 ∷ 0 ∷ 0 ∷ 0 ∷ [])
  -- "`[,,]` 7 at 2"
  pub two_commas : read "[,,]" ≡ refused 7 2
  -- "`{a:1,"\x61":2}`: 8 at 5"
  pub doubled_key : read "{a:1,\"\\x61\":2}" ≡ refused 8 5
  -- "`A(B([]))`: 7 at 2"
  pub two_identifiers : read "A(B([]))" ≡ refused 7 2
  -- "`[6.626e-34]`: m 6626, word 11 is 963"
  pub planck :
      Table "[6.626e-34]" 2 96
      (2 ∷ no_parent ∷ 0 ∷ 11 ∷ 0 ∷ 0 ∷ 0 ∷ 0 ∷ 2 ∷ 1 ∷ 0 ∷ 0
      ∷ 7 ∷ 0 ∷ 1 ∷ 10 ∷ 0 ∷ 0 ∷ 0 ∷ 0 ∷ 2 ∷ 6626 ∷ 0 ∷ 963 ∷ [])
  -- "`[-0.0]`: word 10 is 2147483648, word 11 is 999"
  pub minus_zero :
      Table "[-0.0]" 2 96
      (2 ∷ no_parent ∷ 0 ∷ 6 ∷ 0 ∷ 0 ∷ 0 ∷ 0 ∷ 2 ∷ 1 ∷ 0 ∷ 0
      ∷ 7 ∷ 0 ∷ 1 ∷ 5 ∷ 0 ∷ 0 ∷ 0 ∷ 0 ∷ 2 ∷ 0 ∷ 2147483648 ∷ 999 ∷ [])
  -- "`[00]` 3 at 1"
  pub two_zeros : read "[00]" ≡ refused 3 1
  -- "`[b64"ZHVwZXI"]` is `duper`": the node, and the content call on words 9 to 10 of it
  pub base64 :
      Table "[b64\"ZHVwZXI\"]" 2 96
      (2 ∷ no_parent ∷ 0 ∷ 14 ∷ 0 ∷ 0 ∷ 0 ∷ 0 ∷ 2 ∷ 1 ∷ 0 ∷ 0
      ∷ 5 ∷ 0 ∷ 1 ∷ 13 ∷ 0 ∷ 0 ∷ 0 ∷ 0 ∷ 2 ∷ 1 ∷ 13 ∷ 5 ∷ [])
  pub duper : call "[b64\"ZHVwZXI\"]" 1 13 ≡ C.given (0x64 ∷ 0x75 ∷ 0x70 ∷ 0x65 ∷ 0x72 ∷ [])
  pub duper_written :
      C.written (call "[b64\"ZHVwZXI\"]" 1 13) (replicate 8 1) ≡ 0x64 ∷ 0x75 ∷ 0x70 ∷ 0x65 ∷ 0x72 ∷ 1 ∷ 1 ∷ 1 ∷ []
  -- "with two pads, 4 at 1"
  pub two_pads : read "[b64\"ZHVwZXI==\"]" ≡ refused 4 1
  -- "`[r#""##]`: 3 at 6"
  pub hash_left : read "[r#\"\"##]" ≡ refused 3 6
  -- "Node 2 there, replaced by `12.5`: `[1, 12.5]`, journal 6E 75 6C 6C 04 00 00 00 04 00 00 00 10 00 00 00"
  pub correction : replaced.answer ≡ record { number = 0; place = 0; nodes = 3; used = E.in_use 9 16 }
  pub correction_text : replaced.lent.text ≡ ascii "[1, 12.5]" ++ replicate 7 1
  pub correction_journal :
      replaced.lent.journal
      ≡ 0x6E ∷ 0x75 ∷ 0x6C ∷ 0x6C ∷ 0x04 ∷ 0x00 ∷ 0x00 ∷ 0x00 ∷ 0x04 ∷ 0x00 ∷ 0x00 ∷ 0x00 ∷ 0x10 ∷ 0x00 ∷ 0x00 ∷ 0x00 ∷ 1 ∷ 1 ∷ 1 ∷ 1 ∷ []
  pub correction_table :
      replaced.table
      ≡ (2 ∷ no_parent ∷ 0 ∷ 9 ∷ 0 ∷ 0 ∷ 0 ∷ 0 ∷ 3 ∷ 2 ∷ 0 ∷ 0
      ∷ 6 ∷ 0 ∷ 1 ∷ 2 ∷ 0 ∷ 0 ∷ 0 ∷ 0 ∷ 2 ∷ 1 ∷ 0 ∷ 0
      ∷ 7 ∷ 0 ∷ 4 ∷ 8 ∷ 0 ∷ 0 ∷ 0 ∷ 0 ∷ 3 ∷ 125 ∷ 0 ∷ 999 ∷ []) ++ replicate 84 0

pub starred : Starred
unfolding editing
starred = record {
  empty_text = refl;
  lone_comma = (refl, refl);
  two_commas = refl;
  doubled_key = refl;
  two_identifiers = refl;
  planck = (refl, refl);
  minus_zero = (refl, refl);
  two_zeros = refl;
  base64 = (refl, refl);
  duper = refl;
  duper_written = refl;
  two_pads = refl;
  hash_left = refl;
  correction = refl;
  correction_text = refl;
  correction_journal = refl;
  correction_table = refl;
}
