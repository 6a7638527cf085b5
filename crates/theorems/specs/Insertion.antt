-- Req 07, "Comments must not touch data": spaces and comments inserted into a text, and what becomes of the words of its table.
-- Assumes nothing.
use Rattle.std.specs.Prelude.{◌≡◌, ℕ, zero, suc, ◌+◌, ◌-◌, ◌*◌, ◌≤◌, ◌<◌, Bool, true, false, not, cond, ◌&&◌, ◌||◌, List, [], ◌∷◌, ◌++◌, eqb, length, get_or}
use Rattle.text.specs.declared.switches.Switches.{Switches}
use Rattle.text.specs.Bytes.{starts_with, is, is_space, ascii}
use Rattle.text.specs.Utf8.{is_utf8}
use Rattle.lexer.specs.Closing.{not_newline}
use Rattle.lexer.specs.Token as L
use Rattle.lexer.specs.Token.{Tokens, tokens}
use Rattle.reader.specs.Tree.{node_words}
use Rattle.reader.specs.Reading.{reading, reads, node_count, table_of, word_of, max_text}

-- ---- what is inserted

-- "spaces or whole UTF-8 comments": one space byte, or a comment by its body, which is what follows `//`, or stands between `/*` and `*/`.
-- `return`: the line feed of a line comment has a 0D before it, as some editors write.
pub data Gap : Type 0 where
  space : (byte : ℕ) → Gap
  line : (return : Bool) (body : List ℕ) → Gap
  block : (body : List ℕ) → Gap

-- "its line feed"
unfoldable pub line_feed : (return : Bool) → List ℕ
line_feed false = 0x0A ∷ []
line_feed true = 0x0D ∷ 0x0A ∷ []

-- its bytes: "a line comment with its line feed"
unfoldable pub gap_bytes : Gap → List ℕ
gap_bytes (space b) = b ∷ []
gap_bytes (line return body) = ascii "//" ++ (body ++ line_feed return)
gap_bytes (block body) = ascii "/*" ++ (body ++ ascii "*/")

-- all bytes pass the test
unfoldable pub every : (ℕ → Bool) → List ℕ → Bool
every p [] = true
every p (b ∷ s) = p b && every p s

-- `*/` stands somewhere in the bytes
unfoldable pub holds_end : List ℕ → Bool
holds_end [] = false
holds_end (b ∷ s) = (is "*" b && starts_with (ascii "/") s) || holds_end s

-- "whole": `//` runs to before the next 0A or 0D, so a line comment's body holds neither; `/*` runs to the first `*/`, so a block comment's
-- body holds none. "UTF-8": the marks are ASCII, so a comment is UTF-8 exactly if its body is.
unfoldable pub is_gap : Gap → Bool
is_gap (space b) = is_space b
is_gap (line return body) = is_utf8 body && every not_newline body
is_gap (block body) = is_utf8 body && not (holds_end body)

-- ---- where

-- "right before or after any token": a token starts or stops at the place
unfoldable pub is_edge : Tokens → (place : ℕ) → Bool
is_edge (L.next t ts) p = (eqb p t.start || eqb p t.stop) || is_edge ts p
is_edge (L.end place) p = false
is_edge (Tokens.fault number place) p = false

-- one space or comment, put before the text's byte at `place`, or at the text's end
pub record Insertion : Type 0 where
  pub place : ℕ
  pub gap : Gap

-- every insertion of the list is one that the request speaks of
unfoldable pub may_insert : Switches → (text : List ℕ) → List Insertion → Bool
may_insert sw text [] = true
may_insert sw text (i ∷ added) = is_gap i.gap && is_edge (tokens sw text) i.place && may_insert sw text added

-- ---- the new text

-- the bytes inserted at a place, in the order of the list
unfoldable pub inserted_at : List Insertion → (place : ℕ) → List ℕ
inserted_at [] p = []
inserted_at (i ∷ added) p = cond (eqb i.place p) (gap_bytes i.gap ++ inserted_at added p) (inserted_at added p)

-- the bytes of a text from `at` on: before the byte at p stands g p, and after the last byte what g puts at the text's length
unfoldable pub interleaved : (g : ℕ → List ℕ) (at : ℕ) → List ℕ → List ℕ
interleaved g at [] = g at
interleaved g at (b ∷ s) = g at ++ (b ∷ interleaved g (suc at) s)

-- the text with all insertions made
unfoldable pub with_gaps : List Insertion → (text : List ℕ) → List ℕ
with_gaps added text = interleaved (inserted_at added) 0 text

-- ---- where places go

-- how many bytes g puts at the places below p
unfoldable pub put_below : (g : ℕ → List ℕ) (p : ℕ) → ℕ
put_below g zero = 0
put_below g (suc p) = put_below g p + length (g p)

-- "the old one plus the bytes inserted before the byte it names": those put at the byte's own place stand before it too
unfoldable pub new_start : (g : ℕ → List ℕ) (place : ℕ) → ℕ
new_start g p = p + put_below g (suc p)

-- "an end moves with the last byte of its span", and is one past it; an end that moves is never 0
unfoldable pub new_stop : (g : ℕ → List ℕ) (place : ℕ) → ℕ
new_stop g p = suc (new_start g (p - 1))

-- the two words of a span
unfoldable pub new_span : (g : ℕ → List ℕ) (start stop : ℕ) → List ℕ
new_span g start stop = new_start g start ∷ new_stop g stop ∷ []

-- "0, 0 for a missing key or name stays 0, 0"
unfoldable pub new_or_none : (g : ℕ → List ℕ) (start stop : ℕ) → List ℕ
new_or_none g start stop = cond (eqb start 0 && eqb stop 0) (0 ∷ 0 ∷ []) (new_span g start stop)

-- ---- what becomes of the table

-- "for strings and dates": kinds 4 and 5; there are no dates yet
unfoldable pub is_string : (kind : ℕ) → Bool
is_string k = eqb k 4 || eqb k 5

-- the twelve words of a node whose word i was w i: "the tables differ only in words 2 to 7 and, for strings and dates, 9 and 10"
unfoldable pub new_row : (g : ℕ → List ℕ) (w : ℕ → ℕ) → List ℕ
new_row g w =
    w 0 ∷ w 1 ∷ (new_span g (w 2) (w 3) ++ (new_or_none g (w 4) (w 5) ++ (new_or_none g (w 6) (w 7)
    ++ (w 8 ∷ (cond (is_string (w 0)) (new_span g (w 9) (w 10)) (w 9 ∷ w 10 ∷ []) ++ (w 11 ∷ []))))))

-- two tables with so many nodes: equally long, each word of each node as `new_row` says, and the words after the last node the same
pub record SameData (g : ℕ → List ℕ) (nodes : ℕ) (old new : List ℕ) : Type 0 where
  pub as_long : length new ≡ length old
  pub words_are : (node i : ℕ) → node < nodes → i < 12 → word_of new node i ≡ get_or (new_row g (word_of old node)) i 0
  pub rest_kept : (k : ℕ) → node_words * nodes ≤ k → get_or new k 0 ≡ get_or old k 0

-- ---- the claim

-- "it reads with the same table size", as many nodes, and the same data
pub record Kept (sw : Switches) (words : ℕ) (text : List ℕ) (added : List Insertion) : Type 0 where
  pub still : reads sw words (with_gaps added text) ≡ true
  pub as_many : node_count (reading sw words (with_gaps added text)) ≡ node_count (reading sw words text)
  pub same_data : SameData (inserted_at added) (node_count (reading sw words text)) (table_of words (reading sw words text))
      (table_of words (reading sw words (with_gaps added text)))

-- "Take a text that reads, and insert spaces or whole UTF-8 comments right before or after any token .. If the new text is at most 65,536
-- bytes": in every edition, with a table of any size
unfoldable pub CommentsKept : Type 0
CommentsKept =
    (sw : Switches) (words : ℕ) (text : List ℕ) (added : List Insertion) → reads sw words text ≡ true → may_insert sw text added ≡ true
    → length (with_gaps added text) ≤ max_text → Kept sw words text added
