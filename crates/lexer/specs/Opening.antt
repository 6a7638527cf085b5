-- What opens a string, and where a token holds its content: what the code decides by the first bytes.
-- Nothing here has to be believed: `opening_item` (proofs/OpeningLaws.antt) shows that it says what `item` says, and `part_holds`
-- (proofs/PartLaws.antt) that a token's content is that of its part.
-- Assumes nothing.
use Rattle.std.specs.Prelude.{ℕ, ◌+◌, ◌-◌, Bool, true, false, cond, ◌&&◌, List, eqb, length, drop, get_or}
use Rattle.text.specs.declared.switches.Switches.{Switches}
use Rattle.text.specs.Bytes.{starts_with, ascii}
use Rattle.literals.specs.declared.decoder.Body.{Body}
use Rattle.literals.specs.declared.decoder.Body.TheVariants as Y
use Rattle.lexer.specs.declared.opening.Opening.{Opening}
use Rattle.lexer.specs.declared.opening.Opening.TheVariants as O
use Rattle.lexer.specs.declared.token.Part.{Part}
use Rattle.lexer.specs.Token.{Item, fault, string_item, hash_count, word_item}

-- ---- what opens

-- a string opens
abbrev pub string_opening : (isText : Bool) → Body → (before hashes : ℕ) → Opening
string_opening isText body before hashes = O.String (record { is_text = isText; body = body; before = before; hashes = hashes })

-- after `r` or `br`, which are `before` bytes: hashes and a quote open a raw string, and hashes with no quote behind them nothing else
unfoldable pub raw_opening : (isText : Bool) → (before : ℕ) → List ℕ → Opening
raw_opening isText before s =
    cond (starts_with (ascii "\"") (drop (hash_count s) s)) (string_opening isText Y.Raw (before + hash_count s + 1) (hash_count s))
    (cond (eqb (hash_count s) 0) O.Nothing
    O.Broken)

module _ (sw : Switches) where
  -- after a `b`
  unfoldable pub bytes_opening : List ℕ → Opening
  bytes_opening s =
      cond (starts_with (ascii "\"") s) (string_opening false Y.Quoted 2 0)
      (cond (sw.base64 && starts_with (ascii "64\"") s) (string_opening false Y.Base64 4 0)
      (cond (starts_with (ascii "r") s) (raw_opening false 2 (drop 1 s))
      O.Nothing))

  -- "Strings open with `"`, `b"`, `b64"`, or `r` or `br` followed at once by any number of `#` and a quote."
  unfoldable pub opening_of : List ℕ → Opening
  opening_of s =
      cond (starts_with (ascii "\"") s) (string_opening true Y.Quoted 1 0)
      (cond (starts_with (ascii "b") s) (bytes_opening (drop 1 s))
      (cond (starts_with (ascii "r") s) (raw_opening true 1 (drop 1 s))
      O.Nothing))

  -- the item at the front of s, where this opens
  unfoldable pub opened_item : Opening → List ℕ → Item
  opened_item (O.String h) s = string_item sw h.is_text h.body (h.before - 1) h.hashes (drop h.before s)
  opened_item O.Broken s = fault 3
  opened_item O.Nothing s = word_item (get_or s 0 0) (drop 1 s)

-- ---- where a content stands

-- a word's is all of its n bytes
abbrev pub word_part : (n : ℕ) → Part
word_part n = record { is_text = false; body = Y.Word; span = record { start = 0; stop = n } }

-- in n bytes where this opens: a string's is what stands between its opening and its closing quote
unfoldable pub opened_part : (n : ℕ) → Opening → Part
opened_part n (O.String h) =
    record { is_text = h.is_text; body = h.body; span = record { start = h.before; stop = n - 1 - h.hashes } }
opened_part n O.Broken = word_part n
opened_part n O.Nothing = word_part n

-- in the bytes of a string or key
unfoldable pub part_of : Switches → List ℕ → Part
part_of sw s = opened_part (length s) (opening_of sw s)
