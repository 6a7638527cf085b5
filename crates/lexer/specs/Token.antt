-- The text cut into tokens from the left, "with spaces and comments skipped between them" (document 01, "Bytes and tokens").
-- Each definition looks at the bytes from a place to the text's end, and counts from that place; `cut` adds the places.
-- Assumes nothing.
use Rattle.std.specs.Prelude.{ℕ, zero, suc, ◌+◌, ◌-◌, Bool, true, false, cond, ◌&&◌, ◌||◌, List, [], ◌∷◌, eqb, length, take, drop, get_or, ℤ}
use Rattle.std.proofs.Math.Option.{Option, none, some}
use Rattle.text.specs.declared.switches.Switches.{Switches}
use Rattle.text.specs.Bytes.{front, starts_with, class_of, Class, is_word_byte, is_number_byte, is, ascii}
use Rattle.literals.specs.declared.decoder.Body.{Body}
use Rattle.literals.specs.declared.decoder.Body.TheVariants as Y
use Rattle.literals.specs.Content.{content_of}
use Rattle.literals.specs.Number.{Meaning}
use Rattle.std.specs.declared.result.Result.TheVariants.{Ok, Err}
use Rattle.literals.specs.declared.number.NumberValue.TheVariants as N
use Rattle.literals.specs.declared.number.NumberError.TheVariants as E
use Rattle.literals.specs.Number.{number}
use Rattle.literals.specs.Word.{has_shape}
use Rattle.lexer.specs.declared.closing.Closing.{Closing}
use Rattle.lexer.specs.declared.closing.Closing.TheVariants as C
use Rattle.lexer.specs.declared.closing.Block.{Block}
use Rattle.lexer.specs.declared.closing.Block.TheVariants as B
use Rattle.lexer.specs.Closing.{closing, block, not_newline}

-- ---- items: what stands at a place

-- a token's form, with its value: a bracket or mark with its byte, a word with its bytes, a string with its content
pub data Form : Type 0 where
  mark : ℕ → Form
  word text bytes : List ℕ → Form
  integer : ℤ → Form
  decimal : (minus : Bool) (m : ℕ) (p : ℤ) → Form

-- `gap`: a space or a comment. `more` counts an item's bytes after its first. A fault is one of 3, 4, 5, 6, and its place is the
-- item's start.
pub data Item : Type 0 where
  gap : (more : ℕ) → Item
  token : Form → (more : ℕ) → Item
  fault : (number : ℕ) → Item

-- ---- comments

-- "Comments may hold any characters"; one that doesn't end is 3, "malformed or unclosed token or comment"
unfoldable pub block_item : Block → Item
block_item (B.Inside n) = fault 3
block_item (B.Starred n) = fault 3
block_item (B.Closed n) = gap (suc n)

-- after a slash: "`//` runs to before the next 0A or 0D, or to the end"; a slash that opens no comment is malformed
unfoldable pub comment : List ℕ → Item
comment [] = fault 3
comment (b ∷ s) =
    cond (is "/" b) (gap (suc (front not_newline s)))
    (cond (is "*" b) (block_item (block s))
    (fault 3))

-- ---- strings

-- a text with this content, or bytes
abbrev pub string_form : (isText : Bool) → List ℕ → Form
string_form true content = text content
string_form false content = bytes content

-- "In `"` and `b"` a backslash takes the next byte with it"
unfoldable pub has_escapes : Body → Bool
has_escapes Y.Quoted = true
has_escapes Y.Raw = false
has_escapes Y.Base64 = false
has_escapes Y.Word = false

-- a string that closes is a token if it has a content, and else 4, "string content"
unfoldable pub content_item : (isText : Bool) → (more : ℕ) → Option (List ℕ) → Item
content_item isText more (some content) = token (string_form isText content) more
content_item isText more none = fault 4

-- a string: a text or bytes, and how the body between its quotes is decoded
module _ (sw : Switches) (isText : Bool) (body : Body) where
  -- the opening has `head` bytes after its first, `s` follows the opening, and k hashes stand after the closing quote;
  -- a string that doesn't close is 3, "malformed or unclosed token or comment"
  unfoldable pub closed_item : (head k : ℕ) → List ℕ → Closing → Item
  closed_item head k s (C.Closed n) = content_item isText (head + n) (content_of sw isText body (take (n - suc k) s))
  closed_item head k s (C.Inside n) = fault 3
  closed_item head k s (C.Escaped n) = fault 3
  closed_item head k s (C.Hashes j n) = fault 3

  -- "the next free quote ends the token"; "`b64"` ends at the next quote. A raw string with k hashes ends at the first quote
  -- followed by k hashes"
  unfoldable pub string_item : (head k : ℕ) → List ℕ → Item
  string_item head k s = closed_item head k s (closing (has_escapes body) k s)

-- the k of "A raw string with k hashes": the hashes before its opening quote
unfoldable pub hash_count : List ℕ → ℕ
hash_count s = front (is "#") s

-- after `r` or `br`: "any number of `#` and a quote"; "followed by `#` opens a raw string and nothing else"
unfoldable pub raw_item : Switches → (isText : Bool) → (head : ℕ) → List ℕ → Item
raw_item sw isText head s =
    cond (starts_with (ascii "\"") (drop (hash_count s) s))
    (string_item sw isText Y.Raw (head + hash_count s + 1) (hash_count s) (drop (hash_count s + 1) s))
    (fault 3)

-- whether `r` or `br` opens a string: a hash or a quote follows
unfoldable pub opens_raw : List ℕ → Bool
opens_raw s = starts_with (ascii "\"") s || starts_with (ascii "#") s

-- ---- words

-- "runs over letters, digits and joiners"; a word that hasn't the shape is malformed
unfoldable pub word_item : ℕ → List ℕ → Item
word_item b s =
    cond (has_shape (b ∷ take (front is_word_byte s) s))
    (token (word (b ∷ take (front is_word_byte s) s)) (front is_word_byte s))
    (fault 3)

-- ---- numbers

-- 3 "malformed", 5 "number too wide"
unfoldable pub meant_item : (more : ℕ) → Meaning → Item
meant_item more (Ok (N.Integer z)) = token (integer z) more
meant_item more (Ok (N.Decimal minus m p)) = token (decimal minus m p) more
meant_item more (Err E.Malformed) = fault 3
meant_item more (Err E.TooWide) = fault 5

-- "runs over letters, digits, `_ . + -`"
unfoldable pub number_item : ℕ → List ℕ → Item
number_item b s = meant_item (front is_number_byte s) (number (b ∷ take (front is_number_byte s) s))

-- ---- the item at a place, by its first byte and the bytes after it

module _ (sw : Switches) where
  -- a small letter: "Strings open with .. `b"`, `b64"`, or `r` or `br` followed at once by any number of `#` and a quote";
  -- "A word opens .. where no string opens"
  unfoldable pub small_item : ℕ → List ℕ → Item
  small_item b s =
      cond (is "b" b && starts_with (ascii "\"") s) (string_item sw false Y.Quoted 1 0 (drop 1 s))
      (cond (is "b" b && sw.base64 && starts_with (ascii "64\"") s) (string_item sw false Y.Base64 3 0 (drop 3 s))
      (cond (is "r" b && opens_raw s) (raw_item sw true 0 s)
      (cond (is "b" b && starts_with (ascii "r") s && opens_raw (drop 1 s)) (raw_item sw false 1 (drop 1 s))
      (word_item b s))))

  -- "A number opens with a digit, `+` or `-`"; "A word opens with a letter or `_`"; "A tick is refused with 6. Each bracket or mark is
  -- a token. Any other byte is malformed."
  unfoldable pub item_of : Class → ℕ → List ℕ → Item
  item_of Class.space b s = gap 0
  item_of Class.digit b s = number_item b s
  item_of Class.capital b s = word_item b s
  item_of Class.small b s = small_item b s
  item_of Class.joiner b s = cond (is "_" b) (word_item b s) (number_item b s)
  item_of Class.quote b s = string_item sw true Y.Quoted 0 0 s
  item_of Class.tick b s = fault (cond sw.ticks 6 3)
  item_of Class.mark b s = token (mark b) 0
  item_of Class.slash b s = comment s
  item_of Class.plus b s = number_item b s
  item_of Class.other b s = fault 3

  -- the item whose first byte is b, with s after it: "Each of the 256 byte values has one class"
  unfoldable pub item : ℕ → List ℕ → Item
  item b s = item_of (class_of b) b s

-- ---- the tokens of a text

-- a token and its span in the text; `stop` is the end: "Ends are one past"
pub record Token : Type 0 where
  pub form : Form
  pub start : ℕ
  pub stop : ℕ

-- tokens with absolute places; `end place`: nothing but spaces and comments follow, and the text ends at `place`
pub data Tokens : Type 0 where
  next : Token → Tokens → Tokens
  end : (place : ℕ) → Tokens
  fault : (number place : ℕ) → Tokens

-- the item at `at`, and then the tokens from its end on, which `rest` gives
unfoldable pub after_item : (at : ℕ) → Item → ((more : ℕ) → Tokens) → Tokens
after_item at (gap more) rest = rest more
after_item at (token form more) rest = next (record { form = form; start = at; stop = at + suc more }) (rest more)
after_item at (fault number) rest = Tokens.fault number at

module _ (sw : Switches) where
  -- the tokens from `at` on, where the first `left` bytes still belong to an item that has been cut
  unfoldable pub cut : (left at : ℕ) → List ℕ → Tokens
  cut left at [] = end at
  cut (suc left) at (b ∷ s) = cut left (suc at) s
  cut zero at (b ∷ s) = after_item at (item sw b s) (λ more. cut more (suc at) s)

  -- "Then it is cut into tokens from the left, with spaces and comments skipped between them."
  unfoldable pub tokens : List ℕ → Tokens
  tokens s = cut 0 0 s

  -- the item at a place of a text
  unfoldable pub item_at : List ℕ → (at : ℕ) → Item
  item_at s at = item sw (get_or s at 0) (drop (suc at) s)

  -- the tokens of a text from a place on
  unfoldable pub tokens_from : List ℕ → (at : ℕ) → Tokens
  tokens_from s at = cut 0 at (drop at s)

-- ---- a single token

-- the content of a token, if it is "any string token or any word of the key shape"
unfoldable pub key_content : Form → Option (List ℕ)
key_content (mark b) = none
key_content (word s) = some s
key_content (text s) = some s
key_content (bytes s) = some s
key_content (integer z) = none
key_content (decimal minus m p) = none

-- the item is a token and nothing follows it
unfoldable pub whole_item : (more : ℕ) → Item → Option (List ℕ)
whole_item n (gap more) = none
whole_item n (token form more) = cond (eqb more n) (key_content form) none
whole_item n (fault number) = none

-- the content of bytes that are one string or key, "valid by itself"; UTF-8 is asked apart
unfoldable pub token_content : Switches → List ℕ → Option (List ℕ)
token_content sw [] = none
token_content sw (b ∷ s) = whole_item (length s) (item sw b s)
