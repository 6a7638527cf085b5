-- What only the contracts of this crate's inner functions cite, and of those that are public for the crates above alone.
-- Nothing here has to be believed: the other public contracts don't name it.
-- Assumes nothing.
use Rattle.std.specs.Prelude.{ℕ, ◌+◌, ◌≡◌, Bool, true, false, List, Ok, Err, Result}
use Rattle.std.specs.Prelude as Std
use Rattle.std.proofs.Math.Option.{Option, none, some}
use Rattle.text.specs.declared.switches.Switches.{Switches}
use Rattle.lexer.specs.declared.closing.Closing.{Closing}
use Rattle.lexer.specs.declared.closing.Closing.TheVariants as C
use Rattle.lexer.specs.declared.closing.Block.{Block}
use Rattle.lexer.specs.declared.closing.Block.TheVariants as B
use Rattle.lexer.specs.declared.item.Found.{Found}
use Rattle.lexer.specs.declared.item.Found.TheVariants as F
use Rattle.lexer.specs.declared.item.TokenKind.{TokenKind}
use Rattle.lexer.specs.declared.item.TokenKind.TheVariants as K
use Rattle.lexer.specs.Token.{string_form, token_content}
use Rattle.lexer.specs.Answer.{kind_of}

-- what the machine has counted
unfoldable pub closing_read : Closing → ℕ
closing_read (C.Inside n) = n
closing_read (C.Escaped n) = n
closing_read (C.Hashes j n) = j + n
closing_read (C.Closed n) = n

-- the bytes up to the string's end, if it has ended
unfoldable pub closed_at : Closing → Std.Option ℕ
closed_at (C.Inside n) = Std.None
closed_at (C.Escaped n) = Std.None
closed_at (C.Hashes j n) = Std.None
closed_at (C.Closed n) = Std.Some n

-- the bytes that the machine of comments has counted
unfoldable pub block_read : Block → ℕ
block_read (B.Inside n) = n
block_read (B.Starred n) = n
block_read (B.Closed n) = n

-- the bytes up to the comment's end, if it has ended
unfoldable pub shut_at : Block → Std.Option ℕ
shut_at (B.Inside n) = Std.None
shut_at (B.Starred n) = Std.None
shut_at (B.Closed n) = Std.Some n

-- a string token that ends before `end`, by its content
unfoldable pub string_found : (isText : Bool) (end : ℕ) → Option (List ℕ) → Result Found ℕ
string_found isText end none = Err 4
string_found isText end (some content) = Ok (F.Token (kind_of (string_form isText content)) end)

-- ---- a token by itself

-- a key's token: "any word of the shape, or a text string"
unfoldable pub is_key : TokenKind → Bool
is_key (K.Mark b) = false
is_key K.Word = true
is_key (K.Text n) = true
is_key (K.Bytes n) = false
is_key (K.Integer z) = false
is_key (K.Decimal minus m p) = false

-- a string or key may be a word, a text or bytes
unfoldable pub holds_content : TokenKind → Bool
holds_content (K.Mark b) = false
holds_content K.Word = true
holds_content (K.Text n) = true
holds_content (K.Bytes n) = true
holds_content (K.Integer z) = false
holds_content (K.Decimal minus m p) = false

-- there is a content
unfoldable pub has_content : Option (List ℕ) → Bool
has_content none = false
has_content (some content) = true

-- the bytes s are one string or key
pub record Keyed (sw : Switches) (s : List ℕ) : Type 0 where
  pub content : List ℕ
  pub is : token_content sw s ≡ some content
