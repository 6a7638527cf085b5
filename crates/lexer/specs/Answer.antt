-- What the lexer's functions answer, as the code's own enums of src/item.rt: each case with document 01's numbers and places.
-- Assumes nothing.
use Rattle.std.specs.Prelude.{ℕ, suc, ◌+◌, cond, List, ltb, length, Ok, Err}
use Rattle.text.specs.declared.switches.Switches.{Switches}
use Rattle.lexer.specs.declared.item.TokenKind.{TokenKind}
use Rattle.lexer.specs.declared.item.TokenKind.TheVariants as K
use Rattle.lexer.specs.declared.item.Found.{Found}
use Rattle.lexer.specs.declared.item.Found.TheVariants as F
use Rattle.lexer.specs.declared.item.Next.{Next}
use Rattle.std.specs.declared.result.Result.{Result}
use Rattle.text.specs.Refusal.{Refusal}
use Rattle.lexer.specs.declared.item.Next.TheVariants as X
use Rattle.lexer.specs.Token.{Form, mark, word, text, bytes, integer, decimal, Item, gap, token, fault, Tokens, next, end, item_at}

-- a token's form with its value; of a string, the length of its content
unfoldable pub kind_of : Form → TokenKind
kind_of (mark b) = K.Mark b
kind_of (word s) = K.Word
kind_of (text s) = K.Text (length s)
kind_of (bytes s) = K.Bytes (length s)
kind_of (integer z) = K.Integer z
kind_of (decimal minus m p) = K.Decimal minus m p

-- the item at `at`, with its end
unfoldable pub found : (at : ℕ) → Item → Result Found ℕ
found at (gap more) = Ok (F.Gap (at + suc more))
found at (token form more) = Ok (F.Token (kind_of form) (at + suc more))
found at (fault number) = Err number

-- what stands at a place of a text; from its end on nothing does
unfoldable pub found_at : Switches → List ℕ → (at : ℕ) → Result Found ℕ
found_at sw s at = cond (ltb at (length s)) (found at (item_at sw s at)) (Ok F.Nothing)

-- the answer that a token of this kind comes next, with its span
abbrev pub token_next : TokenKind → (start stop : ℕ) → Result Next Refusal
token_next kind start stop = Ok (X.Token (record { kind = kind; span = record { start = start; stop = stop } }))

-- the answer that this is refused next
abbrev pub refused_next : (number place : ℕ) → Result Next Refusal
refused_next number place = Err (record { number = number; place = place })

-- the next token, the end or the first fault
unfoldable pub first_of : Tokens → Result Next Refusal
first_of (next t ts) = token_next (kind_of t.form) t.start t.stop
first_of (end place) = Ok (X.End place)
first_of (Tokens.fault number place) = refused_next number place
