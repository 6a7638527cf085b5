-- Tokens and what they begin, as the code knows them.
-- Assumes nothing.
use Rattle.std.specs.Prelude.{ℕ, suc, ◌-◌, ◌≤◌, ◌<◌, ◌≡◌, List, length, get_or, ℤ, pos, negsuc, true, cond, Some, None}
use Rattle.std.specs.Int.Signed.{le_z}
use Rattle.text.specs.declared.switches.Switches.{Switches}
use Rattle.text.specs.Bytes.{same_bytes, is, ascii}
use Rattle.lexer.specs.declared.item.TokenKind.{TokenKind}
use Rattle.lexer.specs.Token as L
use Rattle.lexer.specs.Token.{Form, Item, Token, item_at}
use Rattle.lexer.specs.Answer.{kind_of}
use Rattle.reader.specs.declared.tree.Kind.TheVariants.{Object, Array, Tuple}
use Rattle.text.specs.declared.span.Span as CS
use Rattle.lexer.specs.declared.item.Token as CT
use Rattle.reader.specs.declared.kinds.NodeKind.{NodeKind}
use Rattle.reader.specs.declared.kinds.NodeKind.TheVariants as N
use Rattle.reader.specs.declared.tree.Words.{Words}
use Rattle.reader.specs.declared.tree.Begin.{Begin}
use Rattle.std.specs.declared.option.Option as Rust
use Rattle.reader.specs.declared.tree.Begin.TheVariants as B
use Rattle.reader.specs.Tree as T
use Rattle.reader.specs.Tree.{Scalar, true_value, false_value, null_value, scalar_words}
use Rattle.reader.specs.Syntax.{Begins, begins, container, scalar, identifier, nothing, span_of, opens_with_capital}

-- an item's form; a mark 0 if it is no token
unfoldable pub form_of : Item → Form
form_of (L.gap more) = L.mark 0
form_of (L.token form more) = form
form_of (L.fault number) = L.mark 0

-- the form of the token at a place
unfoldable pub form_at : Switches → List ℕ → ℕ → Form
form_at sw s at = form_of (item_at sw s at)

-- the token from `start` to `stop`
abbrev pub token_at : Switches → List ℕ → (start stop : ℕ) → Token
token_at sw s start stop = record { form = form_at sw s start; start = start; stop = stop }

-- a token of the kind k stands from `start` to `stop`
pub record TokenAt (sw : Switches) (s : List ℕ) (k : TokenKind) (start stop : ℕ) : Type 0 where
  pub item : item_at sw s start ≡ L.token (form_at sw s start) (stop - suc start)
  pub kind : kind_of (form_at sw s start) ≡ k
  pub ordered : start < stop
  pub inside : stop ≤ length s

-- the same of the code's token
abbrev pub IsToken : Switches → List ℕ → CT.Token → Type 0
IsToken sw s t = TokenAt sw s t.kind t.span.start t.span.stop

-- what the token of this span is the first of
abbrev pub begins_at : Switches → List ℕ → CS.Span → Begins
begins_at sw s p = begins (span_of (token_at sw s p.start p.stop)) (form_at sw s p.start)

-- a scalar's kind, as the code's enum
unfoldable pub scalar_kind : Scalar → NodeKind
scalar_kind (T.text token content) = N.Text
scalar_kind (T.bytes token content) = N.Bytes
scalar_kind (T.integer z) = N.Integer
scalar_kind (T.decimal minus m p) = N.Decimal
scalar_kind false_value = N.False
scalar_kind true_value = N.True
scalar_kind null_value = N.Null

-- a scalar's own words, as the code carries them
unfoldable pub leaf_of : Scalar → Words
leaf_of s = record { kind = scalar_kind s; low = get_or (scalar_words s) 0 0; high = get_or (scalar_words s) 1 0; extra = get_or (scalar_words s) 2 0 }

-- the words of a value that its kind alone says
abbrev pub plain_words : NodeKind → Words
plain_words kind = record { kind = kind; low = 0; high = 0; extra = 0 }

-- a string's words: its token's span, and the length of its content
abbrev pub string_words : NodeKind → CS.Span → (length : ℕ) → Words
string_words kind span length = record { kind = kind; low = span.start; high = span.stop; extra = length }

-- the token from `start` to `stop` is a scalar with these words
pub record LeafIs (sw : Switches) (s : List ℕ) (start stop : ℕ) (leaf : Words) : Type 0 where
  pub value : Scalar
  pub is : begins (span_of (token_at sw s start stop)) (form_at sw s start) ≡ scalar value
  pub words : leaf ≡ leaf_of value

-- what the token from `start` to `stop` begins
abbrev pub BeginIs : Switches → List ℕ → (start stop : ℕ) → Rust.Option Begin → Type 0
BeginIs sw s start stop (Some (B.Container kind)) = begins (span_of (token_at sw s start stop)) (form_at sw s start) ≡ container kind
BeginIs sw s start stop (Some (B.Scalar leaf)) = LeafIs sw s start stop leaf
BeginIs sw s start stop (Some B.Identifier) = begins (span_of (token_at sw s start stop)) (form_at sw s start) ≡ identifier
BeginIs sw s start stop None = begins (span_of (token_at sw s start stop)) (form_at sw s start) ≡ nothing

-- the same as a record
pub record Begun (sw : Switches) (s : List ℕ) (start stop : ℕ) (r : Rust.Option Begin) : Type 0 where
  pub is : BeginIs sw s start stop r

-- the code's token stands there, in some edition
pub record TokenHere (s : List ℕ) (t : CT.Token) : Type 0 where
  pub sw : Switches
  pub token : IsToken sw s t

-- what the code's token begins, in every edition in which it stands there
pub record BeginsHere (s : List ℕ) (t : CT.Token) (r : Rust.Option Begin) : Type 0 where
  pub is : (sw : Switches) → IsToken sw s t → Begun sw s t.span.start t.span.stop r

-- what a mark begins
unfoldable pub mark_begin : ℕ → Rust.Option Begin
mark_begin b = cond (is "{" b) (Some (B.Container Object)) (cond (is "[" b) (Some (B.Container Array)) (cond (is "(" b) (Some (B.Container Tuple)) None))

-- what a word of these bytes begins
unfoldable pub word_begin : List ℕ → Rust.Option Begin
word_begin s =
    cond (same_bytes s (ascii "true")) (Some (B.Scalar (leaf_of true_value)))
    (cond (same_bytes s (ascii "false")) (Some (B.Scalar (leaf_of false_value)))
    (cond (same_bytes s (ascii "null")) (Some (B.Scalar (leaf_of null_value)))
    (cond (opens_with_capital s) (Some B.Identifier) None)))

-- what a decimal token's numbers keep to
pub record DecimalFits (m : ℕ) (p : ℤ) : Type 0 where
  pub most : m ≤ 9223372036854775807
  pub least : le_z (negsuc 399) p ≡ true
  pub greatest : le_z p (pos 400) ≡ true
