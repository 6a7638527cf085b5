-- What the functions that look ahead answer, by the next token. Where one has to come, the text's end is refused with 7.
-- Assumes nothing.
use Rattle.std.specs.Prelude.{ℕ, Bool, false, cond, List, eqb, Ok, Err}
use Prim.Native.Char.{code}
use Rattle.text.specs.declared.switches.Switches.{Switches}
use Rattle.text.specs.Refusal.{refusal, Refusal}
use Rattle.lexer.specs.declared.item.Token.{Token}
use Rattle.lexer.specs.declared.item.TokenKind.{TokenKind}
use Rattle.lexer.specs.declared.item.TokenKind.TheVariants as K
use Rattle.lexer.specs.declared.item.Next.{Next}
use Rattle.lexer.specs.declared.item.Next.TheVariants as N
use Rattle.lexer.specs.Token.{tokens_from}
use Rattle.lexer.specs.Answer.{first_of}
use Rattle.reader.specs.declared.tree.Kind.{Kind}
use Rattle.std.specs.declared.result.Result.{Result}
use Rattle.reader.specs.declared.items.After.{After}
use Rattle.reader.specs.declared.items.After.TheVariants as X
use Rattle.reader.specs.Syntax.{closer}

-- ---- kinds of tokens

-- the token is this mark
unfoldable pub mark_is : TokenKind → ℕ → Bool
mark_is (K.Mark b) c = eqb b c
mark_is K.Word c = false
mark_is (K.Text n) c = false
mark_is (K.Bytes n) c = false
mark_is (K.Integer z) c = false
mark_is (K.Decimal minus m p) c = false

-- the byte that closes a container
abbrev pub closer_byte : Kind → ℕ
closer_byte kind = code (closer kind)

-- ---- the next token

-- the next token, or a refusal
unfoldable pub ahead_of : Result Next Refusal → Result Token Refusal
ahead_of (Ok (N.Token t)) = Ok t
ahead_of (Ok (N.End place)) = Err (refusal 7 place)
ahead_of (Err f) = Err f

-- the same from a place of the text
abbrev pub ahead_at : Switches → List ℕ → (from : ℕ) → Result Token Refusal
ahead_at sw s from = ahead_of (first_of (tokens_from sw s from))

-- its end, if it is this mark
unfoldable pub only_of : (want : ℕ) → Result Token Refusal → Result ℕ Refusal
only_of want (Ok t) = cond (mark_is t.kind want) (Ok t.span.stop) (Err (refusal 7 t.span.start))
only_of want (Err f) = Err f

-- the same from a place of the text
abbrev pub only_at : Switches → List ℕ → (from want : ℕ) → Result ℕ Refusal
only_at sw s from want = only_of want (ahead_at sw s from)

-- the token after a mark that has been looked for
unfoldable pub past_mark : Switches → List ℕ → Result ℕ Refusal → Result Token Refusal
past_mark sw s (Ok stop) = ahead_at sw s stop
past_mark sw s (Err f) = Err f

-- the token after this mark, which comes next
abbrev pub ahead_after : Switches → List ℕ → (from want : ℕ) → Result Token Refusal
ahead_after sw s from want = past_mark sw s (only_at sw s from want)

-- what follows a child of such a container
unfoldable pub follows_by : Kind → Result Token Refusal → Result After Refusal
follows_by kind (Ok t) =
    cond (mark_is t.kind (closer_byte kind)) (Ok (X.Over t.span.stop))
    (cond (mark_is t.kind 44) (Ok (X.More t.span.stop)) (Err (refusal 7 t.span.start)))
follows_by kind (Err f) = Err f

-- the same from a place of the text
abbrev pub follows_at : Switches → List ℕ → Kind → (from : ℕ) → Result After Refusal
follows_at sw s kind from = follows_by kind (ahead_at sw s from)
