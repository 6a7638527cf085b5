use mathlib.Core.Path.{sym, ap}
use Rattle.lexer.specs.declared.item.TokenKind.{TokenKind}
use Rattle.reader.specs.Internal.Ahead.{mark_is}
use Rattle.reader.proofs.items.is_mark.Goals as goal

pub returns-in-Mark : goal.returns-in-Mark
unfolding mark_is
returns-in-Mark c = sym (ap (λ (x : TokenKind). mark_is x c.args.b) c.in-Mark.is)

pub returns-in-Word : goal.returns-in-Word
unfolding mark_is
returns-in-Word c = sym (ap (λ (x : TokenKind). mark_is x c.args.b) c.in-Word.is)

pub returns-in-Text : goal.returns-in-Text
unfolding mark_is
returns-in-Text c = sym (ap (λ (x : TokenKind). mark_is x c.args.b) c.in-Text.is)

pub returns-in-Bytes : goal.returns-in-Bytes
unfolding mark_is
returns-in-Bytes c = sym (ap (λ (x : TokenKind). mark_is x c.args.b) c.in-Bytes.is)

pub returns-in-Integer : goal.returns-in-Integer
unfolding mark_is
returns-in-Integer c = sym (ap (λ (x : TokenKind). mark_is x c.args.b) c.in-Integer.is)

pub returns-in-Decimal : goal.returns-in-Decimal
unfolding mark_is
returns-in-Decimal c = sym (ap (λ (x : TokenKind). mark_is x c.args.b) c.in-Decimal.is)
