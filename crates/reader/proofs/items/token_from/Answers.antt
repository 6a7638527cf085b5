use Rattle.text.specs.Refusal.{told}
use Rattle.std.specs.Prelude.{Ok}
use mathlib.Core.Path.{sym, ap, ◌∙◌}
use Rattle.reader.specs.Internal.Ahead.{ahead_of}
use Rattle.reader.proofs.items.token_from.Goals as goal

pub returns-in-Ok-Token : goal.returns-in-Ok-Token
unfolding ahead_of
returns-in-Ok-Token c = sym (ap ahead_of (sym c.next_token.ensures ∙ (ap told (c.in-Ok-Token.is ∙ ap Ok c.in-Ok-Token.field-0-is))))

pub returns-in-Ok-End : goal.returns-in-Ok-End
unfolding ahead_of
returns-in-Ok-End c = sym (ap ahead_of (sym c.next_token.ensures ∙ (ap told (c.in-Ok-End.is ∙ ap Ok c.in-Ok-End.field-0-is))))

pub returns-in-Err : goal.returns-in-Err
unfolding ahead_of
returns-in-Err c = sym (ap ahead_of (sym c.next_token.ensures ∙ (ap told c.in-Err.is)))
