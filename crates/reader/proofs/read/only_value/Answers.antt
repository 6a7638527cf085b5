use Rattle.text.specs.Refusal.{told}
use Rattle.std.specs.Prelude.{Ok}
use mathlib.Core.Path.{sym, ap, ◌∙◌}
use Rattle.reader.specs.Internal.Whole.{alone_of}
use Rattle.reader.proofs.read.only_value.Goals as goal

pub returns-in-Ok-End : goal.returns-in-Ok-End
unfolding alone_of
returns-in-Ok-End c =
    sym (ap (alone_of c.args.start c.args.stop c.args.nodes) (sym c.next_token.ensures ∙ (ap told (c.in-Ok-End.is ∙ ap Ok c.in-Ok-End.field-0-is))))

pub returns-in-Ok-Token : goal.returns-in-Ok-Token
unfolding alone_of
returns-in-Ok-Token c =
    sym (ap (alone_of c.args.start c.args.stop c.args.nodes) (sym c.next_token.ensures ∙ (ap told (c.in-Ok-Token.is ∙ ap Ok c.in-Ok-Token.field-0-is))))

pub returns-in-Err : goal.returns-in-Err
unfolding alone_of
returns-in-Err c =
    sym (ap (alone_of c.args.start c.args.stop c.args.nodes) (sym c.next_token.ensures ∙ (ap told c.in-Err.is)))
