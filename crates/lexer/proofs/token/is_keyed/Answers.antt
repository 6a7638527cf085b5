use Rattle.text.specs.Refusal.{told}
use mathlib.Core.Path.{◌∙◌, ap}
use Rattle.std.specs.Prelude.{Ok}
use Rattle.std.proofs.Common.{arith, sym, ◌∙◌}
use Rattle.std.proofs.lemmas.Grind.{common_steps}
use Rattle.lexer.proofs.PartLaws.{keyed_first}
use Rattle.lexer.proofs.token.is_keyed.Goals as goal

pub returns-then-next-token : goal.returns-then-next-token
returns-then-next-token c =
    let e = keyed_first c.args.sw c.args.token.now c.in-Ok-Token.next (sym c.next_token.ensures ∙ ap told (c.in-Ok-Token.is ∙ ap Ok c.in-Ok-Token.field-0-is)) in grind (arith, common_steps)

pub returns-else-next-token : goal.returns-else-next-token
returns-else-next-token c =
    let e = keyed_first c.args.sw c.args.token.now c.in-Ok-Token.next (sym c.next_token.ensures ∙ ap told (c.in-Ok-Token.is ∙ ap Ok c.in-Ok-Token.field-0-is)) in grind (arith, common_steps)
