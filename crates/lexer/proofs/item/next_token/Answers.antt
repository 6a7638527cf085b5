use Rattle.std.specs.Prelude.{Ok}
use Rattle.text.specs.Refusal.{numbered}
use native.Mathlib.Omega.{arith}
use mathlib.Core.Path.{sym, ap, ◌∙◌}
use Rattle.lexer.proofs.NextLaws.{after_gap}
use Rattle.lexer.proofs.item.next_token.Goals as goal

pub loop-end-smaller : goal.loop-end-smaller
loop-end-smaller c =
    let g = after_gap c.args.sw c.args.text.now c.loop-end.i c.in-Ok-Gap.end (sym c.item_by.ensures ∙ ap numbered (c.in-Ok-Gap.is ∙ ap Ok c.in-Ok-Gap.field-0-is)) in omega arith
