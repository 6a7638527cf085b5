use mathlib.Core.Path.{sym, ap, ◌∙◌}
use Rattle.text.specs.Refusal.{numbered}
use Rattle.duper.proofs.NumberLaws.{given_number, declined_number}
use Rattle.duper.proofs.duper_content.Goals as goal

pub returns-in-Ok : goal.returns-in-Ok
returns-in-Ok c =
    (given_number _ _ (sym (ap numbered c.in-Ok.is) ∙ c.content.ensures.0), c.content.ensures.1)

pub returns-in-Err : goal.returns-in-Err
returns-in-Err c =
    (c.packed.ensures ∙ declined_number _ _ (sym (ap numbered c.in-Err.is) ∙ c.content.ensures.0), c.content.ensures.1)
