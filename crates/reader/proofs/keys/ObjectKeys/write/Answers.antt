use mathlib.Core.Path.{◌∙◌}
use Rattle.reader.proofs.PrefixLaws.{key_short, key_long}
use Rattle.reader.proofs.keys.ObjectKeys.write.Goals as goal

pub returns-in_err-end : goal.returns-in_err-end
returns-in_err-end c =
    rw c.from_residual.ensures
    (record { is = λ w k. key_long (c.copy.auto.out ∙ c.requires.out_len) (c.in_err-end.ensures.is w k) })

pub returns : goal.returns
returns c =
    record { is = λ w k. key_short (c.copy.auto.out ∙ c.requires.out_len) (c.in_ok-end.ensures.is w k) }
