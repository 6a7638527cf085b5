use native.Mathlib.Omega.{arith}
use mathlib.Core.Path.{sym, ap, ◌∙◌}
use mir.Syntax.{w64}
use mir.Facts.{to_z_pos}
use Rattle.std.specs.declared.result.Result.TheVariants.{Ok}
use Rattle.literals.specs.declared.number.NumberValue.TheVariants.{Decimal}
use Rattle.literals.proofs.NumberLaws.{decimal_wide, power_wide, decimal_good, decimal_low}
use Rattle.literals.proofs.Signed.{neg_of_fits, neg_of_read}
use Rattle.literals.proofs.number.as_decimal.Goals as goal

pub returns-then-m-gt-MOST : goal.returns-then-m-gt-MOST
returns-then-m-gt-MOST c = sym (decimal_wide c.args.minus c.args.m _ c.if-m-gt-MOST.true)

pub returns-then-power-gt-MOST_POWER : goal.returns-then-power-gt-MOST_POWER
returns-then-power-gt-MOST_POWER c =
    sym (power_wide c.args.minus c.args.m c.args.below c.args.power c.if-power-gt-MOST_POWER.true)

pub overflow_sub-result : goal.overflow_sub-result
overflow_sub-result c = neg_of_fits c.args.power (omega arith)

pub returns-then-below : goal.returns-then-below
returns-then-below c =
    rw c.if-below.true (ap (λ x. Ok (Decimal c.args.minus c.args.m x)) (neg_of_read c.args.power (omega arith)) ∙ sym (decimal_low c.args.minus c.args.m c.args.power (omega arith) (omega arith)))

pub returns : goal.returns
returns c =
    rw c.if-below.false (ap (λ x. Ok (Decimal c.args.minus c.args.m x)) (to_z_pos w64 (omega arith)) ∙ sym (decimal_good c.args.minus c.args.m c.args.power (omega arith) (omega arith)))
