use native.Mathlib.Omega.{arith}
use mathlib.Core.Path.{sym}
use Prim.Native.Nat.{◌+◌}
use Rattle.literals.proofs.NumberLaws.{power_below, power_less, power_more, power_low}
use Rattle.literals.proofs.number.with_exponent.Goals as goal

pub returns-then-exp-gt-MOST_POWER : goal.returns-then-exp-gt-MOST_POWER
returns-then-exp-gt-MOST_POWER c =
    rw (c.if-below.true, power_below) (sym (power_low c.args.minus c.args.m (c.args.exp + c.args.places) (omega arith)))

pub returns-then-places-gt-MOST_POWER : goal.returns-then-places-gt-MOST_POWER
returns-then-places-gt-MOST_POWER c =
    rw (c.if-below.true, power_below) (sym (power_low c.args.minus c.args.m (c.args.exp + c.args.places) (omega arith)))

pub returns-then-below : goal.returns-then-below
returns-then-below c = rw (c.if-below.true, power_below) c.as_decimal.ensures

pub returns-then-exp-places : goal.returns-then-exp-places
returns-then-exp-places c =
    rw (c.if-below.false, power_less c.args.exp c.args.places (omega arith)) c.as_decimal-then-exp-places.ensures

pub returns : goal.returns
returns c =
    rw (c.if-below.false, power_more c.args.exp c.args.places (omega arith)) c.as_decimal-2.ensures
