use native.Mathlib.Omega.{arith}
use mathlib.Core.Path.{ap}
use Prim.Native.Nat.{◌-◌}
use mir.Syntax.{w64}
use mir.Facts.{to_z_pos}
use borrow.Author.Tests.{le-leb, lt-leb}
use Rattle.std.specs.declared.result.Result.TheVariants.{Ok}
use Rattle.literals.specs.declared.number.NumberValue.TheVariants.{Integer}
use Rattle.literals.specs.Number.{as_integer}
use Rattle.literals.proofs.Signed.{down_fits, neg_read}
use Rattle.literals.proofs.number.as_integer.Goals as goal

pub returns-then-m : goal.returns-then-m
unfolding as_integer
returns-then-m c = rw (c.if-minus.true, lt-leb c.args.m 9223372036854775808 (omega arith))

pub returns-then-m-eq0 : goal.returns-then-m-eq0
unfolding as_integer
returns-then-m-eq0 c = rw (c.if-minus.true, c.if-m-eq0.true)

pub overflow_sub-result : goal.overflow_sub-result
overflow_sub-result c = down_fits (c.args.m - 1) (omega arith)

pub returns-then-minus : goal.returns-then-minus
unfolding as_integer
returns-then-minus c =
    rw (c.if-minus.true, le-leb c.args.m 9223372036854775808 (omega arith)) (ap (λ x. Ok (Integer x)) (neg_read c.args.m (omega arith) (omega arith)))

pub returns-then-m-gt-MOST : goal.returns-then-m-gt-MOST
unfolding as_integer
returns-then-m-gt-MOST c = rw (c.if-minus.false, lt-leb c.args.m 9223372036854775807 (omega arith))

pub returns : goal.returns
unfolding as_integer
returns c = rw (c.if-minus.false, le-leb c.args.m 9223372036854775807 (omega arith)) (ap (λ x. Ok (Integer x)) (to_z_pos w64 (omega arith)))
