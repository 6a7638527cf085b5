use native.Mathlib.Omega.{arith}
use Rattle.reader.proofs.SignedLaws.{power_small, power_fits, power_read}
use Rattle.reader.proofs.begin.power_word.Goals as goal

pub overflow_add-result : goal.overflow_add-result
overflow_add-result c = power_fits c.args.p c.ranges.p c.requires.0 c.requires.1

pub overflow_cast-result : goal.overflow_cast-result
overflow_cast-result c = let h = power_small c.args.p c.ranges.p c.requires.0 c.requires.1 in rw (power_read c.args.p c.ranges.p c.requires.0 c.requires.1) (tt, omega arith)

pub returns : goal.returns
returns c = rw (power_read c.args.p c.ranges.p c.requires.0 c.requires.1)
