use Rattle.std.proofs.Common.{arith, rules, length, ◌-◌, ◌≤◌}
use Rattle.console.proofs.input.fill_from.Goals as goal

-- What came fits what is left of the buffer.
pub loop-n-preserved : goal.loop-n-preserved
loop-n-preserved g c =
    let fits : c.in-Ok.more ≤ length c.loop-n.buf - c.loop-n.n = omega (arith, c.in-Ok.ensures.bound.0, c.read.auto.buf) in
    search rules
