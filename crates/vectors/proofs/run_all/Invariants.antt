use Prim.Native.Nat.{◌≤◌}
use Rattle.vectors.proofs.run_all.Given as goal

abbrev pub invariant-loop-i : goal.invariant-loop-i
invariant-loop-i l = l.from ≤ l.i
