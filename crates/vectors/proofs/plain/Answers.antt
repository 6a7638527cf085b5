use native.Mathlib.Omega.{arith}
use lib.ListN.{length-set}
use Rattle.vectors.proofs.plain.Goals as goal

pub shape_of-out-then-out-k : goal.shape_of-out-then-out-k
shape_of-out-then-out-k c = c.loop-i.invariant.1

pub loop-i-preserved-then-b-ne126 : goal.loop-i-preserved-then-b-ne126
loop-i-preserved-then-b-ne126 c = simp length-set (omega arith, omega arith)

pub loop-i-preserved : goal.loop-i-preserved
loop-i-preserved c = simp length-set (omega arith, omega arith)

pub shape_of-out : goal.shape_of-out
shape_of-out c = c.loop-i.invariant.1
