use Prim.Native.Nat.{◌-◌}
use lib.ListN.{length}
use Rattle.literals.specs.InternalContent.{cursor_at}
use Rattle.literals.proofs.CursorLaws.{Walked}
use Rattle.literals.proofs.compare.next_byte.Given as goal

abbrev pub invariant-loop-b : goal.invariant-loop-b
invariant-loop-b l = Walked l.sw l.s (cursor_at l.initial.i l.initial.state l.initial.few) (cursor_at l.i l.state l.few)

abbrev pub decreases-loop-b : goal.decreases-loop-b
decreases-loop-b l = length l.s - l.i
