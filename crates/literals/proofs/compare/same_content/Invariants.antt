use Rattle.literals.specs.InternalContent.{weight}
use Rattle.literals.proofs.CursorLaws.{Both}
use Rattle.literals.proofs.compare.same_content.Given as goal

abbrev pub invariant-loop-x : goal.invariant-loop-x
invariant-loop-x l = Both l.sw l.a l.b l.initial.left l.initial.right l.left l.right

abbrev pub decreases-loop-x : goal.decreases-loop-x
decreases-loop-x l = weight l.a l.left
