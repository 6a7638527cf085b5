use Rattle.std.proofs.Common.{length}
use Rattle.literals.proofs.CopyLaws.{Copying}
use Rattle.literals.proofs.copy.copy_content.Given as goal

abbrev pub invariant-loop-b : goal.invariant-loop-b
invariant-loop-b l = Copying l.sw l.initial.state l.s (length l.initial.out) l.out l.state l.at l.end l.b-index
