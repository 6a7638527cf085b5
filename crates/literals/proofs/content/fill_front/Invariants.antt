use Rattle.literals.proofs.FillLaws.{Filled}
use Rattle.literals.proofs.content.fill_front.Given as goal

abbrev pub invariant-loop-b : goal.invariant-loop-b
invariant-loop-b l = Filled l.sw l.initial.state l.s l.initial.out l.out l.state l.filled l.b-index
