use Rattle.std.proofs.Common.{◌+◌}
use Rattle.literals.proofs.TallyLaws.{Tallied}
use Rattle.literals.proofs.content.measure_content.Given as goal

abbrev pub invariant-loop-b : goal.invariant-loop-b
invariant-loop-b l = Tallied l.sw l.is_text l.initial.state l.s l.state l.machine l.size (l.from + l.b-index)
