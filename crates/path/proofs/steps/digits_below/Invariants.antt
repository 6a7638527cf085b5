use Rattle.path.proofs.StepLaws.{DigitsAt}
use Rattle.path.proofs.steps.digits_below.Given as goal

abbrev pub invariant-loop-b : goal.invariant-loop-b
invariant-loop-b l = DigitsAt l.step l.limit l.v l.b-index
