use Rattle.std.proofs.Common.{◌≡◌, drop}
use Rattle.text.specs.Bytes.{feed}
use Rattle.literals.specs.declared.word.Shape.TheVariants.{Start}
use Rattle.literals.specs.Word.{shape_step}
use Rattle.literals.proofs.word.has_shape.Given as goal

abbrev pub invariant-loop-b : goal.invariant-loop-b
invariant-loop-b l = feed shape_step Start l.s ≡ feed shape_step l.state (drop l.b-index l.s)
