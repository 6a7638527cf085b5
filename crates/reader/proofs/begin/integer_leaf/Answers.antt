use mathlib.Core.Path.{ap, ◌∙◌}
use mir.Facts.{to_z-of_z}
use mir.Syntax.{w64}
use mir.Val.{of_z}
use Rattle.reader.proofs.SignedLaws.{bits_is}
use Rattle.reader.proofs.BeginLaws.{integer_words}
use Rattle.reader.proofs.begin.integer_leaf.Goals as goal

pub returns : goal.returns
returns c =
    integer_words c.cast_unsigned-bits.result c.args.value (c.cast_unsigned-bits.ensures ∙ ap (of_z w64) (to_z-of_z c.ranges.value) ∙ bits_is c.args.value)
