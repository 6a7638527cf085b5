use mathlib.Core.Path.{refl}
use Rattle.text.specs.Switches.{present_edition}
use Rattle.text.proofs.switches.present.Goals as goal

pub returns : goal.returns
unfolding present_edition
returns c = refl
