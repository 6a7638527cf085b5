use native.Mathlib.Omega.{arith}
use mathlib.Core.Path.{sym}
use lib.Seq.{length-take-le}
use Rattle.vectors.proofs.show.content.Goals as goal

pub slice_bounds-hex-end : goal.slice_bounds-hex-end
slice_bounds-hex-end c = sym (length-take-le _ _ (omega arith))
