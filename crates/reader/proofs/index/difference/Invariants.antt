use mathlib.Core.Path.{◌≡◌}
use Prim.Native.Nat.{◌+◌}
use lib.ListN.{drop}
use Rattle.reader.specs.Internal.Index.{agreed}
use Rattle.reader.proofs.index.difference.Given as goal

abbrev pub invariant-loop-i : goal.invariant-loop-i
invariant-loop-i l = agreed l.a l.b ≡ l.i + agreed (drop l.i l.a) (drop l.i l.b)
