use Prim.Native.Nat.{◌<◌, ◌-◌}
use Rattle.reader.specs.Internal.Index.{cells}
use Rattle.reader.proofs.RouteLaws.{Led}
use Rattle.reader.proofs.index.descend.Given as goal

abbrev pub invariant-loop-node : goal.invariant-loop-node
invariant-loop-node l = (l.cell < cells) × Led l.links l.tests l.key l.node l.cell

abbrev pub decreases-loop-node : goal.decreases-loop-node
decreases-loop-node l = cells - l.cell
