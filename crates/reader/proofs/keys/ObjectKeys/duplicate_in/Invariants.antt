use Rattle.reader.proofs.SiblingLaws.{Over}
use mathlib.Core.Path.{◌≡◌}
use lib.ListN.{length}
use Rattle.reader.specs.Internal.Index.{key_bytes}
use Rattle.reader.proofs.IndexRun.{Grown}
use Rattle.reader.proofs.keys.ObjectKeys.duplicate_in.Given as goal

abbrev pub invariant-loop-child : goal.invariant-loop-child
invariant-loop-child l =
    (goal.iterator-loop-child).can_next l.child-iterator
    × (goal.iterator-loop-child).is_finite l.child-iterator
    × Over l.self.table.now l.self.next l.child-iterator
    × Grown l.self.sw l.self.text.now l.self.table.now l.links l.tests l.self.first l.child-iterator.next l.self.next
    × (length l.own ≡ key_bytes) × (length l.other ≡ key_bytes)
