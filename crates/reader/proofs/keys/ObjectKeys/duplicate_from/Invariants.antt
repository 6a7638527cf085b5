use Rattle.reader.proofs.SiblingLaws.{Over}
use Rattle.reader.specs.Internal.Few.{Walked}
use Rattle.reader.proofs.keys.ObjectKeys.duplicate_from.Given as goal

abbrev pub invariant-loop-child : goal.invariant-loop-child
invariant-loop-child l =
    (goal.iterator-loop-child).can_next l.child-iterator
    × (goal.iterator-loop-child).is_finite l.child-iterator
    × Over l.self.table.now l.self.next l.child-iterator
    × Walked l.self.sw l.self.text.now l.self.table.now l.self.first l.child-iterator.next l.self.next
