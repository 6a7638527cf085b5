use Rattle.reader.proofs.SiblingLaws.{Over}
use Rattle.reader.proofs.KeyWalk.{Seeks}
use Rattle.reader.proofs.keys.ObjectKeys.has_before.Given as goal

abbrev pub invariant-loop-child : goal.invariant-loop-child
invariant-loop-child l =
    (goal.iterator-loop-child).can_next l.child-iterator
    × (goal.iterator-loop-child).is_finite l.child-iterator
    × Over l.self.table.now l.fn.end l.child-iterator
    × Seeks l.self.sw l.self.text.now l.self.table.now l.self.first l.fn.end l.fn.key.start l.fn.key.stop l.part.body l.own l.child-iterator.next
