use Rattle.nodes.specs.Nodes.{has_key}
use Rattle.nodes.proofs.WalkLaws.{WalksOver}
use Rattle.nodes.proofs.ChildLaws.{FirstWalk}
use Rattle.nodes.proofs.node.Node.member.Given as goal

abbrev pub invariant-loop-child : goal.invariant-loop-child
invariant-loop-child l =
    WalksOver l.self.table.now l.self.number l.child-iterator
    × FirstWalk (has_key l.sw l.text l.key) l.self.table.now l.self.number l.child-iterator.next
