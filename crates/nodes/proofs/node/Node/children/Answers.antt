use Rattle.nodes.proofs.WalkLaws.{all_left}
use Rattle.nodes.proofs.node.Node.children.Goals as goal

pub invariant_of-result : goal.invariant_of-result
invariant_of-result c = record { left = all_left _ _ _ c.args.self.stands c.word_of.ensures }
