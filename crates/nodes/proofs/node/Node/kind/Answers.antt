use mathlib.Core.Path.{◌∙◌}
use Rattle.reader.proofs.KindLaws.{decoded_as}
use Rattle.nodes.proofs.ChildLaws.{kind_there, kind_answer}
use Rattle.nodes.proofs.node.Node.kind.Goals as goal

pub unwrap-requires : goal.unwrap-requires
unwrap-requires c = kind_there _ _ _ _ c.args.self.stands c.word32_of.ensures c.try_from.ensures

pub returns : goal.returns
returns c = kind_answer _ _ _ (decoded_as _ _ _ c.try_from.ensures c.unwrap.ensures ∙ c.word32_of.ensures)
