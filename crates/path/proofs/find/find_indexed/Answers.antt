use native.Mathlib.Omega.{arith}
use mathlib.Core.Path.{refl, sym, ◌∙◌}
use Rattle.path.proofs.FollowLaws.{node_up, node_room, indexed_at, indexed_none}
use Rattle.path.proofs.find.find_indexed.Goals as goal

pub overflow_sub-size : goal.overflow_sub-size
overflow_sub-size c = let u = node_up _ _ _ c.args.node.stands c.word_of.ensures in omega arith

pub index_of-requires : goal.index_of-requires
index_of-requires c = let r = node_room _ _ _ c.args.node.stands c.word_of.ensures in omega arith

pub returns-clause-child : goal.returns-clause-child
returns-clause-child c = indexed_at _ _ _ _ _ c.word_of.ensures refl _ _ (sym c.in_ok-index_of.was ∙ c.index_of.ensures) c.element.ensures.child

pub returns-in_err-index_of-clause-child : goal.returns-in_err-index_of-clause-child
returns-in_err-index_of-clause-child c =
    rw c.from_residual.ensures (indexed_none _ _ _ _ _ c.word_of.ensures refl (sym c.in_err-index_of.was ∙ c.index_of.ensures))
