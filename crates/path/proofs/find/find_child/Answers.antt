use Rattle.path.proofs.FollowLaws.{child_object, child_array, child_other}
use Rattle.path.proofs.find.find_child.Goals as goal

pub returns-in-Object-clause-child : goal.returns-in-Object-clause-child
returns-in-Object-clause-child c = child_object _ _ _ _ _ _ c.kind.ensures _ c.in-Object.is c.member.ensures.child

pub returns-in-Array-clause-child : goal.returns-in-Array-clause-child
returns-in-Array-clause-child c = child_array _ _ _ _ _ _ c.kind.ensures _ c.in-Array.is c.find_indexed.ensures.child

pub returns-in_default-clause-child : goal.returns-in_default-clause-child
returns-in_default-clause-child c = child_other _ _ _ _ _ _ c.kind.ensures c.in_default.not-Object c.in_default.not-Array c.in_default.not-Tuple
