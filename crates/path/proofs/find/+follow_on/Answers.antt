use native.Mathlib.Omega.{arith}
use mathlib.Core.Path.{sym, ap}
use Rattle.nodes.specs.Children.{number_in}
use Rattle.nodes.proofs.WalkLaws.{handed}
use lib.Seq.{length-take-le}
use Rattle.lexer.proofs.ItemCases.{front_le}
use Rattle.path.specs.Internal.{is_step_byte}
use Rattle.path.proofs.FollowLaws.{fewer_steps, follow_last, follow_next, follow_missing}
use Rattle.path.proofs.find.+follow_on.Goals as goal

pub slice_bounds-find_child-end : goal.slice_bounds-find_child-end
slice_bounds-find_child-end t c = let w = front_le is_step_byte c.args.path.now in let q = c.step_end-e.ensures in sym (length-take-le _ _ (omega arith))

pub returns-then-e-path : goal.returns-then-e-path
returns-then-e-path t c = follow_last _ _ _ _ _ _ _ _ c.step_end-e.ensures c.find_child.ensures.child _ (ap number_in c.in-Some.is) c.if-e-path.true

pub overflow_add-e : goal.overflow_add-e
overflow_add-e t c = let w = front_le is_step_byte c.args.path.now in let q = c.step_end-e.ensures in omega arith

pub slice_bounds-follow_on-count : goal.slice_bounds-follow_on-count
slice_bounds-follow_on-count t c = let w = front_le is_step_byte c.args.path.now in let q = c.step_end-e.ensures in omega arith

pub overflow_add-k : goal.overflow_add-k
overflow_add-k t c = omega arith

pub follow_on-requires : goal.follow_on-requires
follow_on-requires t c =
    let w = front_le is_step_byte c.args.path.now in let q = c.step_end-e.ensures in
    let f = fewer_steps c.args.path.now _ c.step_end-e.ensures (omega arith) in
    (omega arith, omega arith)

pub returns-else-e-path : goal.returns-else-e-path
returns-else-e-path t c =
    let w = front_le is_step_byte c.args.path.now in let q = c.step_end-e.ensures in
    follow_next _ _ _ _ _ _ _ _ c.step_end-e.ensures c.find_child.ensures.child _ _ (ap number_in c.in-Some.is) (omega arith) (rw (handed _ _ _ c.find_child.ensures.in_table c.in-Some.is) at c.follow_on.ensures)

pub returns-in-None : goal.returns-in-None
returns-in-None t c = follow_missing _ _ _ _ _ _ _ _ c.step_end-e.ensures c.find_child.ensures.child (ap number_in c.in-None.is)

pub slice_bounds-follow_on-start : goal.slice_bounds-follow_on-start
slice_bounds-follow_on-start t c = let w = front_le is_step_byte c.args.path.now in let q = c.step_end-e.ensures in omega arith
