use Rattle.nodes.specs.Nodes.{has_key}
use Rattle.nodes.proofs.WalkLaws.{walks_start, gave}
use Rattle.nodes.proofs.ChildLaws.{FirstWalk, first_start, member_hit, member_on, member_end}
use Rattle.nodes.proofs.node.Node.member.Goals as goal

pub loop-child-init : goal.loop-child-init
loop-child-init c =
    let e = c.children-child-items.ensures in
    walks_start (FirstWalk (has_key c.args.sw c.args.text.now c.args.key.now) c.args.self.table.now c.args.self.number) _ _ _ _ c.into_iter-child-iterator.ensures.into_iter_gives e.table_is e.next_is e.end_is (first_start _ _ _)

pub returns-then-span_content_is : goal.returns-then-span_content_is
returns-then-span_content_is c =
    let g = gave _ _ c.in-Some.child _ c.next.new.self c.loop-child.invariant.0 c.in-Some.ensures.steps in
    record {
      child = member_hit _ _ _ _ _ _ _ _ _ _ _ c.loop-child.invariant.1 g.1 (rw g.0 at c.word_of-start.ensures) (rw g.0 at c.word_of-stop.ensures) c.span_content_is.ensures c.if-span_content_is.true;
      in_table = g.0;
    }

pub loop-child-preserved : goal.loop-child-preserved
loop-child-preserved c =
    let g = gave _ _ c.in-Some.child _ c.next.new.self c.loop-child.invariant.0 c.in-Some.ensures.steps in
    (g.1.over, member_on _ _ _ _ _ _ _ _ _ _ _ c.loop-child.invariant.1 g.1 (rw g.0 at c.word_of-start.ensures) (rw g.0 at c.word_of-stop.ensures) c.span_content_is.ensures c.if-span_content_is.false)

pub returns-clause-child : goal.returns-clause-child
returns-clause-child c = member_end _ _ _ _ _ _ c.loop-child.invariant.1 c.loop-child.invariant.0 c.in-None.ensures.steps.2
