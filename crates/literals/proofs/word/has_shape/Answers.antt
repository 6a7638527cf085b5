use Rattle.std.proofs.Common.{arith, sym, ap, ◌∙◌}
use Rattle.text.proofs.FeedLaws.{feed_turn, feed_done}
use Rattle.literals.specs.Word.{shape_step, is_good, has_shape}
use Rattle.literals.proofs.word.has_shape.Goals as goal

pub loop-b-preserved : goal.loop-b-preserved
loop-b-preserved c =
    c.loop-b.invariant ∙ feed_turn shape_step c.loop-b.state _ c.args.s.now c.loop-b.b-index c.loop-b-test.true c.shape_step-state.ensures

pub returns : goal.returns
unfolding has_shape
returns c =
    c.is_good.ensures ∙ ap is_good (sym (c.loop-b.invariant ∙ feed_done shape_step c.loop-b.state c.args.s.now c.loop-b.b-index (omega arith)))
