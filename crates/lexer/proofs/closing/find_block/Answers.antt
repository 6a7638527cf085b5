use native.Mathlib.Omega.{arith}
use mathlib.Core.Path.{refl, ◌∙◌}
use Rattle.text.proofs.FeedLaws.{feed_turn}
use Rattle.text.proofs.ListLaws.{part_to_end}
use Rattle.lexer.specs.Closing.{block_step, block}
use Rattle.lexer.specs.Internal.{block_read, shut_at}
use Rattle.lexer.proofs.ClosingLaws.{block_turn, block_ended, block_open, not_shut}
use Rattle.lexer.proofs.closing.find_block.Goals as goal

pub loop-b-init : goal.loop-b-init
unfolding block block_read shut_at
loop-b-init c = record { counted = omega arith; read = rw (part_to_end c.args.text.now c.args.from); unshut = refl }

pub returns-in-Closed : goal.returns-in-Closed
returns-in-Closed c =
    block_ended _ _ c.loop-b.b-index _ _ _ c.loop-b.invariant.read c.loop-b-test.true c.block_step-state.ensures c.in-Closed.is

pub loop-b-preserved : goal.loop-b-preserved
loop-b-preserved c = record {
  counted = block_turn c.loop-b.state _ _ c.loop-b.b-index c.block_step-state.ensures c.loop-b.invariant.counted;
  read = c.loop-b.invariant.read ∙ feed_turn block_step c.loop-b.state _ _ c.loop-b.b-index c.loop-b-test.true c.block_step-state.ensures;
  unshut = not_shut _ c.in_default.not-Closed;
}

pub returns : goal.returns
returns c = block_open _ _ c.loop-b.b-index _ c.loop-b.invariant.read c.loop-b-test.false c.loop-b.invariant.unshut
