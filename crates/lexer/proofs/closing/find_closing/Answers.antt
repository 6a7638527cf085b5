use native.Mathlib.Omega.{arith}
use mathlib.Core.Path.{refl, ◌∙◌}
use Prim.Native.Nat.{◌+◌}
use Rattle.text.proofs.FeedLaws.{feed_turn}
use Rattle.lexer.specs.Closing.{closing_step}
use Rattle.lexer.specs.Internal.{closing_read, closed_at}
use Rattle.lexer.proofs.ClosingLaws.{closing_turn, closing_ended, closing_open, not_closed, plain, plain_start, plain_turn, plain_counts}
use Rattle.lexer.proofs.PlaceLaws.{run_within}
use Rattle.lexer.proofs.closing.find_closing.Goals as goal

pub loop-i-init : goal.loop-i-init
unfolding closing_read closed_at
loop-i-init c = record {
  on = omega arith;
  counted = omega arith;
  read = plain_start c.args.escapes c.args.hashes c.args.text.now c.args.from _ c.plain_end-i.ensures;
  unclosed = refl;
}

pub returns-in-Closed : goal.returns-in-Closed
returns-in-Closed c =
    closing_ended c.args.escapes c.args.hashes _ c.args.text.now c.loop-i.i _ _ _ c.loop-i.invariant.read (omega arith) c.closing_step-state.ensures c.in-Closed.is

pub overflow_add-state : goal.overflow_add-state
overflow_add-state c =
    let n = plain_counts c.args.escapes c.args.hashes c.loop-i.state c.closing_step-state.result _ c.in-Inside.read c.args.from c.loop-i.i c.closing_step-state.ensures c.loop-i.invariant.counted c.in-Inside.is in let w = run_within plain c.args.text.now (c.loop-i.i + 1) (omega arith) in omega arith

pub loop-i-preserved-in-Inside : goal.loop-i-preserved-in-Inside
unfolding closing_read closed_at
loop-i-preserved-in-Inside c =
    let n = plain_counts c.args.escapes c.args.hashes c.loop-i.state c.closing_step-state.result _ c.in-Inside.read c.args.from c.loop-i.i c.closing_step-state.ensures c.loop-i.invariant.counted c.in-Inside.is in
    record {
      on = omega arith;
      counted = omega arith;
      read = c.loop-i.invariant.read ∙ feed_turn (closing_step c.args.escapes c.args.hashes) c.loop-i.state c.closing_step-state.result c.args.text.now c.loop-i.i (omega arith) c.closing_step-state.ensures ∙ plain_turn c.args.escapes c.args.hashes c.args.text.now c.closing_step-state.result c.in-Inside.read (c.loop-i.i + 1) c.plain_end-next.result c.in-Inside.is c.plain_end-next.ensures;
      unclosed = refl;
    }

pub loop-i-preserved : goal.loop-i-preserved
loop-i-preserved c = record {
  on = omega arith;
  counted = closing_turn c.args.escapes c.args.hashes c.loop-i.state _ _ c.args.from c.loop-i.i c.closing_step-state.ensures c.loop-i.invariant.counted;
  read = c.loop-i.invariant.read ∙ feed_turn (closing_step c.args.escapes c.args.hashes) c.loop-i.state _ c.args.text.now c.loop-i.i (omega arith) c.closing_step-state.ensures;
  unclosed = not_closed _ c.in_default.not-Closed;
}

pub returns : goal.returns
returns c = closing_open c.args.escapes c.args.hashes _ c.args.text.now c.loop-i.i _ c.loop-i.invariant.read (omega arith) c.loop-i.invariant.unclosed
