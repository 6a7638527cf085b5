use Rattle.std.proofs.Common.{arith, refl, sym, ap, ◌∙◌}
use Rattle.text.specs.Bytes.{feed}
use Rattle.text.proofs.FeedLaws.{feed_done}
use Rattle.literals.specs.declared.number.Number.TheVariants.{Start}
use Rattle.literals.specs.Number.{number_step, number}
use Rattle.literals.specs.InternalNumber.{capped, places_of}
use Rattle.literals.proofs.NumberLaws.{same_turn, few_turn, same_meaning}
use Rattle.literals.proofs.number.number_of.Goals as goal

pub loop-b-init : goal.loop-b-init
unfolding places_of
loop-b-init c = record { few = omega arith; same = refl }

pub loop-b-preserved : goal.loop-b-preserved
loop-b-preserved c = record {
  few = few_turn c.loop-b.state _ _ c.loop-b.b-index c.number_step-state.ensures c.loop-b.invariant.few;
  same = c.loop-b.invariant.same ∙ same_turn c.loop-b.state _ c.args.token.now c.loop-b.b-index c.loop-b-test.true c.number_step-state.ensures;
}

pub returns : goal.returns
unfolding number
returns c =
    c.meaning_of.ensures ∙ sym (same_meaning (feed number_step Start c.args.token.now) c.loop-b.state (c.loop-b.invariant.same ∙ ap capped (feed_done number_step c.loop-b.state c.args.token.now c.loop-b.b-index (omega arith))) (omega arith))
