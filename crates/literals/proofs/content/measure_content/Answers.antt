use Rattle.std.proofs.Common.{arith, refl, sym, ◌∙◌, ◌≡◌, true, not, ◌||◌}
use Rattle.std.proofs.Math.Nat.{add-zero, add_assoc}
use Rattle.std.proofs.lemmas.Grind.{common_steps}
use Rattle.text.specs.declared.few.Few.TheVariants.{One}
use Rattle.text.specs.Utf8.{listed, is_whole}
use Rattle.literals.specs.Content.{gives}
use Rattle.literals.proofs.CopyLaws.{own_step}
use Rattle.literals.proofs.TallyLaws.{tally_skip, tally_room, past, tally_turn, tally_some, tally_end}
use Rattle.literals.proofs.content.measure_content.Goals as goal
use Rattle.literals.proofs.content.measure_content.Goals.{then-is_own_byte, else-is_own_byte}

pub loop-b-init : goal.loop-b-init
loop-b-init c = rw add-zero (tally_skip _ _ c.args.body _ _ c.start_of-state.ensures _ c.written_front-from.ensures)

pub overflow_add-size-else-is_own_byte : goal.overflow_add-size-else-is_own_byte
overflow_add-size-else-is_own_byte c =
    let e = past c.args.s.now c.written_front-from.result c.loop-b.b-index c.loop-b-test.true in
    let r = tally_room c.loop-b.invariant c.decode_step-step.result (rw e.1 at c.decode_step-step.ensures) in
    omega arith

pub loop-b-preserved : goal.loop-b-preserved
unfolding listed
loop-b-preserved c =
    let e = past c.args.s.now c.written_front-from.result c.loop-b.b-index c.loop-b-test.true in
    rw (← add_assoc c.written_front-from.result c.loop-b.b-index 1) (elim c.if-is_own_byte.branch [
      | then-is_own_byte w ↦ rw (w.state-is, w.machine-is, w.size-is)
          (tally_turn c.loop-b.invariant (gives c.loop-b.state (One _)) w.feed_text-machine.result 1 e.0 (own_step c.args.sw c.is_own_byte.ensures w.if-is_own_byte.true e.1) w.feed_text-machine.ensures refl)
      | else-is_own_byte w ↦ rw (w.state-is, w.machine-is, w.size-is)
          (tally_turn c.loop-b.invariant w.decode_step-step.result w.feed_text-machine-else-is_own_byte.result w.len-size.result e.0 (rw e.1 at w.decode_step-step.ensures) w.feed_text-machine-else-is_own_byte.ensures w.len-size.ensures)
    ])

pub returns-then-is_whole : goal.returns-then-is_whole
returns-then-is_whole c =
    let w : (not c.args.is_text || is_whole c.loop-b.machine) ≡ true = grind (arith, common_steps) in
    tally_some c.loop-b.invariant c.args.body c.start_of-state.ensures (omega arith) (sym c.may_end.ensures ∙ c.if-may_end.true) w

pub returns-else-may_end : goal.returns-else-may_end
returns-else-may_end c = let e = tally_end c.loop-b.invariant c.args.body c.start_of-state.ensures (omega arith) in grind (arith, common_steps)
