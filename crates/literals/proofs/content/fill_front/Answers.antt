use native.Mathlib.Omega.{arith}
use Rattle.literals.proofs.FillLaws.{fill_start, fill_room, fill_turn, fill_end}
use Rattle.literals.proofs.content.fill_front.Goals as goal

pub loop-b-init : goal.loop-b-init
loop-b-init c = fill_start _ c.args.body _ _ _ c.start_of-state.ensures c.requires

pub decode_step-step-requires : goal.decode_step-step-requires
decode_step-step-requires c = c.loop-b.invariant.sound

pub put-requires : goal.put-requires
put-requires c = fill_room c.loop-b.invariant c.decode_step-step.result (omega arith) c.decode_step-step.ensures

pub overflow_add-filled : goal.overflow_add-filled
overflow_add-filled c =
    let r = fill_room c.loop-b.invariant c.decode_step-step.result (omega arith) c.decode_step-step.ensures in omega arith

pub loop-b-preserved : goal.loop-b-preserved
loop-b-preserved c =
    fill_turn c.loop-b.invariant c.decode_step-step.result (omega arith) c.decode_step-step.ensures _ _ c.put.ensures c.len-filled.ensures

pub shape_of-out : goal.shape_of-out
shape_of-out c = c.loop-b.invariant.long

pub returns : goal.returns
returns c = fill_end c.loop-b.invariant c.args.body c.start_of-state.ensures (omega arith)
