use native.Mathlib.Omega.{arith}
use mathlib.Core.Path.{refl}
use lib.ListN.{get_or}
use Rattle.text.specs.declared.few.Few.TheVariants.{One}
use Rattle.text.specs.Utf8.{listed}
use Rattle.literals.specs.Content.{gives}
use Rattle.literals.proofs.CopyLaws.{copy_start, copy_turn, copy_long, copy_end, own_step}
use Rattle.literals.proofs.copy.copy_content.Goals as goal
use Rattle.literals.proofs.copy.copy_content.Goals.{then-is_own_byte+else-end-out, else-is_own_byte+else-out-end}

pub loop-b-init : goal.loop-b-init
loop-b-init c = copy_start c.args.body c.start_of-state.ensures c.requires

pub shape_of-out-then-end-out : goal.shape_of-out-then-end-out
shape_of-out-then-end-out c = c.loop-b.invariant.long

pub returns-then-end-out : goal.returns-then-end-out
unfolding listed
returns-then-end-out c =
    copy_long c.loop-b.invariant (gives c.loop-b.state (One (get_or c.args.s.now c.loop-b.b-index 0))) (omega arith) (own_step c.args.sw c.is_own_byte.ensures c.if-is_own_byte.true refl) 1 refl (omega (arith, c.loop-b.invariant.fits, c.if-end-out.true)) c.args.body c.start_of-state.ensures

pub bounds-out-end : goal.bounds-out-end
bounds-out-end c = omega (arith, c.loop-b.invariant.fits, c.if-end-out.false)

pub overflow_add-end : goal.overflow_add-end
overflow_add-end c = omega (arith, c.loop-b.invariant.fits)

pub decode_step-step-requires : goal.decode_step-step-requires
decode_step-step-requires c = c.loop-b.invariant.sound

pub overflow_sub-out : goal.overflow_sub-out
overflow_sub-out c = omega (arith, c.loop-b.invariant.fits)

pub shape_of-out-then-out-end : goal.shape_of-out-then-out-end
shape_of-out-then-out-end c = c.loop-b.invariant.long

pub returns-then-out-end : goal.returns-then-out-end
returns-then-out-end c =
    copy_long c.loop-b.invariant c.decode_step-step.result (omega arith) c.decode_step-step.ensures c.len-size.result c.len-size.ensures (omega (arith, c.loop-b.invariant.fits, c.if-out-end.true)) c.args.body c.start_of-state.ensures

pub put-requires : goal.put-requires
put-requires c = omega (arith, c.loop-b.invariant.fits, c.if-out-end.false, c.len-size.ensures)

pub overflow_add-end-else-is_own_byte : goal.overflow_add-end-else-is_own_byte
overflow_add-end-else-is_own_byte c = omega (arith, c.loop-b.invariant.fits, c.if-out-end.false)

pub loop-b-preserved : goal.loop-b-preserved
unfolding listed
loop-b-preserved c =
    elim c.if-is_own_byte.branch [
      | then-is_own_byte+else-end-out w ↦ rw (w.out-is, w.state-is, w.end-is)
          (copy_turn c.loop-b.invariant (gives c.loop-b.state (One (get_or c.args.s.now c.loop-b.b-index 0))) c.loop-b-test.true (own_step c.args.sw c.is_own_byte.ensures w.if-is_own_byte.true refl) _ 1 refl (omega (arith, c.loop-b.invariant.fits, w.if-end-out.false)) refl)
      | else-is_own_byte+else-out-end w ↦ rw (w.out-is, w.state-is, w.end-is)
          (copy_turn c.loop-b.invariant w.decode_step-step.result c.loop-b-test.true w.decode_step-step.ensures _ w.len-size.result w.len-size.ensures (omega (arith, c.loop-b.invariant.fits, w.if-out-end.false)) w.put.ensures)
    ]

pub shape_of-out : goal.shape_of-out
shape_of-out c = c.loop-b.invariant.long

pub returns : goal.returns
returns c = copy_end c.loop-b.invariant c.args.body c.start_of-state.ensures (omega arith)
