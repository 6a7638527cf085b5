use Rattle.std.proofs.Common.{arith, refl, sym, ◌∙◌, ◌+◌, length}
use Rattle.std.proofs.lemmas.Slice.{between_to_end}
use Rattle.std.proofs.Math.Nat.{add-zero, add_assoc}
use Rattle.text.specs.Utf8.{utf8_step}
use Rattle.text.specs.declared.utf8.Utf8.TheVariants.{Whole}
use Rattle.text.proofs.Utf8Laws.{After, after_read, after_next}
use Rattle.text.proofs.EightLaws.{end_turn, end_out, end_done}
use Rattle.text.proofs.utf8.character_end.Goals as goal
use Rattle.text.proofs.utf8.character_end.Goals.{else-loop-b-test, then-loop-b-test+then-not-is_part}

pub loop-b-init : goal.loop-b-init
unfolding utf8_step After
loop-b-init c = record {
  read = rw add-zero (after_next c.args.i _ (Whole c.args.i) _ refl c.first_byte-u.ensures);
  same = rw c.first_byte-u.ensures;
}

pub step-u-requires : goal.step-u-requires
step-u-requires c = let r = after_read _ _ c.loop-b.invariant.read in omega arith

pub loop-b-preserved : goal.loop-b-preserved
loop-b-preserved c = record {
  read = rw (← add_assoc (c.args.i + 1) c.loop-b.b-index 1) (after_next (c.args.i + 1 + c.loop-b.b-index) _ c.loop-b.u _ c.loop-b.invariant.read c.step-u.ensures);
  same = c.loop-b.invariant.same ∙ end_turn _ c.loop-b.b-index c.loop-b.u _ c.loop-b-test.true (sym c.is_part.ensures ∙ c.if-not-is_part.false) c.step-u.ensures;
}

pub returns : goal.returns
returns c =
    rw (← between_to_end c.args.s.now (c.args.i + 1) (length c.args.s.now) (omega arith)) (elim c.loop-b-test.branch [
      | else-loop-b-test w ↦ c.front.ensures ∙ sym (c.loop-b.invariant.same ∙ end_done _ c.loop-b.b-index c.loop-b.u (omega arith))
      | then-loop-b-test+then-not-is_part w ↦ c.front.ensures ∙ sym (c.loop-b.invariant.same ∙ end_out c.loop-b.u _ (sym w.is_part.ensures ∙ w.if-not-is_part.true))
    ])
