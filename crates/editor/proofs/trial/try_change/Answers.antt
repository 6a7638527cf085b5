use Rattle.text.specs.Refusal.{told}
use native.Mathlib.Omega.{arith}
use mathlib.Core.Path.{refl, sym, ◌∙◌, ap}
use lib.Seq.{length-take-le}
use Rattle.editor.specs.Edit.{text_of}
use Rattle.editor.proofs.TrialLaws.{try_14, try_15, try_16, try_done}
use Rattle.editor.proofs.trial.try_change.Goals as goal

pub returns-then-min-new : goal.returns-then-min-new
returns-then-min-new c =
    try_14 c.args.present c.args.plan _ _ _ _ _ c.requires.knows c.requires.within _ _ _ (omega arith) c.refused.ensures refl

pub returns-then-journal-plan : goal.returns-then-journal-plan
returns-then-journal-plan c =
    try_15 c.args.present c.args.plan _ _ _ _ _ c.requires.knows c.requires.within _ _ _ (omega arith) c.if-journal-plan.true c.refused-then-journal-plan.ensures refl

pub slice_bounds-put_splice-end : goal.slice_bounds-put_splice-end
slice_bounds-put_splice-end c = sym (length-take-le _ _ c.requires.knows.text_fits_law)

pub put_splice-requires : goal.put_splice-requires
put_splice-requires c =
    let l = length-take-le c.args.present.used.text c.args.text.now c.requires.knows.text_fits_law in
    let a = c.requires.within.forwards in let z = c.requires.within.ends in let d = c.requires.max_text_in_bounds in (omega arith, omega arith, omega arith)

pub slice_bounds-read_edition-end-2 : goal.slice_bounds-read_edition-end-2
slice_bounds-read_edition-end-2 c = sym (length-take-le _ _ (omega arith))

pub slice_bounds-read_edition-end-in-Err : goal.slice_bounds-read_edition-end-in-Err
slice_bounds-read_edition-end-in-Err c = sym (length-take-le _ _ c.requires.knows.text_fits_law)

pub returns-in-Ok : goal.returns-in-Ok
unfolding text_of
returns-in-Ok c = try_done c.args.present c.args.plan _ _ _ _ _ c.requires.knows c.requires.within _ _ _ (omega arith) c.if-journal-plan.false _ c.requires.max_text_in_bounds c.put_splice.ensures _
    (sym c.read_edition.ensures.0 ∙ (ap told c.in-Ok.is)) c.read_edition.ensures.1 refl

pub returns-in-Err : goal.returns-in-Err
unfolding text_of
returns-in-Err c = try_16 c.args.present c.args.plan _ _ _ _ _ c.requires.knows c.requires.within _ _ _ (omega arith) c.if-journal-plan.false _ c.requires.max_text_in_bounds c.put_splice.ensures _ _
    (sym c.read_edition.ensures.0 ∙ (ap told c.in-Err.is)) c.read_edition.auto.table c.read_edition-read.ensures.1 c.refused-in-Err.ensures
