use Rattle.text.specs.Refusal.{told}
use native.Mathlib.Omega.{arith}
use mathlib.Core.Path.{refl, sym, ap}
use Prim.Native.Nat.{ℕ}
use lib.ListN.{length-replicate}
use lib.Seq.{length-take-le}
use Rattle.editor.proofs.SpliceLaws.{length_part}
use Rattle.editor.proofs.TrialLaws.{judged_room}
use Rattle.editor.proofs.CorrectLaws.{text_short, replace_refused, replace_done}
use Rattle.editor.proofs.edit.replace.Goals as goal

pub overflow_add-end : goal.overflow_add-end
overflow_add-end c =
    let f = c.requires.knows.journal_fits_law in let e = c.requires.within.ends in let t = text_short c.args.present _ _ _ c.requires.knows in omega arith

pub overflow_add-end-2 : goal.overflow_add-end-2
overflow_add-end-2 c =
    let f = c.requires.knows.journal_fits_law in let e = c.requires.within.ends in let t = text_short c.args.present _ _ _ c.requires.knows in omega arith

pub try_change-change-requires : goal.try_change-change-requires
try_change-change-requires c = record { knows = c.requires.knows; within = c.requires.within; max_text_in_bounds = let z = length-replicate {A = ℕ} 65536 0 in omega arith }

pub put_entry-requires : goal.put_entry-requires
put_entry-requires c =
    let m = judged_room _ _ _ _ _ _ _ _ c.try_change-change.ensures (ap told c.in-Ok.is) in
    let l = length_part c.args.span.start c.args.span.stop c.args.text.now c.requires.within.forwards (omega arith) in omega arith

pub slice_bounds-draft-end : goal.slice_bounds-draft-end
slice_bounds-draft-end c = let m = judged_room _ _ _ _ _ _ _ _ c.try_change-change.ensures (ap told c.in-Ok.is) in omega arith

pub slice_bounds-put_text-end : goal.slice_bounds-put_text-end
slice_bounds-put_text-end c = let m = judged_room _ _ _ _ _ _ _ _ c.try_change-change.ensures (ap told c.in-Ok.is) in sym (length-take-le _ _ (omega arith))

pub put_text-requires : goal.put_text-requires
put_text-requires c = let m = judged_room _ _ _ _ _ _ _ _ c.try_change-change.ensures (ap told c.in-Ok.is) in
    let l = length-take-le c.try_change-change.result.used.text c.try_change-change.new.draft (omega arith) in (omega arith, omega arith)

pub returns-in-Err : goal.returns-in-Err
returns-in-Err c =
    replace_refused c.args.present c.args.text.now c.args.journal.now _ c.args.span c.args.replacement.now c.requires.knows.text_fits_law c.requires.within _ _ _ c.try_change-change.ensures _ (ap told c.in-Err.is)

pub returns-in-Ok : goal.returns-in-Ok
returns-in-Ok c =
    replace_done c.args.present c.args.text.now c.args.journal.now _ c.args.span c.args.replacement.now c.requires.knows.text_fits_law c.requires.within _ _ _ c.try_change-change.ensures _ _ _ (ap told c.in-Ok.is)
    c.put_text.ensures refl c.put_entry.ensures
