use Rattle.text.specs.Refusal.{told}
use native.Mathlib.Omega.{arith}
use mathlib.Core.Path.{sym, ap}
use Prim.Native.Nat.{ℕ}
use lib.ListN.{length-replicate}
use lib.Seq.{length-take-le}
use Rattle.editor.proofs.TrialLaws.{judged_room}
use Rattle.editor.proofs.UndoCallLaws.{undo_within, undo_refused, undo_done}
use Rattle.editor.proofs.edit.undo_entry.Goals as goal

pub try_change-change-requires : goal.try_change-change-requires
try_change-change-requires c = record { knows = c.requires.knows; within = undo_within c.args.present c.args.text.now c.args.journal.now 0 c.requires.knows.text_fits_law c.requires.knows.journal_fits_law _ c.requires.trailer_is; max_text_in_bounds = let z = length-replicate {A = ℕ} 65536 0 in omega arith }

pub slice_bounds-draft-end : goal.slice_bounds-draft-end
slice_bounds-draft-end c = let m = judged_room _ _ _ _ _ _ _ _ c.try_change-change.ensures (ap told c.in-Ok.is) in omega arith

pub slice_bounds-put_text-end : goal.slice_bounds-put_text-end
slice_bounds-put_text-end c = let m = judged_room _ _ _ _ _ _ _ _ c.try_change-change.ensures (ap told c.in-Ok.is) in sym (length-take-le _ _ (omega arith))

pub put_text-requires : goal.put_text-requires
put_text-requires c = let m = judged_room _ _ _ _ _ _ _ _ c.try_change-change.ensures (ap told c.in-Ok.is) in
    let l = length-take-le c.try_change-change.result.used.text c.try_change-change.new.draft (omega arith) in (omega arith, omega arith)

pub returns-in-Err : goal.returns-in-Err
returns-in-Err c =
    undo_refused c.args.present c.args.text.now c.args.journal.now _ c.requires.knows.text_fits_law c.requires.knows.journal_fits_law c.args.trailer c.requires.trailer_is _ _ _ c.try_change-change.ensures _ (ap told c.in-Err.is)

pub returns-in-Ok : goal.returns-in-Ok
returns-in-Ok c =
    undo_done c.args.present c.args.text.now c.args.journal.now _ c.requires.knows.text_fits_law c.requires.knows.journal_fits_law c.args.trailer c.requires.trailer_is _ _ _ c.try_change-change.ensures _ (ap told c.in-Ok.is) c.put_text.ensures
