use Rattle.text.specs.Refusal.{number_of, numbered}
use Rattle.text.proofs.RefusalLaws.{number_positive}
use native.Mathlib.Omega.{arith}
use mathlib.Core.Path.{sym, ap, ◌∙◌}
use lib.Seq.{length-take-le}
use Rattle.editor.specs.Edit.{lent_of, text_of, journal_of}
use Rattle.editor.proofs.CallLaws.{shows_refused}
use Rattle.editor.proofs.UndoCallLaws.{undo_refused_by, trailer_is}
use Rattle.editor.proofs.edit.undo_read.Goals as goal

pub slice_bounds-last_entry-end : goal.slice_bounds-last_entry-end
slice_bounds-last_entry-end c = sym (length-take-le _ _ (omega arith))

pub slice_bounds-last_entry-end-3 : goal.slice_bounds-last_entry-end-3
slice_bounds-last_entry-end-3 c = sym (length-take-le _ _ (omega arith))

pub undo_entry-requires : goal.undo_entry-requires
unfolding text_of journal_of
undo_entry-requires c = record { knows = c.requires; trailer_is = trailer_is c.args.present c.args.text.now c.args.journal.now 0 c.requires.text_fits_law c.requires.journal_fits_law _ (sym c.last_entry.ensures ∙ ap numbered c.in-Ok.is) }

pub returns-in-Err : goal.returns-in-Err
unfolding text_of journal_of
returns-in-Err c =
    let e = sym c.last_entry.ensures ∙ ap numbered c.in-Err.is in
    let r = undo_refused_by c.args.present c.args.text.now c.args.journal.now _ c.requires.text_fits_law c.requires.journal_fits_law (number_of c.in-Err.reason) e in
    shows_refused c.args.present.sw _ (lent_of c.args.text.now c.args.journal.now c.args.present.used) _ _ _ _ _ (number_of c.in-Err.reason)
    r (let p = number_positive c.in-Err.reason in omega arith) c.refused.ensures c.requires.table_now

pub returns-in-Ok : goal.returns-in-Ok
unfolding text_of journal_of
returns-in-Ok c = c.undo_entry.ensures
