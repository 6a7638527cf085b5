use mathlib.Core.Path.{ap}
use Rattle.text.specs.Refusal.{told}
use lib.ListN.{length}
use Rattle.editor.specs.Edit.{lent_of, undo_refusal, with_undo, undo}
use Rattle.editor.proofs.CallLaws.{opens_taken, opens_stopped, opened_shows}
use Rattle.editor.proofs.CorrectLaws.{read_at}
use Rattle.editor.proofs.UndoCallLaws.{undo_stops}
use Rattle.editor.proofs.edit.undo_edition.Goals as goal

pub undo_read-requires : goal.undo_read-requires
undo_read-requires c =
    read_at c.args.sw (length c.args.table.now) _ _ _ _ c.open_text.auto.table (opens_taken c.args.sw _ (ap told c.in-Ok.is) c.open_text.ensures)

pub returns-in-Err : goal.returns-in-Err
returns-in-Err c =
    undo_stops c.args.sw (length c.args.table.now) (lent_of c.args.text.now c.args.journal.now c.args.used) _ _
    (opens_stopped c.args.sw _ (ap told c.in-Err.is) c.open_text.ensures)

pub returns-in-Ok : goal.returns-in-Ok
unfolding undo
returns-in-Ok c =
    let b = (lent_of c.args.text.now c.args.journal.now c.args.used) in
    opened_shows c.args.sw (length c.args.table.now) b (λ w. undo_refusal c.args.sw w b) (λ _. with_undo b) _ _ _ _ _ _ _
    (opens_taken c.args.sw _ (ap told c.in-Ok.is) c.open_text.ensures) c.open_text.auto.table c.undo_read.ensures
