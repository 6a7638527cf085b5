use mathlib.Core.Path.{ap}
use Rattle.text.specs.Refusal.{told}
use lib.ListN.{length}
use Rattle.editor.specs.Edit.{lent_of, correction_refusal, with_correction, correct}
use Rattle.editor.proofs.CallLaws.{opens_taken, opens_stopped, opened_shows}
use Rattle.editor.proofs.CorrectLaws.{read_at, correct_stops}
use Rattle.editor.proofs.edit.correct_edition.Goals as goal

pub correct_read-requires : goal.correct_read-requires
correct_read-requires c =
    read_at c.args.sw (length c.args.table.now) _ _ _ _ c.open_text.auto.table (opens_taken c.args.sw _ (ap told c.in-Ok.is) c.open_text.ensures)

pub returns-in-Err : goal.returns-in-Err
returns-in-Err c =
    correct_stops c.args.sw (length c.args.table.now) (lent_of c.args.text.now c.args.journal.now c.args.used) c.args.node c.args.replacement.now _ _
    (opens_stopped c.args.sw _ (ap told c.in-Err.is) c.open_text.ensures)

pub returns-in-Ok : goal.returns-in-Ok
unfolding correct
returns-in-Ok c =
    let b = (lent_of c.args.text.now c.args.journal.now c.args.used) in
    opened_shows c.args.sw (length c.args.table.now) b (λ w. correction_refusal c.args.sw w b c.args.node c.args.replacement.now) (λ w. with_correction c.args.sw w b c.args.node c.args.replacement.now) _ _ _ _ _ _ _
    (opens_taken c.args.sw _ (ap told c.in-Ok.is) c.open_text.ensures) c.open_text.auto.table c.correct_read.ensures
