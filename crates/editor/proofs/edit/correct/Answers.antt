use Rattle.editor.proofs.edit.correct.Goals as goal

pub returns : goal.returns
returns c = rw c.present.ensures at c.correct_edition.ensures
