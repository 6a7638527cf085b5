use Rattle.editor.proofs.edit.undo.Goals as goal

pub returns : goal.returns
returns c = rw c.present.ensures at c.undo_edition.ensures
