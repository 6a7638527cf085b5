use Rattle.path.proofs.find.find.Goals as goal

pub returns : goal.returns
returns c = rw c.present.ensures at c.find_edition.ensures
