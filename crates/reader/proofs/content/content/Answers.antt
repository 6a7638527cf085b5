use Rattle.reader.proofs.content.content.Goals as goal

pub returns : goal.returns
returns c = rw c.present.ensures at c.content_edition.ensures
