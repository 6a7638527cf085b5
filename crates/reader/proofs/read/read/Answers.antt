use Rattle.reader.proofs.read.read.Goals as goal

pub shape_of-table : goal.shape_of-table
shape_of-table c = c.read_edition.auto.table

pub returns : goal.returns
returns c = rw c.present.ensures at c.read_edition.ensures
