use Rattle.reader.specs.Reading.{reading, reading_to, limits_of}
use Rattle.reader.proofs.read.read_edition.Goals as goal

pub shape_of-table : goal.shape_of-table
unfolding reading reading_to limits_of
shape_of-table c = c.read_to.auto.table

pub returns : goal.returns
unfolding reading reading_to limits_of
returns c = c.read_to.ensures
