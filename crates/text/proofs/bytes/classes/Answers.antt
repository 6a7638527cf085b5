use Rattle.text.proofs.ClassLaws.{class_table, class_table_law}
use Rattle.text.proofs.bytes.classes.Goals as goal

pub returns : goal.returns
unfolding class_table
returns c = class_table_law
