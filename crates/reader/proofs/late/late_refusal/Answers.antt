use Rattle.reader.proofs.DuplicateLaws.{late_at, late_not}
use Rattle.reader.proofs.late.late_refusal.Goals as goal

pub find_duplicate-requires : goal.find_duplicate-requires
find_duplicate-requires c = c.requires

pub returns-in-Some : goal.returns-in-Some
returns-in-Some c = late_at c.find_duplicate.ensures c.in-Some.is

pub returns-in-None : goal.returns-in-None
returns-in-None c = late_not c.find_duplicate.ensures c.in-None.is
