use Rattle.std.proofs.Common.{length}
use Rattle.path.specs.Path.{pieces}
use Rattle.path.proofs.find.+follow_on.Given as goal

abbrev pub decreases-follow_on : goal.decreases-follow_on
decreases-follow_on l = length (pieces l.path.now)
