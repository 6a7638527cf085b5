use Rattle.std.proofs.Common.{rules}
use Rattle.text.proofs.FrontLaws.{front_by}
use Rattle.text.proofs.runs.front.Goals as goal

pub returns-clause-counts : goal.returns-clause-counts
returns-clause-counts g c =
    λ p says.
    front_by p _ c.args.s.now c.unwrap_or.result (search rules) says
    (search rules) (search rules) (search rules)
