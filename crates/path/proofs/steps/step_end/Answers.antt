use Rattle.std.proofs.Common.{rules}
use Rattle.path.specs.Internal.{is_step_byte}
use Rattle.path.proofs.steps.step_end.Goals as goal

pub returns : goal.returns
returns c = c.front.ensures.counts is_step_byte (λ b r l h. search rules)
