use Rattle.std.proofs.Common.{rules}
use Rattle.text.proofs.FrontLaws.{front_from}
use Rattle.lexer.specs.Closing.{not_newline}
use Rattle.lexer.proofs.runs.line_end.Goals as goal

pub returns : goal.returns
unfolding not_newline
returns c = front_from _ _ _ _ (c.front.ensures.counts not_newline (λ b r l h. search rules))
