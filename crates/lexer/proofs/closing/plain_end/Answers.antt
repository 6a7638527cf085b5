use Rattle.std.proofs.Common.{rules}
use Rattle.text.proofs.FrontLaws.{front_from}
use Rattle.lexer.proofs.ClosingLaws.{plain}
use Rattle.lexer.proofs.closing.plain_end.Goals as goal

pub returns : goal.returns
returns c = front_from _ _ _ _ (c.front.ensures.counts plain (λ b r l h. search rules))
