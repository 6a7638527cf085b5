use Rattle.std.proofs.Common.{rules}
use Rattle.text.specs.Bytes.{is_number_byte}
use Rattle.text.proofs.FrontLaws.{front_from}
use Rattle.lexer.proofs.scanner.Scanner.number_end.Goals as goal

pub returns : goal.returns
returns c = front_from _ _ _ _ (c.front.ensures.counts is_number_byte (λ b r l h. search rules))
