use Rattle.literals.proofs.PlainLaws.{written_plain}
use Rattle.literals.proofs.content.written_front.Goals as goal

pub returns-in_default : goal.returns-in_default
returns-in_default c = written_plain _ _ _ c.in_default.not-Base64 c.plain_front.ensures
