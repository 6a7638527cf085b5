use native.Mathlib.Omega.{arith}
use Rattle.text.proofs.EightLaws.{eight_or, eight_short}
use Rattle.text.proofs.utf8.plain_eight.Goals as goal

pub returns-then-s-i-lt8 : goal.returns-then-s-i-lt8
returns-then-s-i-lt8 c = eight_short c.args.s.now c.args.i (omega arith)

pub returns : goal.returns
returns c =
    eight_or c.args.s.now c.args.i (omega arith)
