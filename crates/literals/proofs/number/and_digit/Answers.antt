use Rattle.literals.proofs.NumberLaws.{wide_digit}
use Rattle.literals.proofs.number.and_digit.Goals as goal

pub returns-then-base-m : goal.returns-then-base-m
returns-then-base-m c = wide_digit c.args.base c.args.m c.args.d c.requires.base_nonzero c.if-base-m.true
