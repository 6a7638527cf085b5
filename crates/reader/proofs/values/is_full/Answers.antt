use Rattle.reader.proofs.values.is_full.Goals as goal

pub returns-then-due : goal.returns-then-due
returns-then-due c = rw c.if-due.true

pub returns : goal.returns
returns c = rw c.if-due.false
