use mathlib.Core.Path.{refl}
use Rattle.reader.proofs.ReadRun.{limit_low, limit_high}
use Rattle.reader.proofs.read.node_limit.Goals as goal

pub returns-then-rows-lt-MAX_NODES : goal.returns-then-rows-lt-MAX_NODES
returns-then-rows-lt-MAX_NODES c = limit_low c.args.words _ refl c.if-rows-lt-MAX_NODES.true

pub returns : goal.returns
returns c = limit_high c.args.words _ refl c.if-rows-lt-MAX_NODES.false
