use native.Mathlib.Omega.{arith}
use Rattle.text.proofs.bytes.class_of.Goals as goal

pub returns : goal.returns
returns c = c.requires.each c.args.b (omega arith)
