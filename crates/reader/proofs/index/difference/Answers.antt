use native.Mathlib.Omega.{arith}
use mathlib.Core.Path.{sym, ◌∙◌}
use Rattle.reader.proofs.PrefixLaws.{agreed_on, agreed_not, agreed_end}
use Rattle.reader.proofs.index.difference.Goals as goal

pub returns-then-x-byte_at : goal.returns-then-x-byte_at
returns-then-x-byte_at c =
    let e = agreed_not c.args.a.now c.args.b.now c.loop-i.i (omega arith) (λ q. c.if-x-byte_at.true (q ∙ sym c.byte_at.ensures)) in (omega (arith, e), omega arith)

pub loop-i-preserved : goal.loop-i-preserved
loop-i-preserved c =
    let e = agreed_on c.args.a.now c.args.b.now c.loop-i.i (omega arith) (c.if-x-byte_at.false ∙ c.byte_at.ensures) in omega (arith, e)

pub returns : goal.returns
returns c =
    let e = agreed_end c.args.a.now c.args.b.now c.loop-i.i (omega arith) in omega (arith, e)
