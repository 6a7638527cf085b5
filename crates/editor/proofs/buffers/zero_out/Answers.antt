use native.Mathlib.Omega.{arith}
use Rattle.editor.proofs.BufferLaws.{zeros_put, no_zeros}
use Rattle.editor.proofs.buffers.zero_out.Goals as goal

pub returns-then-from-to : goal.returns-then-from-to
returns-then-from-to c =
    zeros_put c.args.dst.now c.args.from c.args.to _ (omega arith) c.requires (c.fill.ensures.after (λ y same. same))

pub returns-else-from-to : goal.returns-else-from-to
returns-else-from-to c = no_zeros c.args.dst.now c.args.from c.args.to (omega arith)
