use Rattle.std.proofs.Common.{arith, refl, ap, ◌∙◌, ◌+◌, ℕ, List}
use lib.ListN.{set, get_or, length-set}
use lib.Seq.{paste-zero}
use Rattle.text.proofs.BufferLaws.{paste_next, paste_whole}
use Rattle.text.proofs.buffers.put_at.Goals as goal

pub loop-i-init : goal.loop-i-init
loop-i-init c = (refl, paste-zero c.args.dst.now c.args.at c.args.src.now)

pub loop-i-preserved : goal.loop-i-preserved
loop-i-preserved c = (
  length-set c.loop-i.dst (c.args.at + c.loop-i.i) (get_or c.args.src.now c.loop-i.i 0) ∙ c.loop-i.invariant.0,
  ap (λ (l : List ℕ). set l (c.args.at + c.loop-i.i) (get_or c.args.src.now c.loop-i.i 0)) c.loop-i.invariant.1
      ∙ paste_next c.args.dst.now c.args.at c.args.src.now c.loop-i.i (omega arith) (omega arith),
)

pub returns : goal.returns
returns c = c.loop-i.invariant.1 ∙ paste_whole c.args.dst.now c.args.at c.args.src.now c.loop-i.i (omega arith)
