use native.Mathlib.Omega.{arith}
use mathlib.Core.Path.{ap, ◌∙◌}
use Prim.Native.Nat.{◌-◌}
use lib.ListN.{length, replicate}
use Rattle.text.specs.Buffers.{overwritten}
use Rattle.editor.proofs.BufferLaws.{over_text}
use Rattle.editor.proofs.buffers.put_text.Goals as goal

pub returns : goal.returns
returns c =
    c.zero_out.ensures ∙ ap (overwritten (length c.args.new.now) (replicate (c.args.used - length c.args.new.now) 0)) c.put_at.ensures ∙ over_text c.args.used c.args.new.now c.args.dst.now (omega arith)
