use native.Mathlib.Omega.{arith}
use mathlib.Core.Path.{sym, ap, ◌∙◌}
use Prim.Native.Nat.{◌+◌, ◌-◌}
use lib.ListN.{length, take, drop}
use lib.Seq.{length-take-le}
use Rattle.text.specs.Buffers.{overwritten}
use Rattle.editor.proofs.BufferLaws.{over_splice}
use Rattle.editor.proofs.buffers.put_splice.Goals as goal

pub slice_bounds-put_at-end : goal.slice_bounds-put_at-end
slice_bounds-put_at-end c = sym (length-take-le _ _ (omega arith))

pub put_at-requires : goal.put_at-requires
put_at-requires c =
    let l = length-take-le c.args.span.start c.args.text.now (omega arith) in omega arith

pub returns : goal.returns
returns c =
    c.put_at-3.ensures
    ∙ ap (overwritten (c.args.span.start + length c.args.replacement.now) (take (length c.args.text.now - c.args.span.stop) (drop c.args.span.stop c.args.text.now)))
    (c.put_at-2.ensures ∙ ap (overwritten c.args.span.start c.args.replacement.now) c.put_at.ensures)
    ∙ over_splice c.args.span.start c.args.span.stop c.args.replacement.now c.args.text.now c.args.dst.now (omega arith) (omega arith)
