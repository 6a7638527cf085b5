use mathlib.Core.Path.{ap, ◌∙◌}
use Prim.Native.Nat.{ℕ}
use mathlib.Core.List.{List}
use lib.ListN.{take}
use Rattle.text.specs.Buffers.{overwritten}
use Rattle.editor.specs.Edit.{le32}
use Rattle.editor.proofs.journal.put_number.Goals as goal

pub returns : goal.returns
unfolding le32
returns c =
    c.put_at.ensures ∙ ap (λ (s : List ℕ). overwritten c.args.at (take 4 s) c.args.dst.now) c.to_le_bytes.ensures
