use native.Mathlib.Omega.{arith}
use mathlib.Core.Path.{ap, ◌∙◌}
use Prim.Native.Nat.{◌+◌}
use lib.ListN.{length}
use Rattle.text.specs.Buffers.{overwritten}
use Rattle.editor.specs.Edit.{le32, trailer_bytes}
use Rattle.editor.proofs.JournalLaws.{entry_put}
use Rattle.editor.proofs.journal.put_entry.Goals as goal

pub returns : goal.returns
returns c =
    c.put_number-3.ensures
    ∙ ap (overwritten (c.args.at + length c.args.old.now + 8) (le32 (length c.args.old.now + trailer_bytes)))
    (c.put_number-2.ensures
    ∙ ap (overwritten (c.args.at + length c.args.old.now + 4) (le32 c.args.new))
    (c.put_number.ensures ∙ ap (overwritten (c.args.at + length c.args.old.now) (le32 c.args.start)) c.put_at.ensures))
    ∙ entry_put c.args.journal.now c.args.old.now c.args.at c.args.start c.args.new (omega arith)
