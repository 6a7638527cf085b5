use native.Mathlib.Omega.{arith}
use mathlib.Core.Path.{sym}
use lib.ListN.{length}
use lib.Seq.{length-take-le}
use Rattle.editor.specs.Edit.{lent_of}
use Rattle.editor.proofs.CallLaws.{long_text, long_journal, opens_bad, opens_read}
use Rattle.editor.proofs.edit.open_text.Goals as goal

pub returns-then-text-used : goal.returns-then-text-used
returns-then-text-used c =
    opens_bad c.args.sw (length c.args.table.now) (lent_of c.args.text.now c.args.journal.now c.args.used) _ _
    (long_text c.args.sw (length c.args.table.now) (lent_of c.args.text.now c.args.journal.now c.args.used) c.if-text-used.true) c.refuse_lengths.ensures.0 c.refuse_lengths.ensures.1

pub returns-then-journal-used : goal.returns-then-journal-used
returns-then-journal-used c =
    opens_bad c.args.sw (length c.args.table.now) (lent_of c.args.text.now c.args.journal.now c.args.used) _ _
    (long_journal c.args.sw (length c.args.table.now) (lent_of c.args.text.now c.args.journal.now c.args.used) c.if-text-used.false c.if-journal-used.true) c.refuse_lengths-then-journal-used.ensures.0 c.refuse_lengths-then-journal-used.ensures.1

pub slice_bounds-read_edition-end : goal.slice_bounds-read_edition-end
slice_bounds-read_edition-end c = sym (length-take-le _ _ (omega arith))

pub returns : goal.returns
returns c =
    opens_read c.args.sw (length c.args.table.now) (lent_of c.args.text.now c.args.journal.now c.args.used) _ _ c.if-text-used.false c.if-journal-used.false c.read_edition.ensures.0 c.read_edition.ensures.1
