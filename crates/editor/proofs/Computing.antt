-- A name for all of the editor's definitions together: a proof by computation says `unfolding editing`.
-- Assumes nothing.
use Rattle.text.specs.Buffers
use Rattle.editor.specs.Edit
use Rattle.editor.specs.Book
use Rattle.reader.proofs.Computing.{readings}

unfoldable pub editing : Unit {0}
unfolding readings Edit.text_of Edit.journal_of Edit.verdict_of Edit.change_of Edit.bad_length Edit.length_refused Edit.splice Edit.le32 Edit.from_le32
    Edit.trailer Edit.entry Edit.with_text Buffers.overwritten Edit.no_room Edit.trailer_number Edit.bad_entry Edit.old_bytes Edit.undone Edit.with_undo
    Edit.result_of Edit.decided Edit.once_read Edit.value_start Edit.value_stop Edit.corrected Edit.entry_of Edit.correction_refusal Edit.with_correction
    Edit.correct Edit.undo_refusal Edit.undo Book.book_text Book.book_journal Book.book_refusal Book.told Book.book_after Book.book_number Book.in_force
    Book.book Book.handed_on Book.seen_of Book.called Book.calls Book.after Book.room_of Book.Demand3
editing = tt
