use Rattle.editor.proofs.LastEntryLaws.{last_nothing, last_short, last_small, last_large, last_past, last_good}
use Rattle.editor.proofs.journal.last_entry.Goals as goal

pub returns-then-length-eq0 : goal.returns-then-length-eq0
returns-then-length-eq0 c =
    last_nothing c.args.journal.now c.args.text.now c.if-length-eq0.true

pub returns-then-length-lt-TRAILER_BYTES : goal.returns-then-length-lt-TRAILER_BYTES
returns-then-length-lt-TRAILER_BYTES c =
    last_short c.args.journal.now c.args.text.now c.if-length-eq0.false c.if-length-lt-TRAILER_BYTES.true

pub returns-then-size-lt-TRAILER_BYTES : goal.returns-then-size-lt-TRAILER_BYTES
returns-then-size-lt-TRAILER_BYTES c =
    last_small c.args.journal.now c.args.text.now c.if-length-eq0.false c.if-length-lt-TRAILER_BYTES.false _ c.number_at-size.ensures.0 c.if-size-lt-TRAILER_BYTES.true

pub returns-then-length-size : goal.returns-then-length-size
returns-then-length-size c =
    last_large c.args.journal.now c.args.text.now c.if-length-eq0.false c.if-length-lt-TRAILER_BYTES.false _ c.number_at-size.ensures.0 c.if-size-lt-TRAILER_BYTES.false c.if-length-size.true

pub returns-then-text-stop : goal.returns-then-text-stop
returns-then-text-stop c =
    last_past c.args.journal.now c.args.text.now c.if-length-eq0.false c.if-length-lt-TRAILER_BYTES.false _ c.number_at-size.ensures.0 c.if-size-lt-TRAILER_BYTES.false c.if-length-size.false _ _ c.number_at-start.ensures.0 c.number_at.ensures.0 c.if-text-stop.true

pub returns : goal.returns
returns c =
    last_good c.args.journal.now c.args.text.now c.if-length-eq0.false c.if-length-lt-TRAILER_BYTES.false _ c.number_at-size.ensures.0 c.if-size-lt-TRAILER_BYTES.false c.if-length-size.false _ _ c.number_at-start.ensures.0 c.number_at.ensures.0 c.if-text-stop.false
