-- What only the contracts of this crate's inner functions cite. Nothing below has to be believed: the public contracts don't name it.
-- Assumes nothing.
use Rattle.std.specs.Prelude.{ℕ, ◌+◌, ◌≤◌, ◌≡◌, true, not, cond, List, ltb, eqb, length, take, Ok, Err}
use Rattle.text.specs.Refusal.{Refusal, refusal}
use Rattle.text.specs.declared.span.Span.{Span}
use Rattle.text.specs.declared.switches.Switches.{Switches}
use Rattle.reader.specs.Reading.{reading, reads, node_count, table_of}
use Rattle.editor.specs.declared.change.InUse.{InUse}
use Rattle.std.specs.declared.result.Result as Rust
use Rattle.editor.specs.declared.trial.Present.{Present}
use Rattle.editor.specs.declared.trial.Plan.{Plan}
use Rattle.editor.specs.declared.journal.Trailer.{Trailer}
use Rattle.text.specs.Buffers.{overwritten}
use Rattle.editor.specs.Edit.{Lent, lent_of, in_use, text_of, journal_of, Result, leaving, Shows, change_of, bad_length, length_refused, once_read, decided, correction_refusal, with_correction, undo_refusal, with_undo, splice, entry, with_text, no_room, trailer_bytes, entry_start, entry_new, entry_size, bad_entry, Change}

-- a `Change` by its parts
abbrev pub changed : Rust.Result Unit Refusal → (nodes : ℕ) → InUse → Change
changed verdict nodes used = record { verdict = verdict; nodes = nodes; used = used }

-- a refusal at 0
abbrev pub refused_with : (number nodes : ℕ) → InUse → Change
refused_with number nodes used = changed (Err (refusal number 0)) nodes used

-- ---- a reading

-- this is the text's node count, and the table is its reading
pub record TableIs (sw : Switches) (words : ℕ) (text table : List ℕ) (nodes : ℕ) : Type 0 where
  pub nodes_are : nodes ≡ node_count (reading sw words text)
  pub table_is : table ≡ table_of words (reading sw words text)

-- ---- what both calls begin with

-- both lengths in use lie within their buffers, the text in use reads, and the table is its reading
pub record ReadNow (sw : Switches) (words : ℕ) (b : Lent) (table : List ℕ) (nodes : ℕ) : Type 0 where
  pub text_fits_law : b.used.text ≤ length b.text
  pub journal_fits_law : b.used.journal ≤ length b.journal
  pub reads_now : reads sw words (text_of b) ≡ true
  pub table_now : TableIs sw words (text_of b) table nodes

-- the same of what the code knows by then
abbrev pub Knows : Present → (text journal table : List ℕ) → Type 0
Knows p text journal table = ReadNow p.sw (length table) (lent_of text journal p.used) table p.nodes

-- `correct` and `undo` are this, each with a refusal and new buffers of its own
abbrev pub opened : Switches → (words : ℕ) → Lent → (refusal : ℕ) → Lent → Result
opened sw words b refusal new = cond (bad_length b) (length_refused words b) (once_read sw words b (reading sw words (text_of b)) refusal new)

-- 11, or a refused reading: the call's answer, whatever would come later
pub record Stopped (sw : Switches) (words : ℕ) (b : Lent) (table : List ℕ) (f : Refusal) : Type 0 where
  pub shows : (refusal : ℕ) (new : Lent) → Shows change_of (opened sw words b refusal new) (leaving (changed (Err f) 0 b.used) b.text b.journal table)

-- what a call knows once its text has been read, or that it is at its end
abbrev pub OpensIs : Switches → (words : ℕ) → Lent → (table : List ℕ) → Rust.Result ℕ Refusal → Type 0
OpensIs sw words b table (Ok nodes) = ReadNow sw words b table nodes
OpensIs sw words b table (Err f) = Stopped sw words b table f

-- the same, for an answer
pub record Opens (sw : Switches) (words : ℕ) (b : Lent) (table : List ℕ) (r : Rust.Result ℕ Refusal) : Type 0 where
  pub is : OpensIs sw words b table r

-- ---- a change on trial

-- 14, 15, 16, or 0: of a change that makes the text `new`, and leaves so many bytes of the journal in use
unfoldable pub change_refusal : Switches → (words : ℕ) → Lent → (new : List ℕ) (journal : ℕ) → ℕ
change_refusal sw words b new journal =
    cond (no_room new (length b.text)) 14
    (cond (ltb (length b.journal) journal) 15
    (cond (not (reads sw words new)) 16
    0))

-- the span lies within the text in use
pub record Within (present : Present) (span : Span) : Type 0 where
  pub forwards : span.start ≤ span.stop
  pub ends : span.stop ≤ present.used.text

-- a change was judged: refused, with the present text's reading in the table; or not, with the new text's, which stands at the front of
-- the draft
pub record Judged (sw : Switches) (words : ℕ) (b : Lent) (new : List ℕ) (journal : ℕ) (r : Change) (table draft : List ℕ) : Type 0 where
  pub refused : (f : Refusal) → r.verdict ≡ Err f
      → (1 ≤ change_refusal sw words b new journal)
      × (r ≡ refused_with (change_refusal sw words b new journal) r.nodes b.used)
      × TableIs sw words (text_of b) table r.nodes
  pub done : r.verdict ≡ (Ok tt)
      → (change_refusal sw words b new journal ≡ 0)
      × (r ≡ changed (Ok tt) r.nodes (in_use (length new) journal))
      × TableIs sw words new table r.nodes
      × (take r.used.text draft ≡ new)

-- the same of a plan
abbrev pub Judges : Present → Plan → (text journal : List ℕ) (words : ℕ) (replacement : List ℕ) → Change → (table draft : List ℕ) → Type 0
Judges p plan text journal words replacement r table draft =
    let b = lent_of text journal p.used in
    Judged p.sw words b (splice plan.span.start plan.span.stop replacement (text_of b)) plan.journal r table draft

-- ---- a correction, by the span of the node's value

-- the buffers with the replacement in place, and its entry
unfoldable pub with_replacement : Lent → Span → (replacement : List ℕ) → Lent
with_replacement b span replacement =
    let new : List ℕ = splice span.start span.stop replacement (text_of b) in
    let more : List ℕ = entry span.start span.stop replacement (text_of b) in
    record {
      text = with_text b.used.text new b.text;
      journal = overwritten b.used.journal more b.journal;
      used = in_use (length new) (b.used.journal + length more);
    }

-- what a correction comes to once the span of the value is known
abbrev pub replaced : Present → (text journal : List ℕ) (words : ℕ) → Span → (replacement : List ℕ) → Result
replaced p text journal words span replacement =
    let b = lent_of text journal p.used in
    decided p.sw words b
    (change_refusal p.sw words b (splice span.start span.stop replacement (text_of b)) (b.used.journal + length (entry span.start span.stop replacement (text_of b))))
    (with_replacement b span replacement)

-- what it comes to once the text has been read
abbrev pub corrected_read : Present → (text journal : List ℕ) (words node : ℕ) (replacement : List ℕ) → Result
corrected_read p text journal words node replacement =
    let b = lent_of text journal p.used in
    decided p.sw words b (correction_refusal p.sw words b node replacement) (with_correction p.sw words b node replacement)

-- ---- undo, by the journal's last entry

abbrev pub trailer_of : (start stop size : ℕ) → Trailer
trailer_of start stop size = record { span = record { start = start; stop = stop }; size = size }

-- 17, 18, or what the trailer says
unfoldable pub last_entry : (journal text : List ℕ) → Rust.Result Trailer ℕ
last_entry journal text =
    cond (eqb (length journal) 0) (Err 17)
    (cond (bad_entry journal text) (Err 18)
    (Ok (trailer_of (entry_start journal) (entry_start journal + entry_new journal) (entry_size journal))))

-- this is the trailer of the journal's last entry, which is good
pub record TrailerIs (p : Present) (text journal : List ℕ) (trailer : Trailer) : Type 0 where
  pub is : last_entry (journal_of (lent_of text journal p.used)) (text_of (lent_of text journal p.used)) ≡ Ok trailer
  pub forwards : trailer.span.start ≤ trailer.span.stop
  pub ends : trailer.span.stop ≤ p.used.text
  pub least : trailer_bytes ≤ trailer.size
  pub most : trailer.size ≤ p.used.journal

-- what an undo comes to once the text has been read
abbrev pub undone_read : Present → (text journal : List ℕ) (words : ℕ) → Result
undone_read p text journal words =
    let b = lent_of text journal p.used in
    decided p.sw words b (undo_refusal p.sw words b) (with_undo b)
