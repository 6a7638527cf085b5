-- A correction: one law for each way out.
-- Assumes nothing.
use Rattle.std.specs.Prelude.{Ok, Err}
use mathlib.Core.Path.{◌≡◌, refl, sym, ap, ◌∙◌, subst}
use Prim.Native.Nat.{ℕ, ◌+◌, ◌-◌, ◌<◌, ◌≤◌}
use native.Mathlib.Omega.{arith}
use mathlib.Core.Bool.{true, false}
use mathlib.Core.List.{List, ◌++◌}
use lib.Dec.{ltb}
use lib.ListN.{length, take, length-append}
use lib.Seq.{length-take-le}
use borrow.Author.Tests.{lt-leb, le-leb}
use Rattle.text.specs.Refusal.{Refusal}
use Rattle.text.specs.declared.span.Span.{Span}
use Rattle.text.specs.declared.switches.Switches.{Switches}
use Rattle.reader.specs.Reading.{reading, node_count, word_of, one_value, max_text}
use Rattle.reader.specs.Content.{part}
use Rattle.reader.proofs.SpanLaws.{span_law}
use Rattle.editor.specs.declared.trial.Present.{Present}
use Rattle.text.specs.Buffers.{overwritten}
use Rattle.editor.specs.Edit.{Lent, lent_of, Result, text_of, splice, trailer, trailer_bytes, entry, with_text, decided, value_start, value_stop, corrected, entry_of, correction_refusal, with_correction, correct, Change}
use Rattle.editor.specs.Internal.{changed, Knows, ReadNow, Stopped, change_refusal, with_replacement, Within, Judged, replaced, corrected_read}
use Rattle.editor.proofs.SpliceLaws.{length_part, take_with_text}
use Rattle.editor.proofs.EntryLaws.{length_trailer}
use Rattle.editor.proofs.ReadLaws.{reads_short}
use Rattle.text.proofs.ListLaws.{part_of_front}
use Rattle.editor.proofs.CallLaws.{Showing}
use Rattle.editor.proofs.TrialLaws.{judged_refuses, judged_does}

-- a text that reads is not too long
pub text_short : (p : Present) (text journal table : List ℕ) → Knows p text journal table → p.used.text ≤ max_text
unfolding text_of
text_short p text journal table known =
    let s = reads_short p.sw (length table) (take p.used.text text) known.reads_now in
    let l = length-take-le p.used.text text known.text_fits_law in
    omega arith

-- ---- by the span

module _ (p : Present) (text journal : List ℕ) (words : ℕ) (span : Span) (replacement : List ℕ) (fits : p.used.text ≤ length text) (w : Within p span) where
  abbrev b : Lent
  b = lent_of text journal p.used

  abbrev new : List ℕ
  new = splice span.start span.stop replacement (text_of b)

  abbrev more : List ℕ
  more = entry span.start span.stop replacement (text_of b)

  old_length : length (part span.start span.stop (text_of b)) ≡ span.stop - span.start
  unfolding text_of
  old_length =
      let l = length-take-le p.used.text text fits in
      let e = w.ends in
      length_part span.start span.stop (take p.used.text text) w.forwards (omega arith)

  -- the journal's length in use with the entry
  with_entry : p.used.journal + (span.stop - span.start) + trailer_bytes ≡ p.used.journal + length more
  unfolding entry
  with_entry =
      let o = old_length in
      let t = length_trailer span.start (length replacement) (span.stop - span.start) in
      let l = length-append (part span.start span.stop (text_of b)) (trailer span.start (length replacement) (span.stop - span.start)) in
      omega arith

  entry_by : (old : List ℕ) → part span.start span.stop (text_of b) ≡ old → old ++ trailer span.start (length replacement) (length old) ≡ more
  unfolding entry
  entry_by old e =
      let l : length old ≡ span.stop - span.start = ap length (sym e) ∙ old_length in
      λ i. sym e i ++ trailer span.start (length replacement) (l i)

  module _ (r : Change) (table draft : List ℕ)
      (judged : Judged p.sw words b new (p.used.journal + (span.stop - span.start) + trailer_bytes) r table draft)
    where
      judged_entry : Judged p.sw words b new (p.used.journal + length more) r table draft
      judged_entry = subst (λ (j : ℕ). Judged p.sw words b new j r table draft) with_entry judged

      pub replace_refused : (f : Refusal) → r.verdict ≡ Err f → Showing (replaced p text journal words span replacement) r text journal table
      replace_refused f v =
          judged_refuses p.sw words b new (p.used.journal + length more) r table draft judged_entry (with_replacement b span replacement) f v

      -- the entry and the new text are written
      pub replace_done : (out bytes old : List ℕ) → r.verdict ≡ (Ok tt) → out ≡ with_text p.used.text (take r.used.text draft) text
          → old ≡ part span.start span.stop text
          → bytes ≡ overwritten p.used.journal (old ++ trailer span.start (length replacement) (length old)) journal
          → Showing (replaced p text journal words span replacement) r out bytes table
      unfolding with_replacement text_of
      replace_done out bytes old v tx o jx =
          let g = w.forwards in
          let h = w.ends in
          let same : part span.start span.stop (text_of b) ≡ old =
          part_of_front span.start (span.stop - span.start) p.used.text text (omega arith) ∙ sym o in
          judged_does p.sw words b new (p.used.journal + length more) r table draft judged_entry v (with_replacement b span replacement) out bytes
          (take_with_text p.used.text new text) refl
          (tx ∙ ap (λ (x : List ℕ). with_text p.used.text x text) (judged.done v).3)
          (jx ∙ ap (λ (x : List ℕ). overwritten p.used.journal x journal) (entry_by old same))

-- ---- by the node's number

module _ (p : Present) (text journal : List ℕ) (node : ℕ) (replacement table : List ℕ) (known : Knows p text journal table) where
  abbrev words : ℕ
  words = length table

  abbrev lent : Lent
  lent = lent_of text journal p.used

  pub refused_12 : p.nodes ≤ node → correction_refusal p.sw words lent node replacement ≡ 12
  unfolding correction_refusal
  refused_12 h =
      let e = known.table_now.nodes_are in
      rw (le-leb (node_count (reading p.sw words (text_of lent))) node (omega arith))

  module _ (h : node < p.nodes) where
    is_node_law : node < node_count (reading p.sw words (text_of lent))
    is_node_law = let e = known.table_now.nodes_are in omega arith

    pub refused_13 : one_value p.sw (ltb 0 node) replacement ≡ false → correction_refusal p.sw words lent node replacement ≡ 13
    unfolding correction_refusal
    refused_13 e = rw (lt-leb (node_count (reading p.sw words (text_of lent))) node is_node_law, e)

    module _ (span : Span) (a : span.start ≡ word_of table node 2) (z : span.stop ≡ word_of table node 3) where
      start_is : span.start ≡ value_start p.sw words node (text_of lent)
      unfolding value_start
      start_is = a ∙ ap (λ (t : List ℕ). word_of t node 2) known.table_now.table_is

      stop_is : span.stop ≡ value_stop p.sw words node (text_of lent)
      unfolding value_stop
      stop_is = z ∙ ap (λ (t : List ℕ). word_of t node 3) known.table_now.table_is

      pub value_within : Within p span
      unfolding value_start value_stop text_of
      value_within =
          let s = span_law p.sw words node (take p.used.text text) is_node_law in
          let q₁ = start_is in
          let q₂ = stop_is in
          let l = length-take-le p.used.text text known.text_fits_law in
          record { forwards = omega arith; ends = omega arith }

      replaced_is : one_value p.sw (ltb 0 node) replacement ≡ true → replaced p text journal words span replacement ≡ corrected_read p text journal words node replacement
      unfolding change_refusal with_replacement correction_refusal with_correction corrected entry_of
      replaced_is one =
          (λ i. decided p.sw words lent
          (change_refusal p.sw words lent (splice (start_is i) (stop_is i) replacement (text_of lent)) (p.used.journal + length (entry (start_is i) (stop_is i) replacement (text_of lent))))
          (with_replacement lent (record { start = start_is i; stop = stop_is i }) replacement))
          ∙ sym (rw (lt-leb (node_count (reading p.sw words (text_of lent))) node is_node_law, one))

      pub corrects : (r : Change) (out bytes after : List ℕ) → one_value p.sw (ltb 0 node) replacement ≡ true
          → Showing (replaced p text journal words span replacement) r out bytes after
          → Showing (corrected_read p text journal words node replacement) r out bytes after
      corrects r out bytes after one s = subst (λ (x : Result). Showing x r out bytes after) (replaced_is one) s

-- ---- the whole call

module _ (sw : Switches) (words : ℕ) (b : Lent) (node : ℕ) (replacement : List ℕ) where
  pub correct_stops : (table : List ℕ) (f : Refusal) → Stopped sw words b table f
      → Showing (correct sw words b node replacement) (changed (Err f) 0 b.used) b.text b.journal table
  unfolding correct
  correct_stops table f s = s.shows _ _

-- the same table, by its length when it is handed on
pub read_at : (sw : Switches) (words long : ℕ) (b : Lent) (table : List ℕ) (nodes : ℕ) → long ≡ words → ReadNow sw words b table nodes → ReadNow sw long b table nodes
read_at sw words long b table nodes l r = subst (λ (w : ℕ). ReadNow sw w b table nodes) (sym l) r
