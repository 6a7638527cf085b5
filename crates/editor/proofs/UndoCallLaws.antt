-- An undo: one law for each way out.
-- Assumes nothing.
use Rattle.std.specs.Prelude.{Ok, Err}
use mathlib.Core.Path.{◌≡◌, refl, sym, ap, ap₂, ◌∙◌, subst}
use Prim.Native.Nat.{ℕ, ◌-◌, ◌≤◌}
use native.Mathlib.Omega.{arith}
use mathlib.Core.Bool.{Bool, false, not, cond}
use mathlib.Core.List.{List}
use lib.Dec.{ltb, eqb}
use lib.ListN.{length, take}
use lib.Seq.{length-take-le}
use borrow.Author.Tests.{le-ltb, eq-eqb, ne_eqb}
use Rattle.text.specs.Refusal.{Refusal}
use Rattle.text.specs.declared.switches.Switches.{Switches}
use Rattle.reader.specs.Reading.{reads}
use Rattle.reader.specs.Content.{part}
use Rattle.editor.specs.declared.journal.Trailer.{Trailer}
use Rattle.editor.specs.declared.trial.Present.{Present}
use Rattle.editor.specs.Edit.{Lent, lent_of, in_use, text_of, journal_of, splice, trailer_bytes, with_text, no_room, decided, entry_size, old_bytes, undone, with_undo, undo_refusal, undo, Change}
use Rattle.editor.specs.Internal.{changed, Stopped, change_refusal, Within, Judged, last_entry, TrailerIs, undone_read}
use Rattle.editor.proofs.SpliceLaws.{take_with_text}
use Rattle.text.proofs.ListLaws.{part_of_front}
use Rattle.editor.proofs.CallLaws.{Showing}
use Rattle.editor.proofs.TrialLaws.{judged_refuses, judged_does}
use Rattle.editor.proofs.LastEntryLaws.{entry_number, nothing_says, bad_says, Good, good_says}

module _ (p : Present) (text journal : List ℕ) (words : ℕ) (text_fits_law : p.used.text ≤ length text) (journal_fits_law : p.used.journal ≤ length journal) where
  abbrev b : Lent
  b = lent_of text journal p.used

  abbrev J : List ℕ
  J = journal_of b

  abbrev X : List ℕ
  X = text_of b

  journal_length : length J ≡ p.used.journal
  unfolding journal_of
  journal_length = length-take-le p.used.journal journal journal_fits_law

  text_length : length X ≡ p.used.text
  unfolding text_of
  text_length = length-take-le p.used.text text text_fits_law

  pub refused_17 : last_entry J X ≡ (Err 17) → undo_refusal p.sw words b ≡ 17
  unfolding undo_refusal
  refused_17 e =
      let n = nothing_says J X e in
      let l = journal_length in
      rw (eq-eqb p.used.journal 0 (omega arith))

  journal_some : (length J ≡ 0 → ⊥) → eqb p.used.journal 0 ≡ false
  journal_some n = ne_eqb p.used.journal 0 (λ e. n (journal_length ∙ e))

  pub refused_18 : last_entry J X ≡ (Err 18) → undo_refusal p.sw words b ≡ 18
  unfolding undo_refusal
  refused_18 e =
      let n = bad_says J X e in
      rw (journal_some n.0, n.1)

  pub undo_refused_by : (n : ℕ) → last_entry J X ≡ Err n → undo_refusal p.sw words b ≡ n
  undo_refused_by n e = entry_number J X n (λ k. undo_refusal p.sw words b ≡ k) e refused_17 refused_18

  pub trailer_is : (trailer : Trailer) → last_entry J X ≡ Ok trailer → TrailerIs p text journal trailer
  trailer_is trailer e =
      let g = good_says J X trailer e in
      let l = journal_length in
      let m = text_length in
      let g₁ = g.forwards in
      let g₂ = g.ends in
      let g₃ = g.least in
      let g₄ = g.most in
      record { is = e; forwards = g₁; ends = omega arith; least = g₃; most = omega arith }

  module _ (trailer : Trailer) (last : TrailerIs p text journal trailer) where
    -- the bytes that are put back, and the text that comes of it
    abbrev old : List ℕ
    old = part (p.used.journal - trailer.size) (p.used.journal - trailer_bytes) journal

    abbrev new : List ℕ
    new = splice trailer.span.start trailer.span.stop old X

    pub undo_within : Within p trailer.span
    undo_within = record { forwards = last.forwards; ends = last.ends }

    good : Good J X trailer
    good = good_says J X trailer last.is

    old_is : old_bytes J ≡ old
    unfolding old_bytes journal_of
    old_is =
        let l = journal_length in
        let z = good.size_says in
        let g = last.least in
        let h = last.most in
        let a : length J - entry_size J ≡ p.used.journal - trailer.size = omega arith in
        let d : length J - trailer_bytes ≡ p.used.journal - trailer_bytes = omega arith in
        ap₂ (λ (x y : ℕ). part x y J) a d
        ∙ part_of_front (p.used.journal - trailer.size) (p.used.journal - trailer_bytes - (p.used.journal - trailer.size)) p.used.journal journal (omega arith)

    new_is : undone J X ≡ new
    unfolding undone
    new_is = λ i. splice (good.start_says i) (good.stop_says i) (old_is i) X

    -- 15 is not given: the journal only gets shorter
    refusal_is : change_refusal p.sw words b new (p.used.journal - trailer.size) ≡ undo_refusal p.sw words b
    unfolding change_refusal undo_refusal
    refusal_is =
        let k = journal_fits_law in
        let e : ltb (length journal) (p.used.journal - trailer.size) ≡ false = le-ltb (length journal) (p.used.journal - trailer.size) (omega arith) in
        ap (λ (t : Bool). cond (no_room new (length text)) 14 (cond t 15 (cond (not (reads p.sw words new)) 16 0))) e
        ∙ ap (λ (x : List ℕ). cond (no_room x (length text)) 14 (cond (not (reads p.sw words x)) 16 0)) (sym new_is)
        ∙ sym (rw (journal_some good.some, good.fine))

    module _ (r : Change) (table draft : List ℕ) (judged : Judged p.sw words b new (p.used.journal - trailer.size) r table draft) where
      pub undo_refused : (f : Refusal) → r.verdict ≡ Err f → Showing (undone_read p text journal words) r text journal table
      undo_refused f v =
          subst (λ (n : ℕ). Showing (decided p.sw words b n (with_undo b)) r text journal table) refusal_is
          (judged_refuses p.sw words b new (p.used.journal - trailer.size) r table draft judged (with_undo b) f v)

      -- the new text is written, and the entry is cut off
      pub undo_done : (out : List ℕ) → r.verdict ≡ (Ok tt) → out ≡ with_text p.used.text (take r.used.text draft) text
          → Showing (undone_read p text journal words) r out journal table
      unfolding with_undo text_of
      undo_done out v tx =
          let u : in_use (length (undone J X)) (p.used.journal - entry_size J) ≡ in_use (length new) (p.used.journal - trailer.size) =
          λ i. in_use (length (new_is i)) (p.used.journal - good.size_says i) in
          subst (λ (n : ℕ). Showing (decided p.sw words b n (with_undo b)) r out journal table) refusal_is
          (judged_does p.sw words b new (p.used.journal - trailer.size) r table draft judged v (with_undo b) out journal
          (take_with_text p.used.text (undone J X) text ∙ new_is) u
          (tx ∙ ap (λ (x : List ℕ). with_text p.used.text x text) ((judged.done v).3 ∙ sym new_is)) refl)

-- ---- the whole call

module _ (sw : Switches) (words : ℕ) (b : Lent) where
  pub undo_stops : (table : List ℕ) (f : Refusal) → Stopped sw words b table f
      → Showing (undo sw words b) (changed (Err f) 0 b.used) b.text b.journal table
  unfolding undo
  undo_stops table f s = s.shows _ _
