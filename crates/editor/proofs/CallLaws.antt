-- What both calls share: the lengths, the reading, and what is shown at the end.
-- Assumes nothing.
use Rattle.std.specs.Prelude.{Ok, Err}
use mathlib.Core.Path.{◌≡◌, refl, sym, ap, ap₂, ◌∙◌, subst}
use Prim.Native.Nat.{ℕ, ◌+◌, ◌<◌, ◌≤◌}
use native.Mathlib.Omega.{arith}
use mathlib.Core.Bool.{true, false, ◌||◌}
use mathlib.Core.List.{List}
use lib.Dec.{eqb}
use lib.ListN.{length, take, replicate}
use borrow.Author.Tests.{lt-ltb, le-ltb, ne_eqb}
use Rattle.text.specs.Refusal.{Refusal, refusal}
use Rattle.text.specs.declared.switches.Switches.{Switches}
use Rattle.text.proofs.Choice.{cond-true, cond-false}
use Rattle.reader.specs.Syntax.{Outcome, taken, refused}
use Rattle.reader.specs.Reading.{reading, reads, is_taken, node_count, table_of, answer_of}
use Rattle.std.specs.declared.result.Result as Rust
use Rattle.text.specs.Buffers.{overwritten}
use Rattle.editor.specs.Edit.{Lent, Result, leaving, Shows, text_of, change_of, verdict_of, bad_length, length_refused, result_of, decided, once_read, Change}
use Rattle.editor.specs.Internal.{changed, refused_with, TableIs, ReadNow, Stopped, OpensIs, Opens, opened}
use Rattle.text.proofs.BufferLaws.{take_overwritten}
use Rattle.reader.proofs.NumberBound.{NumberWithin, number_law}

-- ---- lists

-- what was written at the front
pub front_is : (n : ℕ) (x d e : List ℕ) → e ≡ overwritten 0 x d → n ≡ length x → length x ≤ length d → take n e ≡ x
front_is n x d e p q h = let z : n ≡ 0 + length x = omega arith in ap₂ (λ (k : ℕ) (l : List ℕ). take k l) z p ∙ take_overwritten 0 x d (omega arith)

-- what the code's calls show
abbrev pub Showing : Result → Change → (text journal table : List ℕ) → Type 0
Showing res r text journal table = Shows change_of res (leaving r text journal table)

module _ (sw : Switches) (words : ℕ) where
  -- ---- what is shown

  -- a result with the buffers as they are in `b`
  pub shows_result : (b : Lent) (number place nodes : ℕ) (verdict : Rust.Result Unit Refusal) (table : List ℕ) → verdict ≡ verdict_of number place → TableIs sw words (text_of b) table nodes
      → Showing (result_of sw words number place b) (changed verdict nodes b.used) b.text b.journal table
  unfolding result_of change_of
  shows_result b number place nodes verdict table v t =
      record {
        answer_is = λ i. changed (v i) (t.nodes_are i) b.used;
        text_is = refl;
        journal_is = refl;
        table_is = t.table_is;
      }

  module _ (b new : Lent) (decision : ℕ) (r : Change) (table : List ℕ) (nodes : ℕ) where
    -- a decision at 0, and nothing changed
    pub shows_refused : (number : ℕ) → decision ≡ number → 1 ≤ number → r ≡ refused_with number nodes b.used
        → TableIs sw words (text_of b) table nodes → Showing (decided sw words b decision new) r b.text b.journal table
    unfolding decided verdict_of
    shows_refused number e h q t =
        let z : eqb number 0 ≡ false = ne_eqb number 0 (λ k. omega arith) in
        let d : decided sw words b decision new ≡ result_of sw words number 0 b =
        ap (λ (n : ℕ). decided sw words b n new) e ∙ cond-false (eqb number 0) (result_of sw words 0 0 new) (result_of sw words number 0 b) z in
        let v : Err (refusal number 0) ≡ verdict_of number 0 = sym (cond-false (eqb number 0) (Ok tt) (Err (refusal number 0)) z) in
        subst (λ (s : Result). Showing s r b.text b.journal table) (sym d)
        (subst (λ (x : Change). Showing (result_of sw words number 0 b) x b.text b.journal table) (sym q) (shows_result b number 0 nodes (Err (refusal number 0)) table v t))

    -- done, with the new buffers
    pub shows_done : (text journal : List ℕ) → decision ≡ 0 → r ≡ changed (Ok tt) nodes new.used
        → TableIs sw words (text_of new) table nodes → text ≡ new.text → journal ≡ new.journal → Showing (decided sw words b decision new) r text journal table
    unfolding decided verdict_of
    shows_done text journal e q t tx jx =
        let d : decided sw words b decision new ≡ result_of sw words 0 0 new = ap (λ (n : ℕ). decided sw words b n new) e in
        let s : Showing (result_of sw words 0 0 new) (changed (Ok tt) nodes new.used) new.text new.journal table =
        shows_result new 0 0 nodes (Ok tt) table refl t in
        record {
          answer_is = q ∙ s.answer_is ∙ ap (λ (x : Result). change_of x.answer) (sym d);
          text_is = tx ∙ s.text_is ∙ ap (λ (x : Result). x.lent.text) (sym d);
          journal_is = jx ∙ s.journal_is ∙ ap (λ (x : Result). x.lent.journal) (sym d);
          table_is = s.table_is ∙ ap (λ (x : Result). x.table) (sym d);
        }

  -- ---- the beginning

  module _ (b : Lent) where
    pub long_text : length b.text < b.used.text → bad_length b ≡ true
    unfolding bad_length
    long_text h = rw (lt-ltb _ _ h)

    pub long_journal : b.used.text ≤ length b.text → length b.journal < b.used.journal → bad_length b ≡ true
    unfolding bad_length
    long_journal g h = rw (le-ltb _ _ g, lt-ltb _ _ h)

    -- 11
    pub opens_bad : (table : List ℕ) (r : Rust.Result ℕ Refusal) → bad_length b ≡ true → r ≡ Err (refusal 11 0) → table ≡ replicate words 0 → Opens sw words b table r
    unfolding length_refused change_of verdict_of
    opens_bad table r e q t =
        record {
          is = subst (OpensIs sw words b table) (sym q)
              (record {
                shows = λ decision new.
                    subst (λ (s : Result). Showing s (changed (Err (refusal 11 0)) 0 b.used) b.text b.journal table)
                    (sym (cond-true (bad_length b) (length_refused words b) (once_read sw words b (reading sw words (text_of b)) decision new) e))
                    (record { answer_is = refl; text_is = refl; journal_is = refl; table_is = t });
              });
        }

    pub good_length : b.used.text ≤ length b.text → b.used.journal ≤ length b.journal → bad_length b ≡ false
    unfolding bad_length
    good_length g h = ap₂ ◌||◌ (le-ltb _ _ g) (le-ltb _ _ h)

    -- what a call comes to, once the text reads
    pub once_read_law : (o : Outcome) (decision : ℕ) (new : Lent) → is_taken o ≡ true → once_read sw words b o decision new ≡ decided sw words b decision new
    unfolding once_read is_taken
    once_read_law (taken tree) decision new e = refl
    once_read_law (refused k p) decision new e = cc

    -- good lengths and a text that reads: what a call shows is its own decision
    pub opened_decided : (decision : ℕ) (new : Lent) → bad_length b ≡ false → reads sw words (text_of b) ≡ true
        → opened sw words b decision new ≡ decided sw words b decision new
    unfolding reads
    opened_decided decision new g r =
        cond-false (bad_length b) (length_refused words b) (once_read sw words b (reading sw words (text_of b)) decision new) g
        ∙ once_read_law (reading sw words (text_of b)) decision new r

    -- the same by the table: `long` words, its length when the text had been read
    pub opened_shows : (decision : ℕ → ℕ) (new : ℕ → Lent) (table : List ℕ) (nodes long : ℕ) (r : Change) (text journal out : List ℕ)
        → ReadNow sw words b table nodes → long ≡ words → Showing (decided sw long b (decision long) (new long)) r text journal out
        → Showing (opened sw words b (decision words) (new words)) r text journal out
    opened_shows decision new table nodes long r text journal out read l s =
        subst (λ (x : Result). Showing x r text journal out)
        ((λ i. decided sw (l i) b (decision (l i)) (new (l i)))
        ∙ sym (opened_decided (decision words) (new words) (good_length read.text_fits_law read.journal_fits_law) read.reads_now))
        s

    opens_by : (o : Outcome) → reading sw words (text_of b) ≡ o → NumberWithin o → b.used.text ≤ length b.text → b.used.journal ≤ length b.journal
        → OpensIs sw words b (table_of words o) (answer_of o)
    unfolding answer_of reads is_taken once_read NumberWithin node_count verdict_of
    opens_by (taken tree) e n g h =
        record {
          text_fits_law = g;
          journal_fits_law = h;
          reads_now = ap is_taken e;
          table_now = record { nodes_are = ap node_count (sym e); table_is = ap (table_of words) (sym e) };
        }
    opens_by (refused k p) e n g h =
        let t : TableIs sw words (text_of b) (table_of words (refused k p)) 0 = record { nodes_are = ap node_count (sym e); table_is = ap (table_of words) (sym e) } in
        let m = n.0 in
        let v : Err (refusal k p) ≡ verdict_of k p = sym (cond-false (eqb k 0) (Ok tt) (Err (refusal k p)) (ne_eqb k 0 (λ z. omega arith))) in
        record {
          shows = λ decision new.
              subst (λ (s : Result). Showing s (changed (Err (refusal k p)) 0 b.used) b.text b.journal (table_of words (refused k p)))
              (sym (cond-false (bad_length b) (length_refused words b) (once_read sw words b (reading sw words (text_of b)) decision new) (good_length g h)
              ∙ ap (λ (o : Outcome). once_read sw words b o decision new) e))
              (shows_result b k p 0 (Err (refusal k p)) (table_of words (refused k p)) v t);
        }

    -- the reading
    pub opens_read : (table : List ℕ) (r : Rust.Result ℕ Refusal) → b.used.text ≤ length b.text → b.used.journal ≤ length b.journal
        → r ≡ answer_of (reading sw words (take b.used.text b.text)) → table ≡ table_of words (reading sw words (take b.used.text b.text)) → Opens sw words b table r
    unfolding text_of
    opens_read table r g h q t =
        record {
          is = subst (λ (x : Rust.Result ℕ Refusal). OpensIs sw words b table x) (sym q)
              (subst (λ (l : List ℕ). OpensIs sw words b l (answer_of (reading sw words (take b.used.text b.text)))) (sym t)
              (opens_by (reading sw words (take b.used.text b.text)) refl (number_law sw words (take b.used.text b.text)) g h));
        }

  module _ {b : Lent} {table : List ℕ} {r : Rust.Result ℕ Refusal} where
    pub opens_taken : {n : ℕ} → r ≡ Ok n → Opens sw words b table r → ReadNow sw words b table n
    opens_taken e h = subst (OpensIs sw words b table) e h.is

    pub opens_stopped : {f : Refusal} → r ≡ Err f → Opens sw words b table r → Stopped sw words b table f
    opens_stopped e h = subst (OpensIs sw words b table) e h.is
