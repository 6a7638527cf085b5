-- A change on trial: one law for each way out, and what the answer says of the buffers.
-- Assumes nothing.
use Rattle.std.specs.declared.result.Result as Rust
use Rattle.std.specs.Prelude.{Ok, Err}
use mathlib.Core.Path.{◌≡◌, refl, sym, ap, ◌∙◌, subst}
use Prim.Native.Nat.{ℕ, ◌+◌, ◌-◌, ◌<◌, ◌≤◌, min}
use native.Mathlib.Omega.{arith}
use mathlib.Core.Bool.{Bool, true, false, not, cond}
use mathlib.Core.List.{List}
use lib.Dec.{T, ltb, ltb→lt}
use lib.ListN.{length, take}
use lib.Seq.{length-take-le}
use borrow.Author.Tests.{lt-ltb, le-ltb, ltb-false}
use Rattle.text.specs.Refusal.{Refusal, refusal}
use Rattle.text.specs.declared.span.Span.{Span}
use Rattle.text.specs.declared.switches.Switches.{Switches}
use Rattle.reader.specs.Reading.{reading, reads, node_count, table_of, answer_of, max_text}
use Rattle.reader.proofs.SizeLaws.{taken_is, taken_not, taken_nodes}
use Rattle.editor.specs.declared.trial.Present.{Present}
use Rattle.editor.specs.declared.trial.Plan.{Plan}
use Rattle.text.specs.Buffers.{overwritten}
use Rattle.editor.specs.Edit.{Lent, lent_of, in_use, text_of, splice, no_room, decided, Change}
use Rattle.editor.specs.Internal.{changed, refused_with, TableIs, ReadNow, change_refusal, Within, Judged, Judges}
use Rattle.editor.proofs.SpliceLaws.{length_splice}
use Rattle.editor.proofs.CallLaws.{front_is, Showing, shows_refused, shows_done}

-- a chain of refusals that comes to 0: the first test failed, and so did the rest
pub zero_cond : (b : Bool) (n x : ℕ) → T (ltb 0 n) → cond b n x ≡ 0 → (b ≡ false) × (x ≡ 0)
zero_cond true n x t e = let h = ltb→lt 0 n t in absurd (omega arith)
zero_cond false n x t e = (refl, e)

refused_not_done : (f : Refusal) → ◌≡◌ {A = Rust.Result Unit Refusal} (Err f) (Ok tt) → ⊥
refused_not_done f e = let v : ◌≡◌ {A = ℕ} 0 1 = cc in omega arith

-- the length of the text with a span replaced
pub new_length : (p : Present) (text journal : List ℕ) (span : Span) (replacement : List ℕ) → p.used.text ≤ length text → Within p span
    → span.start + length replacement + (p.used.text - span.stop) ≡ length (splice span.start span.stop replacement (text_of (lent_of text journal p.used)))
unfolding text_of
new_length p text journal span replacement fits w =
    let f = w.forwards in
    let e = w.ends in
    let l = length-take-le p.used.text text fits in
    let s = length_splice span.start span.stop replacement (take p.used.text text) f (omega arith) in
    omega arith

module _ (sw : Switches) (words : ℕ) where
  module _ (b : Lent) (new : List ℕ) (journal : ℕ) where
    module _ (n : ℕ) (l : n ≡ length new) where
      pub trial_14 : min (length b.text) max_text < n → change_refusal sw words b new journal ≡ 14
      unfolding change_refusal no_room
      trial_14 h = rw (lt-ltb (min (length b.text) max_text) (length new) (omega arith))

      module _ (room : n ≤ min (length b.text) max_text) where
        pub trial_15 : length b.journal < journal → change_refusal sw words b new journal ≡ 15
        unfolding change_refusal no_room
        trial_15 h = rw (le-ltb (min (length b.text) max_text) (length new) (omega arith), lt-ltb (length b.journal) journal h)

        module _ (enters : journal ≤ length b.journal) where
          past_15 : change_refusal sw words b new journal ≡ cond (not (reads sw words new)) 16 0
          unfolding change_refusal no_room
          past_15 = rw (le-ltb (min (length b.text) max_text) (length new) (omega arith), le-ltb (length b.journal) journal enters)

          pub trial_16 : reads sw words new ≡ false → change_refusal sw words b new journal ≡ 16
          trial_16 e = past_15 ∙ ap (λ (t : Bool). cond (not t) 16 0) e

          pub trial_passed : reads sw words new ≡ true → change_refusal sw words b new journal ≡ 0
          trial_passed e = past_15 ∙ ap (λ (t : Bool). cond (not t) 16 0) e

    module _ (r : Change) (table draft : List ℕ) where
      pub judged_refused : (number nodes : ℕ) → change_refusal sw words b new journal ≡ number → 1 ≤ number → r ≡ refused_with number nodes b.used
          → TableIs sw words (text_of b) table nodes → Judged sw words b new journal r table draft
      judged_refused number nodes e h q t =
          let m : nodes ≡ r.nodes = sym (ap (λ (c : Change). c.nodes) q) in
          record {
            refused = λ f v. (omega arith, q ∙ (λ i. refused_with (sym e i) (m i) b.used), subst (TableIs sw words (text_of b) table) m t);
            done = λ v. absurd (refused_not_done (refusal number 0) (sym (ap (λ (c : Change). c.verdict) q) ∙ v));
          }

      pub judged_done : (n nodes : ℕ) → n ≡ length new → change_refusal sw words b new journal ≡ 0 → r ≡ changed (Ok tt) nodes (in_use n journal)
          → TableIs sw words new table nodes → take n draft ≡ new → Judged sw words b new journal r table draft
      judged_done n nodes l e q t d =
          let m : nodes ≡ r.nodes = sym (ap (λ (c : Change). c.nodes) q) in
          let u : r.used.text ≡ n = ap (λ (c : Change). c.used.text) q in
          record {
            refused = λ f v. absurd (refused_not_done f (sym v ∙ ap (λ (c : Change). c.verdict) q));
            done = λ v. (e, q ∙ (λ i. changed (Ok tt) (m i) (in_use (l i) journal)), subst (TableIs sw words new table) m t, ap (λ (k : ℕ). take k draft) u ∙ d);
          }

      module _ (judged : Judged sw words b new journal r table draft) where
        pub judged_refuses : (lent : Lent) (f : Refusal) → r.verdict ≡ Err f
            → Showing (decided sw words b (change_refusal sw words b new journal) lent) r b.text b.journal table
        judged_refuses lent f v =
            let j = judged.refused f v in
            shows_refused sw words b lent (change_refusal sw words b new journal) r table r.nodes (change_refusal sw words b new journal) refl j.0 j.1 j.2

        module _ (v : r.verdict ≡ (Ok tt)) where
          -- there is room for the new text, and in the journal
          pub judged_room : (r.used.text ≤ min (length b.text) max_text) × (journal ≤ length b.journal)
          unfolding change_refusal no_room
          judged_room =
              let j = judged.done v in
              let x₂ : ℕ = cond (not (reads sw words new)) 16 0 in
              let x₁ : ℕ = cond (ltb (length b.journal) journal) 15 x₂ in
              let e₁ = zero_cond (ltb (min (length b.text) max_text) (length new)) 14 x₁ tt j.0 in
              let e₂ = zero_cond (ltb (length b.journal) journal) 15 x₂ tt e₁.1 in
              let h₁ = ltb-false (min (length b.text) max_text) (length new) e₁.0 in
              let u : r.used.text ≡ length new = ap (λ (c : Change). c.used.text) j.1 in
              (omega arith, ltb-false (length b.journal) journal e₂.0)

          -- and the buffers hold it
          pub judged_does : (lent : Lent) (text bytes : List ℕ) → text_of lent ≡ new → lent.used ≡ in_use (length new) journal → text ≡ lent.text → bytes ≡ lent.journal
              → Showing (decided sw words b (change_refusal sw words b new journal) lent) r text bytes table
          judged_does lent text bytes t u tx jx =
              let j = judged.done v in
              shows_done sw words b lent (change_refusal sw words b new journal) r table r.nodes text bytes j.0
              (j.1 ∙ ap (changed (Ok tt) r.nodes) (sym u)) (subst (λ (l : List ℕ). TableIs sw words l table r.nodes) (sym t) j.2) tx jx

-- ---- the ways out, of a plan

module _ (p : Present) (plan : Plan) (text journal : List ℕ) (words : ℕ) (replacement present : List ℕ)
    (known : ReadNow p.sw words (lent_of text journal p.used) present p.nodes) (w : Within p plan.span)
  where
    abbrev lent : Lent
    lent = lent_of text journal p.used

    -- the text that the plan makes
    abbrev new : List ℕ
    new = splice plan.span.start plan.span.stop replacement (text_of lent)

    abbrev size : ℕ
    size = plan.span.start + length replacement + (p.used.text - plan.span.stop)

    size_is : size ≡ length new
    size_is = new_length p text journal plan.span replacement known.text_fits_law w

    module _ (r : Change) (table draft : List ℕ) where
      pub try_14 : min (length text) max_text < size → r ≡ refused_with 14 p.nodes p.used → table ≡ present
          → Judges p plan text journal words replacement r table draft
      try_14 h q t =
          judged_refused p.sw words lent new plan.journal r table draft 14 p.nodes
          (trial_14 p.sw words lent new plan.journal size size_is h) (omega arith) q
          (subst (λ (l : List ℕ). TableIs p.sw words (text_of lent) l p.nodes) (sym t) known.table_now)

      module _ (room : size ≤ min (length text) max_text) where
        pub try_15 : length journal < plan.journal → r ≡ refused_with 15 p.nodes p.used → table ≡ present
            → Judges p plan text journal words replacement r table draft
        try_15 h q t =
            judged_refused p.sw words lent new plan.journal r table draft 15 p.nodes
            (trial_15 p.sw words lent new plan.journal size size_is room h) (omega arith) q
            (subst (λ (l : List ℕ). TableIs p.sw words (text_of lent) l p.nodes) (sym t) known.table_now)

        module _ (enters : plan.journal ≤ length journal) (before : List ℕ) (long : max_text ≤ length before) (d : draft ≡ overwritten 0 new before) where
          front_new : take size draft ≡ new
          front_new = let l = size_is in front_is size new before draft d size_is (omega arith)

          -- the present text is read again
          pub try_16 : (f : Refusal) (again : ℕ) → answer_of (reading p.sw words (take size draft)) ≡ Err f → again ≡ words
              → table ≡ table_of again (reading p.sw again (take p.used.text text)) → r ≡ refused_with 16 p.nodes p.used
              → Judges p plan text journal words replacement r table draft
          unfolding reads text_of
          try_16 f again e a t q =
              judged_refused p.sw words lent new plan.journal r table draft 16 p.nodes
              (trial_16 p.sw words lent new plan.journal size size_is room enters
              (ap (reads p.sw words) (sym front_new) ∙ taken_not (reading p.sw words (take size draft)) f e))
              (omega arith) q
              (record {
                nodes_are = known.table_now.nodes_are;
                table_is = t ∙ ap (λ (k : ℕ). table_of k (reading p.sw k (take p.used.text text))) a;
              })

          pub try_done : (nodes : ℕ) → answer_of (reading p.sw words (take size draft)) ≡ Ok nodes
              → table ≡ table_of words (reading p.sw words (take size draft)) → r ≡ changed (Ok tt) nodes (in_use size plan.journal)
              → Judges p plan text journal words replacement r table draft
          unfolding reads
          try_done nodes e t q =
              judged_done p.sw words lent new plan.journal r table draft size nodes size_is
              (trial_passed p.sw words lent new plan.journal size size_is room enters
              (ap (reads p.sw words) (sym front_new) ∙ taken_is (reading p.sw words (take size draft)) nodes e))
              q
              (record {
                nodes_are = taken_nodes (reading p.sw words (take size draft)) nodes e ∙ ap (λ (l : List ℕ). node_count (reading p.sw words l)) front_new;
                table_is = t ∙ ap (λ (l : List ℕ). table_of words (reading p.sw words l)) front_new;
              })
              front_new
