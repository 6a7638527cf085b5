-- What the book and the lent buffers share at every point of a list of calls, and that a correction keeps it.
-- Assumes nothing.
use mathlib.Core.Path.{◌≡◌, refl, sym, ap, ap₂, ◌∙◌, subst}
use Prim.Native.Nat.{ℕ, ◌+◌, ◌≤◌, ◌<◌, min}
use native.Mathlib.Omega.{arith}
use mathlib.Core.Bool.{Bool, true, false, not, cond}
use mathlib.Core.List.{List, [], ◌∷◌, ◌++◌}
use lib.Dec.{leb, ltb, eqb}
use lib.ListN.{length, length-append}
use borrow.Author.Tests.{ltb-false, leb-false, eqb-true, not-false}
use Rattle.text.specs.declared.switches.Switches.{Switches}
use Rattle.reader.specs.Reading.{reading, reads, node_count, table_of, one_value, max_text}
use Rattle.editor.specs.declared.change.InUse.{InUse}
use Rattle.text.specs.Buffers.{overwritten}
use Rattle.editor.specs.Edit.{Lent, in_use, Report, Result, text_of, journal_of, result_of, corrected, entry_of, with_text, no_room, correction_refusal, with_correction, decided, correct}
use Rattle.editor.specs.Internal.{opened}
use Rattle.editor.specs.Book.{Correction, Room, Seen, book_text, book_journal, book_refusal, told, handed_on, seen_of}
use Rattle.editor.proofs.CallLaws.{good_length, opened_decided}
use Rattle.editor.proofs.TrialLaws.{zero_cond}
use Rattle.text.proofs.BufferLaws.{length_overwritten, take_overwritten}
use Rattle.editor.proofs.SpliceLaws.{length_with_text, take_with_text}

module _ (sw : Switches) where
  -- the answer and the buffers of a call, by text, journal and lengths
  shown : (words number : ℕ) (t j : List ℕ) → InUse → Seen Report
  shown words number t j used =
      record {
        answer = record { number = number; place = 0; nodes = node_count (reading sw words t); used = used };
        text = t;
        journal = j;
        table = table_of words (reading sw words t);
      }

  -- 12 to 16, by text, room and the journal's length with the new entry
  refusal_by : (words : ℕ) → Correction → (t : List ℕ) (room total journal : ℕ) → ℕ
  refusal_by words c t room total journal =
      cond (leb (node_count (reading sw words t)) c.node) 12
      (cond (not (one_value sw (ltb 0 c.node) c.replacement)) 13
      (cond (no_room (corrected sw words c.node c.replacement t) room) 14
      (cond (ltb journal total) 15
      (cond (not (reads sw words (corrected sw words c.node c.replacement t))) 16
      0))))

  record Accepted (words : ℕ) (c : Correction) (t : List ℕ) (room total journal : ℕ) : Type 0 where
    is_node : c.node < node_count (reading sw words t)
    fits : length (corrected sw words c.node c.replacement t) ≤ min room max_text
    enters : total ≤ journal
    reads' : reads sw words (corrected sw words c.node c.replacement t) ≡ true

  accepted : (words : ℕ) (c : Correction) (t : List ℕ) (room total journal : ℕ) → refusal_by words c t room total journal ≡ 0
      → Accepted words c t room total journal
  unfolding refusal_by no_room
  accepted words c t room total journal e =
      let new : List ℕ = corrected sw words c.node c.replacement t in
      let x₅ : ℕ = cond (not (reads sw words new)) 16 0 in
      let x₄ : ℕ = cond (ltb journal total) 15 x₅ in
      let x₃ : ℕ = cond (no_room new room) 14 x₄ in
      let x₂ : ℕ = cond (not (one_value sw (ltb 0 c.node) c.replacement)) 13 x₃ in
      let e₁ = zero_cond (leb (node_count (reading sw words t)) c.node) 12 x₂ tt e in
      let e₂ = zero_cond (not (one_value sw (ltb 0 c.node) c.replacement)) 13 x₃ tt e₁.1 in
      let e₃ = zero_cond (no_room new room) 14 x₄ tt e₂.1 in
      let e₄ = zero_cond (ltb journal total) 15 x₅ tt e₃.1 in
      let e₅ = zero_cond (not (reads sw words new)) 16 0 tt e₄.1 in
      record {
        is_node = leb-false _ _ e₁.0;
        fits = ltb-false _ _ e₃.0;
        enters = ltb-false _ _ e₄.0;
        reads' = not-false _ e₅.0;
      }

  module _ (room : Room) (first : List ℕ) where
    abbrev pub W : ℕ
    W = room.words

    abbrev pub text_of_law : List Correction → List ℕ
    text_of_law cs = book_text sw room first cs

    abbrev pub journal_of_law : List Correction → List ℕ
    journal_of_law cs = book_journal sw room first cs

    -- each text on the way reads and has room; each correction's node was there
    unfoldable pub AllAccepted : List Correction → Type 0
    AllAccepted [] = (length first ≤ min room.text max_text) × (reads sw W first ≡ true)
    AllAccepted (c ∷ cs) =
        AllAccepted cs × (c.node < node_count (reading sw W (text_of_law cs))) × (length (text_of_law (c ∷ cs)) ≤ min room.text max_text) × (reads sw W (text_of_law (c ∷ cs)) ≡ true)

    pub in_room : (cs : List Correction) → AllAccepted cs → length (text_of_law cs) ≤ min room.text max_text
    unfolding AllAccepted book_text
    in_room [] f = f.0
    in_room (c ∷ cs) f = f.2

    pub in_reads : (cs : List Correction) → AllAccepted cs → reads sw W (text_of_law cs) ≡ true
    unfolding AllAccepted book_text
    in_reads [] f = f.1
    in_reads (c ∷ cs) f = f.3

    pub record Shared (cs : List Correction) (b : Lent) : Type 0 where
      pub text_room : length b.text ≡ room.text
      pub journal_room : length b.journal ≡ room.journal
      pub text_fits : b.used.text ≤ length b.text
      pub journal_fits : b.used.journal ≤ length b.journal
      pub text_used : b.used.text ≡ length (text_of_law cs)
      pub journal_used : b.used.journal ≡ length (journal_of_law cs)
      pub texts : text_of b ≡ text_of_law cs
      pub journals : journal_of b ≡ journal_of_law cs
      pub force : AllAccepted cs

    pub seen_told : (cs : List Correction) (b : Lent) (n : ℕ) → Shared cs b → seen_of (result_of sw W n 0 b) ≡ told sw room first n cs
    unfolding seen_of handed_on result_of told shown
    seen_told cs b n sh = λ i. shown W n (sh.texts i) (sh.journals i) (in_use (sh.text_used i) (sh.journal_used i))

    -- what a call shows is its own decision
    pub shared_decided : (cs : List Correction) (b : Lent) (refusal : ℕ) (new : Lent) → Shared cs b
        → opened sw W b refusal new ≡ decided sw W b refusal new
    shared_decided cs b refusal new sh =
        opened_decided sw W b refusal new (good_length sw W b sh.text_fits sh.journal_fits) (ap (reads sw W) sh.texts ∙ in_reads cs sh.force)

    -- ---- corrections

    book_refusal_law : (cs : List Correction) (c : Correction)
        → book_refusal sw room first cs c ≡ refusal_by W c (text_of_law cs) room.text (length (journal_of_law cs) + length (entry_of sw W c.node c.replacement (text_of_law cs))) room.journal
    unfolding book_refusal refusal_by no_room book_text book_journal
    book_refusal_law cs c =
        ap (λ (n : ℕ). refusal_by W c (text_of_law cs) room.text n room.journal) (length-append (journal_of_law cs) (entry_of sw W c.node c.replacement (text_of_law cs)))

    lent_refusal : (cs : List Correction) (b : Lent) (c : Correction) → Shared cs b
        → correction_refusal sw W b c.node c.replacement
        ≡ refusal_by W c (text_of_law cs) room.text (length (journal_of_law cs) + length (entry_of sw W c.node c.replacement (text_of_law cs))) room.journal
    unfolding correction_refusal refusal_by
    lent_refusal cs b c sh =
        λ i. refusal_by W c (sh.texts i) (sh.text_room i) (sh.journal_used i + length (entry_of sw W c.node c.replacement (sh.texts i))) (sh.journal_room i)

    with_correction_shared : (cs : List Correction) (b : Lent) (c : Correction) → Shared cs b
        → Accepted W c (text_of_law cs) room.text (length (journal_of_law cs) + length (entry_of sw W c.node c.replacement (text_of_law cs))) room.journal
        → Shared (c ∷ cs) (with_correction sw W b c.node c.replacement)
    unfolding with_correction text_of journal_of book_text book_journal AllAccepted
    with_correction_shared cs b c sh ac =
        let new : List ℕ = corrected sw W c.node c.replacement (text_of b) in
        let more : List ℕ = entry_of sw W c.node c.replacement (text_of b) in
        let e : new ≡ text_of_law (c ∷ cs) = ap (corrected sw W c.node c.replacement) sh.texts in
        let f : more ≡ entry_of sw W c.node c.replacement (text_of_law cs) = ap (entry_of sw W c.node c.replacement) sh.texts in
        let le : length new ≡ length (text_of_law (c ∷ cs)) = ap length e in
        let lf : length more ≡ length (entry_of sw W c.node c.replacement (text_of_law cs)) = ap length f in
        let g₁ = ac.fits in
        let g₂ = ac.enters in
        let g₃ = sh.text_room in
        let g₄ = sh.journal_room in
        let g₅ = sh.journal_used in
        let g₆ = sh.text_fits in
        let n : length new ≤ length b.text = omega arith in
        let m : b.used.journal + length more ≤ length b.journal = omega arith in
        let lt : length (with_text b.used.text new b.text) ≡ length b.text = length_with_text b.used.text new b.text g₆ n in
        let lj : length (overwritten b.used.journal more b.journal) ≡ length b.journal = length_overwritten b.used.journal more b.journal m in
        record {
          text_room = lt ∙ g₃;
          journal_room = lj ∙ g₄;
          text_fits = omega arith;
          journal_fits = omega arith;
          text_used = le;
          journal_used = ap₂ ◌+◌ g₅ lf ∙ sym (length-append (journal_of_law cs) (entry_of sw W c.node c.replacement (text_of_law cs)));
          texts = take_with_text b.used.text new b.text ∙ e;
          journals = take_overwritten b.used.journal more b.journal m ∙ ap₂ ◌++◌ sh.journals f;
          force = (sh.force, ac.is_node, g₁, ac.reads');
        }

    abbrev pub Same : List Correction → Lent → (number : ℕ) → List Correction → Result → Type 0
    Same cs b number after r = (seen_of r ≡ told sw room first number after) × Shared after (handed_on r)

    -- the two branches of a decision
    decided_same : (cs after : List Correction) (b new : Lent) (n : ℕ) (z : Bool) → eqb n 0 ≡ z → Shared cs b
        → (n ≡ 0 → Shared after new) → Same cs b n (cond z after cs) (decided sw W b n new)
    unfolding decided result_of handed_on
    decided_same cs after b new n true e sh k =
        let n0 : n ≡ 0 = eqb-true n 0 e in
        let r : decided sw W b n new ≡ result_of sw W 0 0 new = ap (λ (x : Bool). cond x (result_of sw W 0 0 new) (result_of sw W n 0 b)) e in
        subst (λ (res : Result). Same cs b n after res) (sym r)
        (subst (λ (m : ℕ). seen_of (result_of sw W 0 0 new) ≡ told sw room first m after) (sym n0) (seen_told after new 0 (k n0)), k n0)
    decided_same cs after b new n false e sh k =
        let r : decided sw W b n new ≡ result_of sw W n 0 b = ap (λ (x : Bool). cond x (result_of sw W 0 0 new) (result_of sw W n 0 b)) e in
        subst (λ (res : Result). Same cs b n cs res) (sym r) (seen_told cs b n sh, sh)

    pub correct_same : (cs : List Correction) (b : Lent) (c : Correction) → Shared cs b
        → Same cs b (book_refusal sw room first cs c) (cond (eqb (book_refusal sw room first cs c) 0) (c ∷ cs) cs) (correct sw W b c.node c.replacement)
    unfolding correct
    correct_same cs b c sh =
        let total : ℕ = length (journal_of_law cs) + length (entry_of sw W c.node c.replacement (text_of_law cs)) in
        let ch : ℕ = refusal_by W c (text_of_law cs) room.text total room.journal in
        let p : correct sw W b c.node c.replacement ≡ decided sw W b (book_refusal sw room first cs c) (with_correction sw W b c.node c.replacement) =
        shared_decided cs b (correction_refusal sw W b c.node c.replacement) (with_correction sw W b c.node c.replacement) sh
        ∙ ap (λ (n : ℕ). decided sw W b n (with_correction sw W b c.node c.replacement)) (lent_refusal cs b c sh ∙ sym (book_refusal_law cs c)) in
        subst (λ (res : Result). Same cs b (book_refusal sw room first cs c) (cond (eqb (book_refusal sw room first cs c) 0) (c ∷ cs) cs) res) (sym p)
        (decided_same cs (c ∷ cs) b (with_correction sw W b c.node c.replacement) (book_refusal sw room first cs c) (eqb (book_refusal sw room first cs c) 0) refl sh
        (λ e. with_correction_shared cs b c sh (accepted W c (text_of_law cs) room.text total room.journal (sym (book_refusal_law cs c) ∙ e))))
