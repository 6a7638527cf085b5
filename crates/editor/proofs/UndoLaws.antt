-- Undo against the book: the journal's last entry is that of the last correction in force, and what it puts back is the text before.
-- Assumes nothing.
use mathlib.Core.Path.{◌≡◌, refl, sym, ap, ap₂, ◌∙◌}
use Prim.Native.Nat.{ℕ, ◌+◌, ◌-◌, ◌≤◌, min}
use native.Mathlib.Omega.{arith}
use mathlib.Core.Bool.{Bool, false, not, cond, ◌||◌}
use mathlib.Core.List.{List, [], ◌∷◌, ◌++◌, append_assoc}
use lib.Dec.{ltb, eqb}
use lib.ListN.{length, take, drop, length-append}
use lib.Seq.{take_at, drop_at, take-take}
use borrow.Author.Tests.{le-ltb, eq-eqb, ne_eqb}
use Rattle.text.specs.declared.switches.Switches.{Switches}
use Rattle.reader.specs.Reading.{reads, max_text}
use Rattle.reader.specs.Content.{part}
use Rattle.reader.proofs.SpanLaws.{span_law}
use Rattle.editor.specs.Edit.{Lent, text_of, journal_of, splice, trailer_bytes, value_start, value_stop, corrected, trailer, entry, entry_of, with_text, no_room, entry_start, entry_new, entry_size, bad_entry, old_bytes, undone, undo_refusal, with_undo}
use Rattle.editor.specs.Book.{Correction, Room, book_text, book_journal}
use Rattle.editor.proofs.SpliceLaws.{length_part, splice_back, length_splice, length_with_text, take_with_text}
use Rattle.editor.proofs.EntryLaws.{length_trailer, trailer_start, trailer_new, trailer_size}
use Rattle.editor.proofs.BookLaws as B

module _ (sw : Switches) (room : Room) (first : List ℕ) where
  abbrev W : ℕ
  W = room.words

  abbrev text_of_law : List Correction → List ℕ
  text_of_law cs = book_text sw room first cs

  abbrev journal_of_law : List Correction → List ℕ
  journal_of_law cs = book_journal sw room first cs

  -- nothing in force: 17
  pub undo_none : (b : Lent) → B.Shared sw room first [] b → undo_refusal sw W b ≡ 17
  unfolding undo_refusal book_journal
  undo_none b sh =
      ap (λ (x : Bool). cond x 17 (cond (bad_entry (journal_of b) (text_of b)) 18 (cond (no_room (undone (journal_of b) (text_of b)) (length b.text)) 14 (cond (not (reads sw W (undone (journal_of b) (text_of b)))) 16 0))))
      (eq-eqb b.used.journal 0 sh.journal_used)

  -- the last correction in force: its entry is the journal's last, and what it puts back is the text before
  module _ (c : Correction) (cs : List Correction) (force : B.AllAccepted sw room first (c ∷ cs)) where
    abbrev from : ℕ
    from = value_start sw W c.node (text_of_law cs)

    abbrev to : ℕ
    to = value_stop sw W c.node (text_of_law cs)

    abbrev front : List ℕ
    front = journal_of_law cs ++ part from to (text_of_law cs)

    spanned : (from ≤ to) × (to ≤ length (text_of_law cs))
    unfolding B.AllAccepted value_start value_stop
    spanned = span_law sw W c.node (text_of_law cs) force.1

    short : length (text_of_law cs) ≤ max_text
    unfolding B.AllAccepted
    short = let h = B.in_room sw room first cs force.0 in omega arith

    new_short : from + (length c.replacement + (length (text_of_law cs) - to)) ≤ max_text
    unfolding B.AllAccepted book_text corrected
    new_short =
        let l = length_splice from to c.replacement (text_of_law cs) spanned.0 spanned.1 in
        let h = force.2 in
        omega arith

    journal_is : journal_of_law (c ∷ cs) ≡ front ++ trailer from (length c.replacement) (to - from)
    unfolding book_journal entry_of entry
    journal_is = sym (append_assoc (journal_of_law cs) (part from to (text_of_law cs)) (trailer from (length c.replacement) (to - from)))

    start_is : entry_start (journal_of_law (c ∷ cs)) ≡ from
    start_is =
        let h = spanned in
        let k = short in
        ap entry_start journal_is ∙ trailer_start front from (length c.replacement) (to - from) (omega arith)

    new_is : entry_new (journal_of_law (c ∷ cs)) ≡ length c.replacement
    new_is =
        let k = new_short in
        ap entry_new journal_is ∙ trailer_new front from (length c.replacement) (to - from) (omega arith)

    size_is : entry_size (journal_of_law (c ∷ cs)) ≡ to - from + trailer_bytes
    size_is =
        let h = spanned in
        let k = short in
        ap entry_size journal_is ∙ trailer_size front from (length c.replacement) (to - from) (omega arith)

    front_length : length front ≡ length (journal_of_law cs) + (to - from)
    front_length =
        length-append (journal_of_law cs) (part from to (text_of_law cs))
        ∙ ap (λ (n : ℕ). length (journal_of_law cs) + n) (length_part from to (text_of_law cs) spanned.0 spanned.1)

    journal_length : length (journal_of_law (c ∷ cs)) ≡ length (journal_of_law cs) + (to - from + trailer_bytes)
    journal_length =
        let a = ap length journal_is in
        let d = length-append front (trailer from (length c.replacement) (to - from)) in
        let e = length_trailer from (length c.replacement) (to - from) in
        let f = front_length in
        omega arith

    old_is : old_bytes (journal_of_law (c ∷ cs)) ≡ part from to (text_of_law cs)
    unfolding old_bytes
    old_is =
        let j : List ℕ = journal_of_law (c ∷ cs) in
        let l = journal_length in
        let z = size_is in
        let a : length j - entry_size j ≡ length (journal_of_law cs) = omega arith in
        let d : length j - trailer_bytes ≡ length (journal_of_law cs) + (to - from) = omega arith in
        let w : length (journal_of_law cs) + (to - from) - length (journal_of_law cs) ≡ to - from = omega arith in
        ap₂ (λ (x y : ℕ). part x y j) a d
        ∙ ap (λ (n : ℕ). take n (drop (length (journal_of_law cs)) j)) w
        ∙ ap (λ (k : List ℕ). take (to - from) (drop (length (journal_of_law cs)) k)) (journal_is ∙ append_assoc (journal_of_law cs) (part from to (text_of_law cs)) (trailer from (length c.replacement) (to - from)))
        ∙ ap (take (to - from)) (drop_at (journal_of_law cs) (part from to (text_of_law cs) ++ trailer from (length c.replacement) (to - from)) (length (journal_of_law cs)) refl)
        ∙ take_at (part from to (text_of_law cs)) (trailer from (length c.replacement) (to - from)) (to - from) (length_part from to (text_of_law cs) spanned.0 spanned.1)

    undone_is : undone (journal_of_law (c ∷ cs)) (text_of_law (c ∷ cs)) ≡ text_of_law cs
    unfolding undone book_text corrected
    undone_is =
        (λ i. splice (start_is i) (start_is i + new_is i) (old_is i) (text_of_law (c ∷ cs)))
        ∙ splice_back from to c.replacement (text_of_law cs) spanned.0 spanned.1

    entry_good : bad_entry (journal_of_law (c ∷ cs)) (text_of_law (c ∷ cs)) ≡ false
    unfolding bad_entry book_text corrected
    entry_good =
        let j : List ℕ = journal_of_law (c ∷ cs) in
        let t : List ℕ = text_of_law (c ∷ cs) in
        let l = journal_length in
        let z = size_is in
        let s = start_is in
        let n = new_is in
        let m = length_splice from to c.replacement (text_of_law cs) spanned.0 spanned.1 in
        let a : ltb (length j) trailer_bytes ≡ false = le-ltb (length j) trailer_bytes (omega arith) in
        let d : ltb (entry_size j) trailer_bytes ≡ false = le-ltb (entry_size j) trailer_bytes (omega arith) in
        let e : ltb (length j) (entry_size j) ≡ false = le-ltb (length j) (entry_size j) (omega arith) in
        let f : ltb (length t) (entry_start j + entry_new j) ≡ false = le-ltb (length t) (entry_start j + entry_new j) (omega arith) in
        (λ i. a i || d i || e i || f i)

    undone_lent : (b : Lent) → B.Shared sw room first (c ∷ cs) b → undone (journal_of b) (text_of b) ≡ text_of_law cs
    undone_lent b sh = ap₂ undone sh.journals sh.texts ∙ undone_is

    -- no refusal holds
    pub undo_some : (b : Lent) → B.Shared sw room first (c ∷ cs) b → undo_refusal sw W b ≡ 0
    unfolding undo_refusal no_room B.AllAccepted
    undo_some b sh =
        let new : List ℕ = undone (journal_of b) (text_of b) in
        let u : new ≡ text_of_law cs = undone_lent b sh in
        let l = journal_length in
        let k = sh.journal_used in
        let r = sh.text_room in
        let h = B.in_room sw room first cs force.0 in
        let lu : length new ≡ length (text_of_law cs) = ap length u in
        let a : eqb b.used.journal 0 ≡ false = ne_eqb b.used.journal 0 (λ z. omega arith) in
        let d : bad_entry (journal_of b) (text_of b) ≡ false = ap₂ bad_entry sh.journals sh.texts ∙ entry_good in
        let e : no_room new (length b.text) ≡ false = le-ltb (min (length b.text) max_text) (length new) (omega arith) in
        let f : not (reads sw W new) ≡ false = ap (λ (t : List ℕ). not (reads sw W t)) u ∙ ap not (B.in_reads sw room first cs force.0) in
        (λ i. cond (a i) 17 (cond (d i) 18 (cond (e i) 14 (cond (f i) 16 0))))

    pub with_undo_shared : (b : Lent) → B.Shared sw room first (c ∷ cs) b → B.Shared sw room first cs (with_undo b)
    unfolding with_undo text_of journal_of B.AllAccepted book_journal
    with_undo_shared b sh =
        let new : List ℕ = undone (journal_of b) (text_of b) in
        let u : new ≡ text_of_law cs = undone_lent b sh in
        let lu : length new ≡ length (text_of_law cs) = ap length u in
        let l = journal_length in
        let z : entry_size (journal_of b) ≡ to - from + trailer_bytes = ap entry_size sh.journals ∙ size_is in
        let k = sh.journal_used in
        let kf = sh.journal_fits in
        let uf = sh.text_fits in
        let r = sh.text_room in
        let h = B.in_room sw room first cs force.0 in
        let n : length new ≤ length b.text = omega arith in
        let lt : length (with_text b.used.text new b.text) ≡ length b.text = length_with_text b.used.text new b.text uf n in
        let kn : b.used.journal - entry_size (journal_of b) ≡ length (journal_of_law cs) = omega arith in
        let kl : length (journal_of_law cs) ≤ b.used.journal = omega arith in
        record {
          text_room = lt ∙ r;
          journal_room = sh.journal_room;
          text_fits = omega arith;
          journal_fits = omega arith;
          text_used = lu;
          journal_used = kn;
          texts = take_with_text b.used.text new b.text ∙ u;
          journals =
              ap (λ (m : ℕ). take m b.journal) kn
              ∙ sym (take-take (length (journal_of_law cs)) b.used.journal b.journal kl)
              ∙ ap (take (length (journal_of_law cs))) sh.journals
              ∙ take_at (journal_of_law cs) (entry_of sw W c.node c.replacement (text_of_law cs)) (length (journal_of_law cs)) refl;
          force = force.0;
        }
