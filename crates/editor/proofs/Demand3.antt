-- Demand 3, proved of the definitions: by induction on the list of calls, with what the book and the buffers share (BookLaws).
-- Assumes nothing.
use mathlib.Core.Path.{◌≡◌, refl, sym, ap, ap₂, ◌∙◌, subst}
use Prim.Native.Nat.{ℕ}
use native.Mathlib.Omega.{arith}
use mathlib.Core.Bool.{true}
use mathlib.Core.List.{List, [], ◌∷◌, ◌++◌}
use lib.ListN.{length, take, replicate}
use lib.Seq.{length-take-le}
use Rattle.text.specs.declared.switches.Switches.{Switches}
use Rattle.reader.specs.Reading.{reading, reads, table_of}
use Rattle.editor.specs.Edit.{Lent, Report, Result, text_of, journal_of, result_of, decided, undo_refusal, with_undo, undo}
use Rattle.editor.specs.Book.{Correction, Call, correction, undoing, Room, Seen, book_text, book_journal, told, book_after, book_number, in_force, book, handed_on, seen_of, called, calls, after, room_of, Start, Demand3}
use Rattle.text.proofs.Choice.{is_true}
use Rattle.editor.proofs.ReadLaws.{reads_short}
use Rattle.editor.proofs.BookLaws.{AllAccepted, Shared, Same, seen_told, shared_decided, correct_same}
use Rattle.editor.proofs.UndoLaws.{undo_none, undo_some, with_undo_shared}

-- ---- every call, and every list of calls

module _ (sw : Switches) (room : Room) (first : List ℕ) where
  abbrev W : ℕ
  W = room.words

  call_same : (cs : List Correction) (b : Lent) (k : Call) → Shared sw room first cs b
      → Same sw room first cs b (book_number sw room first cs k) (book_after sw room first cs k) (called sw W b k)
  unfolding book_number book_after called undo decided result_of handed_on
  call_same cs b (correction c) sh = correct_same sw room first cs b c sh
  call_same [] b undoing sh =
      let p : undo sw W b ≡ result_of sw W 17 0 b =
      shared_decided sw room first [] b (undo_refusal sw W b) (with_undo b) sh ∙ ap (λ (n : ℕ). decided sw W b n (with_undo b)) (undo_none sw room first b sh) in
      subst (λ (res : Result). Same sw room first [] b 17 [] res) (sym p) (seen_told sw room first [] b 17 sh, sh)
  call_same (c ∷ cs) b undoing sh =
      let p : undo sw W b ≡ result_of sw W 0 0 (with_undo b) =
      shared_decided sw room first (c ∷ cs) b (undo_refusal sw W b) (with_undo b) sh ∙ ap (λ (n : ℕ). decided sw W b n (with_undo b)) (undo_some sw room first c cs sh.force b sh) in
      let new : Shared sw room first cs (with_undo b) = with_undo_shared sw room first c cs sh.force b sh in
      subst (λ (res : Result). Same sw room first (c ∷ cs) b 0 cs res) (sym p) (seen_told sw room first cs (with_undo b) 0 new, new)

  all_same : (cs : List Correction) (b : Lent) (ks : List Call) → Shared sw room first cs b → calls sw W b ks ≡ book sw room first cs ks
  unfolding calls book
  all_same cs b [] sh = refl
  all_same cs b (k ∷ ks) sh =
      let one = call_same cs b k sh in
      ap₂ ◌∷◌ one.0 (all_same (book_after sw room first cs k) (handed_on (called sw W b k)) ks one.1)

  all_shared : (cs : List Correction) (b : Lent) (ks : List Call) → Shared sw room first cs b
      → Shared sw room first (in_force sw room first cs ks) (after sw W b ks)
  unfolding in_force after
  all_shared cs b [] sh = sh
  all_shared cs b (k ∷ ks) sh = all_shared (book_after sw room first cs k) (handed_on (called sw W b k)) ks (call_same cs b k sh).1

  -- one list after another
  force_append : (cs : List Correction) (ks js : List Call) → in_force sw room first cs (ks ++ js) ≡ in_force sw room first (in_force sw room first cs ks) js
  unfolding in_force
  force_append cs [] js = refl
  force_append cs (k ∷ ks) js = force_append (book_after sw room first cs k) ks js

  -- as many undos as there are corrections in force
  force_undone : (cs : List Correction) → in_force sw room first cs (replicate (length cs) undoing) ≡ []
  unfolding in_force book_after
  force_undone [] = refl
  force_undone (c ∷ cs) = force_undone cs

-- ---- the start

start_shared : (sw : Switches) (words : ℕ) (b : Lent) → Start sw words b → Shared sw (room_of words b) (text_of b) [] b
unfolding room_of text_of journal_of book_text book_journal AllAccepted
start_shared sw words b f =
    let r : reads sw words (text_of b) ≡ true = is_true (reads sw words (text_of b)) f.first_reads in
    let s = reads_short sw words (text_of b) r in
    let w = f.within in
    let l : length (text_of b) ≡ b.used.text = length-take-le b.used.text b.text w in
    let z = f.empty in
    record {
      text_room = refl;
      journal_room = refl;
      text_fits = w;
      journal_fits = omega arith;
      text_used = sym l;
      journal_used = z;
      texts = refl;
      journals = ap (λ (n : ℕ). take n b.journal) z;
      force = (omega arith, r);
    }

-- ---- demand 3

-- Document 00's sentences, and where each stands in `Demand3` (specs/Book.antt):
-- "Start with a text that reads and an empty journal."  `Start`, on buffers of any lengths that hold any bytes past the lengths in use.
-- "Take any list of corrections and undos, refused ones included, with any node numbers and replacements."  `ks`, any list of `Call`.
-- "Each call gets the text, journal and table buffers as the last one left them, and the lengths last result_of. Nobody else writes them
--   meanwhile."  `calls`, by `handed_on`.
-- "After every such list the text is the first text with the corrections in force made in order"  the `text` that `told` gives, `book_text`.
-- "and the table that its last call left is that text's reading."  the `table` that `told` gives: of the last call, as of each before it.
-- "In force are the accepted ones not undone; an undo takes back the latest of them."  `book_after`.
-- "Each answer, and the journal in use, are those of document 01's plain book."  the `answer` and the `journal` that `told` gives.
-- "A correction is refused exactly when document 01 says"  the answer's number is `book_refusal`; "an undo exactly when none is in force"
--   it is `book_number` (and `undo_refused` below). "Undoing all in force gives back the first text byte for byte."  `undo_all` below.
--
-- Document 01's sentences on the plain book:
-- "is fed the first text, the lengths of the lent buffers and, for each call, whether it corrects or undoes, with a correction's node
--   number and replacement; never an answer"  the arguments of `book`. "It keeps the corrections in force, each a node number and a
--   replacement; at first none."  its list of `Correction`, at first `[]`.
-- "Its text is the first text with these made in order: each replaces the bytes from word 2 to word 3 of its node, in the reading of the
--   text so far."  `book_text`, by `corrected`. "A correction's entry is the bytes it replaces, then the trailer above."  `entry_of`.
-- The three points on refusals:  `book_refusal`, `book_number`, `book_after`. "Each answer is .. The journal in use is these entries in
--   order."  `told`. "All this is a single claim about the list, not one for each call."  one equation between two lists, with an element
--   for each call.
pub demand_3 : (sw : Switches) → Demand3 sw
unfolding Demand3 room_of
demand_3 sw words b start ks = all_same sw (room_of words b) (text_of b) [] b ks (start_shared sw words b start)

-- ---- what follows of the buffers and of the next call, after any list of calls

module _ (sw : Switches) (words : ℕ) (b : Lent) where
  abbrev room : Room
  room = room_of words b

  -- the corrections in force after a list
  abbrev pub force : List Call → List Correction
  force ks = in_force sw room (text_of b) [] ks

  -- the buffers and lengths after a list
  abbrev pub lent : List Call → Lent
  lent ks = after sw words b ks

  module _ (start : Start sw words b) (ks : List Call) where
    lent_shared : Shared sw room (text_of b) (force ks) (lent ks)
    unfolding room_of
    lent_shared = all_shared sw room (text_of b) [] b ks (start_shared sw words b start)

    next_same : (k : Call)
        → Same sw room (text_of b) (force ks) (lent ks) (book_number sw room (text_of b) (force ks) k) (book_after sw room (text_of b) (force ks) k)
        (called sw words (lent ks) k)
    unfolding room_of
    next_same k = call_same sw room (text_of b) (force ks) (lent ks) k lent_shared

    -- "After every such list the text is the first text with the corrections in force made in order", the empty list included
    pub text_after : text_of (lent ks) ≡ book_text sw room (text_of b) (force ks)
    text_after = lent_shared.texts

    pub journal_after : journal_of (lent ks) ≡ book_journal sw room (text_of b) (force ks)
    journal_after = lent_shared.journals

    -- "the table that its last call left is that text's reading"
    pub table_next : (k : Call)
        → (called sw words (lent ks) k).table ≡ table_of words (reading sw words (text_of (handed_on (called sw words (lent ks) k))))
    unfolding room_of told seen_of
    table_next k =
        ap (λ (s : Seen Report). s.table) (next_same k).0
        ∙ ap (λ (t : List ℕ). table_of words (reading sw words t)) (sym (next_same k).1.texts)

    -- "A correction is refused exactly when document 01 says": the number is the book's
    pub number_next : (k : Call) → (called sw words (lent ks) k).answer.number ≡ book_number sw room (text_of b) (force ks) k
    unfolding told seen_of
    number_next k = ap (λ (s : Seen Report). s.answer.number) (next_same k).0

    -- "an undo exactly when none is in force": it is refused with 17 then
    pub undo_refused : force ks ≡ [] → (called sw words (lent ks) undoing).answer.number ≡ 17
    unfolding book_number
    undo_refused e = number_next undoing ∙ ap (λ (cs : List Correction). book_number sw room (text_of b) cs undoing) e

    -- and in no other case
    pub undo_refused_only : ((called sw words (lent ks) undoing).answer.number ≡ 0 → ⊥) → force ks ≡ []
    unfolding book_number
    undo_refused_only refusal = go (force ks) refl
      where
        go : (cs : List Correction) → force ks ≡ cs → cs ≡ []
        go [] e = refl
        go (c ∷ cs) e = absurd (refusal (number_next undoing ∙ ap (λ (ds : List Correction). book_number sw room (text_of b) ds undoing) e))

  -- "Undoing all in force gives back the first text byte for byte"
  pub undo_all : Start sw words b → (ks : List Call) → text_of (lent (ks ++ replicate (length (force ks)) undoing)) ≡ text_of b
  unfolding book_text
  undo_all start ks =
      let undos : List Call = replicate (length (force ks)) undoing in
      let none : force (ks ++ undos) ≡ [] = force_append sw room (text_of b) [] ks undos ∙ force_undone sw room (text_of b) (force ks) in
      text_after start (ks ++ undos) ∙ ap (book_text sw room (text_of b)) none
