-- Req 07 for calls that keep their contracts.
-- Assumes nothing.
use Rattle.std.specs.Prelude.{Ok}
use mathlib.Core.Path.{◌≡◌, refl, sym, ap, ◌∙◌, subst}
use Prim.Native.Nat.{ℕ, ◌<◌}
use native.Mathlib.Omega.{arith}
use mathlib.Core.Bool.{true}
use mathlib.Core.List.{List}
use Rattle.text.specs.declared.switches.Switches.{Switches}
use Rattle.text.specs.Switches.{present_edition}
use Rattle.reader.specs.Syntax.{Outcome, taken, refused}
use Rattle.reader.specs.Reading.{reading, reads, is_taken, node_count, table_of, answer_of}
use Rattle.reader.proofs.NumberBound.{NumberWithin, number_law}
use Rattle.reader.proofs.SizeLaws.{taken_is, taken_nodes}
use Rattle.duper.specs.Numbers.{packed, read_number}
use Rattle.theorems.specs.Insertion.{Insertion, inserted_at, with_gaps, CommentsKept, SameData, Kept}
use Rattle.theorems.specs.Nesting.{InParent, Nested}
use Rattle.theorems.specs.Calls.{CommentsKeptOfCode, NestedOfCode, CommentsKeptOfCalls, NestedOfCalls}
use Rattle.theorems.proofs.Insertion.CommentsLaw.{comments_law}
use Rattle.theorems.proofs.Nesting.NestedLaw.{nested_law}

-- ---- answers of texts that are taken

taken_told : (o : Outcome) → is_taken o ≡ true → answer_of o ≡ Ok (node_count o)
unfolding answer_of is_taken node_count
taken_told (taken t) e = refl
taken_told (refused k p) e = cc

taken_number : (o : Outcome) → is_taken o ≡ true → read_number o ≡ node_count o
unfolding read_number is_taken node_count
taken_number (taken t) e = refl
taken_number (refused k p) e = cc

-- no refusal is 0, so a number below 4294967296 is no refusal's
number_taken : (o : Outcome) → NumberWithin o → read_number o < 4294967296 → is_taken o ≡ true
unfolding packed read_number NumberWithin is_taken
number_taken (taken t) w h = refl
number_taken (refused k p) w h = let l = w.0 in absurd (omega arith)

-- ---- tables that calls leave

-- the data of two tables that equal the readings', under a count that is the first one's
data_of : (sw : Switches) (words : ℕ) (text : List ℕ) (added : List Insertion) (nodes : ℕ) (old new : List ℕ) → Kept sw words text added
    → nodes ≡ node_count (reading sw words text) → old ≡ table_of words (reading sw words text) → new ≡ table_of words (reading sw words (with_gaps added text))
    → SameData (inserted_at added) nodes old new
data_of sw words text added nodes old new k n a b =
    subst (λ (x : ℕ). SameData (inserted_at added) x old new) (sym n)
    (subst (λ (x : List ℕ). SameData (inserted_at added) (node_count (reading sw words text)) x new) (sym a)
    (subst (SameData (inserted_at added) (node_count (reading sw words text)) (table_of words (reading sw words text))) (sym b) k.same_data))

nested_of : (sw : Switches) (words : ℕ) (text : List ℕ) (nodes node : ℕ) (table : List ℕ) → nodes ≡ node_count (reading sw words text)
    → table ≡ table_of words (reading sw words text) → 0 < node → node < nodes → InParent table node
unfolding Nested
nested_of sw words text nodes node table n a p q =
    subst (λ (x : List ℕ). InParent x node) (sym a) (nested_law sw words text node p (subst (λ (x : ℕ). node < x) n q))

-- ---- the code's own calls

pub comments_law_of_code : CommentsKeptOfCode
unfolding CommentsKeptOfCode CommentsKept reads
comments_law_of_code sw words text added a b nodes e m l =
    let told = sym a.answer_is ∙ e in
    let n = taken_nodes (reading sw words text) nodes told in
    let k = comments_law sw words text added (taken_is (reading sw words text) nodes told) m l in (
      b.answer_is ∙ taken_told (reading sw words (with_gaps added text)) k.still ∙ ap Ok (k.as_many ∙ sym n),
      data_of sw words text added nodes a.table b.table k n a.table_is b.table_is,
    )

pub nested_law_of_code : NestedOfCode
unfolding NestedOfCode
nested_law_of_code sw words text a nodes node e p q =
    nested_of sw words text nodes node a.table (taken_nodes (reading sw words text) nodes (sym a.answer_is ∙ e)) a.table_is p q

-- ---- the calls for C and Rust

module _ (words : ℕ) (text : List ℕ) (number : ℕ) (is_number : number ≡ read_number (reading present_edition words text)) (low : number < 4294967296) where
  told_taken : is_taken (reading present_edition words text) ≡ true
  told_taken =
      number_taken (reading present_edition words text) (number_law present_edition words text) (subst (λ (x : ℕ). x < 4294967296) is_number low)

  told_nodes : number ≡ node_count (reading present_edition words text)
  told_nodes = is_number ∙ taken_number (reading present_edition words text) told_taken

pub comments_law_of_calls : CommentsKeptOfCalls
unfolding CommentsKeptOfCalls CommentsKept reads
comments_law_of_calls words text added a b h m l =
    let n = told_nodes words text a.number a.number_is h in
    let k = comments_law present_edition words text added (told_taken words text a.number a.number_is h) m l in (
      b.number_is ∙ taken_number (reading present_edition words (with_gaps added text)) k.still ∙ k.as_many ∙ sym n,
      data_of present_edition words text added a.number a.table b.table k n a.table_is b.table_is,
    )

pub nested_law_of_calls : NestedOfCalls
unfolding NestedOfCalls
nested_law_of_calls words text a node h p q =
    nested_of present_edition words text a.number node a.table (told_nodes words text a.number a.number_is h) a.table_is p q
