-- Which texts have a summary, which node 21 names, and that the counts add up.
-- Assumes nothing.
use Rattle.std.specs.Prelude.{Ok, Err}
use mathlib.Core.Path.{◌≡◌, refl, sym, ap, ◌∙◌, subst}
use Prim.Native.Nat.{ℕ, zero, suc, ◌+◌, ◌≤◌, ◌<◌}
use native.Mathlib.Omega.{arith}
use mathlib.Core.Bool.{Bool, true, false, not}
use mathlib.Core.Option.{Option, none, some}
use mathlib.Core.List.{List, [], ◌∷◌}
use lib.Dec.{eqb}
use borrow.Author.Tests.{eqb-true, eq-eqb, ne_eqb, not-false}
use Rattle.text.specs.declared.switches.Switches.{Switches}
use Rattle.text.specs.Bytes.{ascii}
use Rattle.text.proofs.Choice.{cond-case, cond-true, cond-false}
use Rattle.reader.specs.Tree.{Tree, leaf, branch, Forest, nil, cons, size, count}
use Rattle.reader.specs.Syntax.{Outcome, taken, refused}
use Rattle.reader.specs.Reading.{reading, node_count, table_of, word_of}
use Rattle.reader.proofs.NumberBound.{NumberWithin, number_law}
use Rattle.nodes.specs.Nodes.{kind_of, children_of, has_key, Numbered, numbered, first_that, nth, member, element}
use Rattle.nodes.proofs.WordLaws.{some_is, none_is, scalar_high, own_word, word_count}
use Rattle.nodes.proofs.NodeLaws.{root_node, node_taken}
use Rattle.nodes.proofs.KeyLaws.{only_member}
use Rattle.summary.specs.Summary.{member_height, record_height, record_heights, counts_of, measured_heights, summary_of, of_heights, is_object, is_array, of_records, of_root, summary}
use Rattle.summary.specs.declared.summary.Counts.{Counts}
use Rattle.summary.specs.declared.summary.Summary.{Summary}
use Rattle.std.specs.declared.result.Result.{Result}
use Rattle.text.specs.Refusal.{Refusal}
use Rattle.summary.proofs.RecordLaws.{is_other, any_number}
use Rattle.summary.proofs.SummaryLaws.{counts_add_up, elements, other_root, array_root}
use Rattle.summary.proofs.AnswerLaws.{records_of, heights_length, OfRoot, of_root_law}
use Rattle.theorems.specs.Summary.{refused_at, counts_in, Records, FirstOther, SummariesAnswered, RecordsRead, CountsAddUp}

-- ---- the first that passes a test, and the i-th

module _ (p : Tree → Bool) where
  -- if none passes, the i-th does not
  none_passes : (n : ℕ) (f : Forest) (i : ℕ) (c : Numbered) → first_that p n f ≡ none → nth i n f ≡ some c → p c.value ≡ false
  unfolding first_that nth
  none_passes n nil i c e q = none_is q
  none_passes n (cons t f) zero c e q =
      cond-case (λ (o : Option Numbered). o ≡ none) (p c.value ≡ false) (p t) e (λ _ g. none_is (sym g))
      (λ z _. ap (λ (d : Numbered). p d.value) (sym (some_is q)) ∙ z)
  none_passes n (cons t f) (suc i) c e q =
      cond-case (λ (o : Option Numbered). o ≡ none) (p c.value ≡ false) (p t) e (λ _ g. none_is (sym g)) (λ _ g. none_passes (n + size t) f i c g q)

  all_fail : (n : ℕ) (f : Forest) → ((i : ℕ) (c : Numbered) → nth i n f ≡ some c → p c.value ≡ false) → first_that p n f ≡ none
  unfolding first_that nth
  all_fail n nil h = refl
  all_fail n (cons t f) h =
      cond-false (p t) (some (numbered n t)) (first_that p (n + size t) f) (h 0 (numbered n t) refl) ∙ all_fail (n + size t) f (λ i c q. h (suc i) c q)

  first_passes : (n : ℕ) (f : Forest) (i : ℕ) (c : Numbered) → nth i n f ≡ some c → p c.value ≡ true
      → ((j : ℕ) (d : Numbered) → j < i → nth j n f ≡ some d → p d.value ≡ false) → first_that p n f ≡ some c
  unfolding first_that nth
  first_passes n nil i c q y h = none_is q
  first_passes n (cons t f) zero c q y h =
      cond-true (p t) (some (numbered n t)) (first_that p (n + size t) f) (ap (λ (d : Numbered). p d.value) (some_is q) ∙ y) ∙ q
  first_passes n (cons t f) (suc i) c q y h =
      cond-false (p t) (some (numbered n t)) (first_that p (n + size t) f) (h 0 (numbered n t) (omega arith) refl)
      ∙ first_passes (n + size t) f i c q y (λ j d l r. h (suc j) d (omega arith) r)

-- ---- by kind

object_kind : (t : Tree) → is_other t ≡ false → kind_of t ≡ 1
unfolding is_object
object_kind t e = eqb-true (kind_of t) 1 (not-false (eqb (kind_of t) 1) e)

kind_object : (t : Tree) → kind_of t ≡ 1 → is_other t ≡ false
unfolding is_object
kind_object t e = ap not (eq-eqb (kind_of t) 1 e)

kind_other : (t : Tree) → (kind_of t ≡ 1 → ⊥) → is_other t ≡ true
unfolding is_object
kind_other t n = ap not (ne_eqb (kind_of t) 1 n)

-- ---- the counts in an answer

with_counts : (c : Counts) (l : List ℕ) → counts_in (Ok (summary_of c l)) ≡ some c
unfolding counts_in summary_of
with_counts c [] = refl
with_counts c (u ∷ l) = refl

-- ---- the answer

-- the number and the place of a refusal
number_of : Result Summary Refusal → ℕ
number_of (Ok a) = 0
number_of (Err f) = f.number

place_of : Result Summary Refusal → ℕ
place_of (Ok a) = 0
place_of (Err f) = f.place

module _ (sw : Switches) (text : List ℕ) where
  by_element : (t : Tree) (i : ℕ) (c : Numbered) → FirstOther t i c → elements sw text t ≡ refused_at 21 c.number
  unfolding of_records element
  by_element t i c F =
      ap (of_records sw text (children_of t))
      (first_passes is_other 1 (children_of t) i c F.there (kind_other c.value F.other) (λ j d l q. kind_object d.value (F.before j d l q)))

  by_records : (t : Tree) → Records t → elements sw text t ≡ Ok (of_heights (record_heights sw text (children_of t)))
  unfolding of_records element
  by_records t R = ap (of_records sw text (children_of t)) (all_fail is_other 1 (children_of t) (λ i c q. kind_object c.value (R.objects i c q)))

  -- a root's summary that is no refusal is that of its records
  module _ (a : Result Summary Refusal) (summarized : (number place : ℕ) → refused_at number place ≡ a → ⊥) where
    of_records_law : (t : Tree) (o : Option Numbered) → first_that is_other 1 (children_of t) ≡ o → of_records sw text (children_of t) o ≡ a
        → ((i : ℕ) (d : Numbered) → element i 0 t ≡ some d → kind_of d.value ≡ 1) × (Ok (of_heights (record_heights sw text (children_of t))) ≡ a)
    unfolding of_records element
    of_records_law t none q e = ((λ i d r. object_kind d.value (none_passes is_other 1 (children_of t) i d q r)), e)
    of_records_law t (some c) q e = absurd (summarized 21 c.number e)

    pub of_array : (t : Tree) → of_root sw text t ≡ a → Records t × (Ok (of_heights (record_heights sw text (children_of t))) ≡ a)
    unfolding of_root is_array
    of_array t e =
        cond-case (λ (s : Result Summary Refusal). s ≡ a) (Records t × (Ok (of_heights (record_heights sw text (children_of t))) ≡ a)) (eqb (kind_of t) 2) e
        (λ z f.
        let r = of_records_law t (first_that is_other 1 (children_of t)) refl f in
        (record { array = eqb-true (kind_of t) 2 z; objects = r.0 }, r.1))
        (λ _ f. absurd (summarized 21 0 f))

  pub counted_root : (o : Outcome) (c : Counts) → counts_in (summary sw text o) ≡ some c
      → (t : Tree) × (o ≡ taken t) × Records t × (c ≡ counts_of (record_heights sw text (children_of t)))
  unfolding summary counts_in of_heights
  counted_root (taken t) c e =
      let hs = record_heights sw text (children_of t) in
      let r = of_array (of_root sw text t) (λ number place f. none_is (ap counts_in f ∙ e)) t refl in
      (t, refl, r.0, some_is (sym e ∙ ap counts_in (sym r.1) ∙ with_counts (counts_of hs) (measured_heights hs)))
  counted_root (refused number place) c e = none_is e

  -- ---- its numbers

  root_named : (t : Tree) (number place : ℕ) → of_root sw text t ≡ refused_at number place → (number ≡ 21) × (place < size t)
  unfolding OfRoot
  root_named t number place e = subst (OfRoot (size t)) e (of_root_law sw text t)

  named_node : (o : Outcome) (place : ℕ) → NumberWithin o → summary sw text o ≡ refused_at 21 place → place < node_count o
  unfolding summary node_count NumberWithin number_of
  named_node (taken t) place n e = (root_named t 21 place e).1
  named_node (refused r p) place n e =
      let q : r ≡ 21 = ap number_of e in
      let b = n.1 in
      absurd (omega arith)

  named_text : (o : Outcome) (number place : ℕ) → NumberWithin o → summary sw text o ≡ refused_at number place → (number ≡ 21 → ⊥)
      → (o ≡ refused number place) × (1 ≤ number) × (number ≤ 10)
  unfolding summary NumberWithin number_of place_of
  named_text (taken t) number place n e not = absurd (not (root_named t number place e).0)
  named_text (refused r p) number place n e not =
      let q : r ≡ number = ap number_of e in
      let a = n.0 in
      let b = n.1 in
      ((λ i. refused (ap number_of e i) (ap place_of e i)), omega arith, omega arith)

  -- every refusal has a number
  pub some_number : (o : Outcome) (number place : ℕ) → NumberWithin o → summary sw text o ≡ refused_at number place → 1 ≤ number
  unfolding summary NumberWithin number_of
  some_number (taken t) number place n e = let q = (root_named t number place e).0 in omega arith
  some_number (refused r p) number place n e =
      let q : r ≡ number = ap number_of e in
      let a = n.0 in
      omega arith

pub summaries_answered : SummariesAnswered
unfolding SummariesAnswered summary of_heights
summaries_answered sw words text =
    record {
      refused_text = λ number place e. ap (summary sw text) e;
      other_root = λ tree e n. ap (summary sw text) e ∙ sym (other_root sw text tree n);
      other_element = λ tree e k i c F. ap (summary sw text) e ∙ sym (array_root sw text tree k) ∙ by_element sw text tree i c F;
      summarized = λ tree e R. (
        counts_of (record_heights sw text (children_of tree)),
        ap (λ (o : Outcome). counts_in (summary sw text o)) e ∙ ap counts_in (sym (array_root sw text tree R.array) ∙ by_records sw text tree R)
            ∙ with_counts (counts_of (record_heights sw text (children_of tree))) (measured_heights (record_heights sw text (children_of tree))),
      );
      only = λ counts e. let r = counted_root sw text (reading sw words text) counts e in (r.0, r.1, r.2);
      of_a_node = λ place e. let r = number_law sw words text in named_node sw text (reading sw words text) place r e;
      of_the_text = λ number place e not. named_text sw text (reading sw words text) number place (number_law sw words text) e not;
    }

-- ---- the height of a record

-- whichever number the object is given
by_number : (sw : Switches) (text : List ℕ) (n : ℕ) (t : Tree) → record_height sw text t ≡ member_height (member sw text (ascii "height_mm") n t)
unfolding record_height member
by_number sw text n t = any_number (has_key sw text (ascii "height_mm")) 1 (suc n) (children_of t)

pub records_read : RecordsRead
unfolding RecordsRead member_height member element
records_read sw words text n t e k =
    let r = node_taken n (reading sw words text) t e in
    record {
      there = λ i c q has. by_number sw text n t ∙ ap member_height (only_member sw words text r.0 r.1 n t r.2 k i c (ascii "height_mm") q has);
      absent = λ h. by_number sw text n t ∙ ap member_height (all_fail (has_key sw text (ascii "height_mm")) (suc n) (children_of t) h);
    }

-- ---- they add up

array_word : (t : Tree) → kind_of t ≡ 2 → own_word t ≡ count (children_of t)
unfolding kind_of children_of own_word
array_word (leaf h s) e = let q = scalar_high s in absurd (omega arith)
array_word (branch h k f) e = refl

pub counts_added : CountsAddUp
unfolding CountsAddUp
counts_added sw words text c e =
    let r = counted_root sw text (reading sw words text) c e in
    let t = r.0 in
    let hs = record_heights sw text (children_of t) in
    ap records_of r.3 ∙ counts_add_up hs ∙ heights_length sw text (children_of t)
    ∙ sym (ap (λ (o : Outcome). word_of (table_of words o) 0 9) r.1 ∙ word_count (table_of words (taken t)) 0 t (root_node words t) ∙ array_word t r.2.array)
