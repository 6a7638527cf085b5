-- Rows of the table: the words that the code writes are those of the tree, one row after another and out of order.
-- Assumes nothing.
use mathlib.Core.Path.{◌≡◌, refl, ap, sym, ◌∙◌}
use mathlib.Core.List.{List, [], ◌∷◌, ◌++◌}
use mathlib.Core.Option.{Option, none, some}
use Prim.Native.Nat.{ℕ, zero, suc, ◌+◌, ◌*◌, ◌<◌, ◌≤◌}
use native.Mathlib.Numerals.{add-one}
use native.Mathlib.Omega.{arith}
use lib.ListN.{length, set, get_or}
use lib.Seq.{sets}
use borrow.Author.Tests.{ne_eqb}
use Rattle.reader.specs.declared.tree.Kind.{Kind}
use Rattle.reader.specs.declared.tree.Words.{Words}
use Rattle.reader.specs.declared.tree.Label as CL
use Rattle.reader.specs.Tree.{Span, Scalar, text, bytes, integer, decimal, false_value, true_value, null_value, Tree, leaf, branch, Forest, snoc, count, size, sizes, head_of, span_words, head_words, kind_number, scalar_number, scalar_words, rows, rows_all, node_words}
use Rattle.reader.specs.Syntax.{head_by, stop_at, with_stop}
use Rattle.reader.specs.Kinds.{number_of_kind, container_kind}
use Rattle.reader.specs.Internal.Tokens.{leaf_of}
use Rattle.reader.specs.Internal.Values.{span_at, label_of, SpansApart, row_words}
use Rattle.reader.proofs.KindLaws.{container_says, scalar_says}
use Rattle.reader.proofs.TableLaws.{length_rows, length_rows_all}
use Rattle.reader.proofs.SizeLaws.{rows_all_snoc}
use Rattle.text.proofs.ListLaws.{set_again, sets_append, set_before_sets, sets_swap, get_d_in_sets}
use Rattle.reader.proofs.KeyWalk.{RowSays}

-- ---- words

-- the two words of a span
span_words_law : (a e : ℕ) → (e ≡ 0 → a ≡ 0) → span_words (span_at a e) ≡ a ∷ e ∷ []
unfolding span_words span_at
span_words_law a zero h = let z : a ≡ 0 = h refl in ap (λ (x : ℕ). x ∷ 0 ∷ []) (sym z)
span_words_law a (suc e) h = let n : suc e ≡ 0 → ⊥ = λ q. omega arith in rw (ne_eqb (suc e) 0 n)

-- a scalar has three words of its own
three : (v : Scalar) → scalar_words v ≡ get_or (scalar_words v) 0 0 ∷ get_or (scalar_words v) 1 0 ∷ get_or (scalar_words v) 2 0 ∷ []
unfolding scalar_words
three (text t c) = refl
three (bytes t c) = refl
three (integer z) = refl
three (decimal minus m q) = refl
three false_value = refl
three true_value = refl
three null_value = refl

module _ (p : CL.Label) (ok : SpansApart p) where
  -- words 0 to 8
  head_words_law : (kind parent stop next : ℕ)
      → head_words kind parent (head_by (label_of p) stop) next ≡ kind ∷ parent ∷ p.start ∷ stop ∷ p.key.start ∷ p.key.stop ∷ p.name.start ∷ p.name.stop ∷ next ∷ []
  unfolding head_words head_by label_of
  head_words_law kind parent stop next =
      λ i. kind ∷ parent ∷ p.start ∷ stop ∷ (span_words_law p.key.start p.key.stop ok.keys i ++ (span_words_law p.name.start p.name.stop ok.names i ++ (next ∷ [])))

  pub leaf_row : (parent n stop : ℕ) (v : Scalar) (l : Words) → l ≡ leaf_of v
      → row_words (number_of_kind l.kind) parent p stop (n + 1) l.low l.high l.extra ≡ rows parent n (leaf (head_by (label_of p) stop) v)
  unfolding rows leaf_of
  leaf_row parent n stop v l e =
      ap (λ (x : Words). row_words (number_of_kind x.kind) parent p stop (n + 1) x.low x.high x.extra) e
      ∙ ap (λ (k : ℕ). row_words k parent p stop (n + 1) (get_or (scalar_words v) 0 0) (get_or (scalar_words v) 1 0) (get_or (scalar_words v) 2 0)) (scalar_says v)
      ∙ ap (λ (k : ℕ). row_words (scalar_number v) parent p stop k (get_or (scalar_words v) 0 0) (get_or (scalar_words v) 1 0) (get_or (scalar_words v) 2 0)) (add-one n)
      ∙ sym (λ i. head_words_law (scalar_number v) parent stop (suc n) i ++ three v i)

  -- a container's row, and its children's rows after it
  pub branch_row : (parent n stop m z : ℕ) (kind : Kind) (ts : Forest) → m ≡ n + 1 + sizes ts → z ≡ count ts
      → row_words (kind_number kind) parent p stop m z 0 0 ++ rows_all n (n + 1) ts ≡ rows parent n (branch (head_by (label_of p) stop) kind ts)
  unfolding rows
  branch_row parent n stop m z kind ts g c =
      let e : m ≡ suc n + sizes ts = omega arith in
      (λ i. row_words (kind_number kind) parent p stop (e i) (c i) 0 0 ++ rows_all n (add-one n i) ts)
      ∙ sym (λ i. head_words_law (kind_number kind) parent stop (suc n + sizes ts) i ++ (count ts ∷ 0 ∷ 0 ∷ rows_all n (suc n) ts))

-- ---- the container's loop

-- one child more
pub rows_child : (tin tab out : List ℕ) (n m : ℕ) (ts : Forest) (t : Tree) → m ≡ n + 1 + sizes ts → tab ≡ sets tin (node_words * (n + 1)) (rows_all n (n + 1) ts)
    → out ≡ sets tab (node_words * m) (rows n m t) → out ≡ sets tin (node_words * (n + 1)) (rows_all n (n + 1) (snoc ts t))
rows_child tin tab out n m ts t g w v =
    let k : node_words * m ≡ node_words * (n + 1) + length (rows_all n (n + 1) ts) = omega (arith, length_rows_all n (n + 1) ts) in
    v
    ∙ ap (λ (l : List ℕ). sets l (node_words * m) (rows n m t)) w
    ∙ (λ i. sets (sets tin (node_words * (n + 1)) (rows_all n (n + 1) ts)) (k i) (rows n (g i) t))
    ∙ sym (sets_append tin (node_words * (n + 1)) (rows_all n (n + 1) ts) (rows n (n + 1 + sizes ts) t))
    ∙ ap (sets tin (node_words * (n + 1))) (sym (rows_all_snoc n (n + 1) ts t))

-- the row of a container, written after those of its children
pub rows_branch : (tin tab out : List ℕ) (p : CL.Label) → SpansApart p → (kind : Kind) (parent n m z stop : ℕ) (ts : Forest) → m ≡ n + 1 + sizes ts → z ≡ count ts
    → tab ≡ sets tin (node_words * (n + 1)) (rows_all n (n + 1) ts) → out ≡ sets tab (node_words * n) (row_words (number_of_kind (container_kind kind)) parent p stop m z 0 0)
    → out ≡ sets tin (node_words * n) (rows parent n (branch (head_by (label_of p) stop) kind ts))
rows_branch tin tab out p ok kind parent n m z stop ts g c w v =
    let k : node_words * (n + 1) ≡ node_words * n + node_words = omega arith in
    v
    ∙ ap (λ (k : ℕ). sets tab (node_words * n) (row_words k parent p stop m z 0 0)) (container_says kind)
    ∙ ap (λ (l : List ℕ). sets l (node_words * n) (row_words (kind_number kind) parent p stop m z 0 0)) w
    ∙ sets_swap (row_words (kind_number kind) parent p stop m z 0 0) tin (node_words * n) (node_words * (n + 1)) (rows_all n (n + 1) ts) (omega arith)
    ∙ ap (λ (x : ℕ). sets (sets tin (node_words * n) (row_words (kind_number kind) parent p stop m z 0 0)) x (rows_all n (n + 1) ts)) k
    ∙ sym (sets_append tin (node_words * n) (row_words (kind_number kind) parent p stop m z 0 0) (rows_all n (n + 1) ts))
    ∙ ap (sets tin (node_words * n)) (branch_row p ok parent n stop m z kind ts g c)

-- ---- the end of an identifier's bracket: word 3

set_third : (l : List ℕ) (i a b c d x : ℕ) (vs : List ℕ) → set (sets l i (a ∷ b ∷ c ∷ d ∷ vs)) (i + 3) x ≡ sets l i (a ∷ b ∷ c ∷ x ∷ vs)
set_third l i a b c d x vs =
    let e : i + 3 ≡ suc (suc (suc i)) = omega arith in
    rw e
    (set_before_sets vs (set (set (set (set l i a) (suc i) b) (suc (suc i)) c) (suc (suc (suc i))) d) (suc (suc (suc i))) (suc (suc (suc (suc i)))) x (omega arith)
    ∙ ap (λ (y : List ℕ). sets y (suc (suc (suc (suc i)))) vs) (set_again (set (set (set l i a) (suc i) b) (suc (suc i)) c) (suc (suc (suc i))) d x))

pub stop_row : (tin tab out : List ℕ) (parent n stop : ℕ) (t : Tree) → tab ≡ sets tin (node_words * n) (rows parent n t) → out ≡ set tab (node_words * n + 3) stop
    → out ≡ sets tin (node_words * n) (rows parent n (with_stop stop t))
unfolding rows with_stop stop_at head_words
stop_row tin tab out parent n stop (leaf h s) w v =
    v ∙ ap (λ (l : List ℕ). set l (node_words * n + 3) stop) w
    ∙ set_third tin (node_words * n) (scalar_number s) parent h.value.start h.value.stop stop (span_words h.key ++ (span_words h.name ++ (suc n ∷ [])) ++ scalar_words s)
stop_row tin tab out parent n stop (branch h k f) w v =
    v ∙ ap (λ (l : List ℕ). set l (node_words * n + 3) stop) w
    ∙ set_third tin (node_words * n) (kind_number k) parent h.value.start h.value.stop stop
    (span_words h.key ++ (span_words h.name ++ ((suc n + sizes f) ∷ [])) ++ (count f ∷ 0 ∷ 0 ∷ rows_all n (suc n) f))

-- ---- what the row of a tree says of its key and of the node after it

pub size_pos : (t : Tree) → 0 < size t
unfolding size
size_pos (leaf h s) = omega arith
size_pos (branch h k f) = omega arith

row_says_words : (parent n a b : ℕ) (t : Tree) → (head_of t).key ≡ span_at a b → (b ≡ 0 → a ≡ 0)
    → (get_or (rows parent n t) 4 0 ≡ a) × (get_or (rows parent n t) 5 0 ≡ b)
unfolding rows head_of head_words
row_says_words parent n a b (leaf h s) e ok = (ap key4 (words e ok), ap key5 (words e ok))
  where
    words : h.key ≡ span_at a b → (b ≡ 0 → a ≡ 0) → span_words h.key ≡ a ∷ b ∷ []
    words q o = ap span_words q ∙ span_words_law a b o

    key4 : List ℕ → ℕ
    key4 k = get_or (k ++ (span_words h.name ++ (suc n ∷ [])) ++ scalar_words s) 0 0

    key5 : List ℕ → ℕ
    key5 k = get_or (k ++ (span_words h.name ++ (suc n ∷ [])) ++ scalar_words s) 1 0
row_says_words parent n a b (branch h k f) e ok = (ap key4 (words e ok), ap key5 (words e ok))
  where
    words : h.key ≡ span_at a b → (b ≡ 0 → a ≡ 0) → span_words h.key ≡ a ∷ b ∷ []
    words q o = ap span_words q ∙ span_words_law a b o

    key4 : List ℕ → ℕ
    key4 y = get_or (y ++ (span_words h.name ++ ((suc n + sizes f) ∷ [])) ++ (count f ∷ 0 ∷ 0 ∷ rows_all n (suc n) f)) 0 0

    key5 : List ℕ → ℕ
    key5 y = get_or (y ++ (span_words h.name ++ ((suc n + sizes f) ∷ [])) ++ (count f ∷ 0 ∷ 0 ∷ rows_all n (suc n) f)) 1 0

first_of : Option Span → ℕ
first_of none = 0
first_of (some s) = s.start

second_of : Option Span → ℕ
second_of none = 0
second_of (some s) = s.stop

two : (o : Option Span) → span_words o ≡ first_of o ∷ second_of o ∷ []
unfolding span_words first_of second_of
two none = refl
two (some s) = refl

row_next : (parent n : ℕ) (t : Tree) → get_or (rows parent n t) 8 0 ≡ n + size t
unfolding rows head_words size
row_next parent n (leaf h s) =
    let e : suc n ≡ n + 1 = omega arith in
    (λ i. get_or (two h.key i ++ (two h.name i ++ (suc n ∷ [])) ++ scalar_words s) 4 0) ∙ e
row_next parent n (branch h k f) =
    let e : suc n + sizes f ≡ n + suc (sizes f) = omega arith in
    (λ i. get_or (two h.key i ++ (two h.name i ++ ((suc n + sizes f) ∷ [])) ++ (count f ∷ 0 ∷ 0 ∷ rows_all n (suc n) f)) 4 0) ∙ e

-- the row of a tree that was written as node m
pub row_says : (tab out : List ℕ) (parent m a b : ℕ) (t : Tree) → (head_of t).key ≡ span_at a b → (b ≡ 0 → a ≡ 0) → node_words * m + node_words * size t ≤ length tab
    → out ≡ sets tab (node_words * m) (rows parent m t) → RowSays out m (m + size t) a b
row_says tab out parent m a b t e ok h w =
    record {
      next_is = word 8 (omega (arith, size_pos t)) ∙ row_next parent m t;
      start_is = word 4 (omega (arith, size_pos t)) ∙ (row_says_words parent m a b t e ok).0;
      end_is = word 5 (omega (arith, size_pos t)) ∙ (row_says_words parent m a b t e ok).1;
    }
  where
    word : (k : ℕ) → k < node_words * size t → get_or out (node_words * m + k) 0 ≡ get_or (rows parent m t) k 0
    word k l =
        ap (λ (x : List ℕ). get_or x (node_words * m + k) 0) w
        ∙ get_d_in_sets (rows parent m t) tab (node_words * m) k (omega (arith, length_rows parent m t)) (omega (arith, length_rows parent m t))
