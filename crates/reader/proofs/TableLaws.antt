-- The table's words: twelve a node, and what holds of every value's span holds of words 2 and 3 of its node.
-- Assumes nothing.
use mathlib.Core.Path.{◌≡◌, refl, sym, ap, ◌∙◌, subst}
use Prim.Native.Nat.{ℕ, zero, suc, ◌+◌, ◌-◌, ◌*◌, ◌≤◌, ◌<◌}
use native.Mathlib.Decide.{dec_lt}
use native.Mathlib.Omega.{arith}
use mathlib.Core.Bool.{Bool, true}
use mathlib.Core.Option.{Option, none, some}
use mathlib.Core.List.{List, [], ◌∷◌, ◌++◌}
use lib.ListN.{length, get_or, replicate, length-append, get_or-append}
use lib.Seq.{get_or-append-add}
use Rattle.reader.specs.Tree
use Rattle.reader.specs.Tree.{Span, Head, Scalar, Tree, leaf, branch, Forest, nil, cons, snoc, size, sizes, count, span_words, head_words, kind_number, scalar_number, scalar_words, rows, rows_all, padded, no_parent, node_words}
use Rattle.reader.specs.Syntax.{taken}
use Rattle.reader.specs.Reading.{table_of, word_of}

-- ---- twelve words a node

pub length_head : (kind parent : ℕ) (h : Head) (next : ℕ) → length (head_words kind parent h next) ≡ 9
unfolding head_words span_words
length_head kind parent h next = both h.key h.name
  where
    both : (a b : Option Span) → suc (suc (suc (suc (length (span_words a ++ (span_words b ++ (next ∷ []))))))) ≡ 9
    both none none = refl
    both none (some s) = refl
    both (some r) none = refl
    both (some r) (some s) = refl

length_scalar : (s : Scalar) → length (scalar_words s) ≡ 3
unfolding scalar_words
length_scalar (Tree.text token content) = refl
length_scalar (Tree.bytes token content) = refl
length_scalar (Tree.integer z) = refl
length_scalar (Tree.decimal minus m p) = refl
length_scalar Tree.false_value = refl
length_scalar Tree.true_value = refl
length_scalar Tree.null_value = refl

mutual
  unfolding rows size

  pub length_rows : (parent n : ℕ) (t : Tree) → length (rows parent n t) ≡ node_words * size t
  length_rows parent n (leaf h s) =
      let a = length-append (head_words (scalar_number s) parent h (suc n)) (scalar_words s) in
      let b = length_head (scalar_number s) parent h (suc n) in
      let c = length_scalar s in
      omega arith
  length_rows parent n (branch h k f) =
      let a = length-append (head_words (kind_number k) parent h (suc n + sizes f)) (count f ∷ 0 ∷ 0 ∷ rows_all n (suc n) f) in
      let b = length_head (kind_number k) parent h (suc n + sizes f) in
      let c = length_rows_all n (suc n) f in
      omega arith

  pub length_rows_all : (parent n : ℕ) (f : Forest) → length (rows_all parent n f) ≡ node_words * sizes f
  length_rows_all parent n nil = refl
  length_rows_all parent n (cons t f) =
      let a = length-append (rows parent n t) (rows_all parent (n + size t) f) in
      let b = length_rows parent n t in
      let c = length_rows_all parent (n + size t) f in
      omega arith

-- ---- words of nodes, by where their rows stand

-- past the twelve words of a branch
word_past : (h : List ℕ) (a b c : ℕ) (l : List ℕ) (j k : ℕ) → length h ≡ 9 → word_of (h ++ (a ∷ b ∷ c ∷ l)) (suc j) k ≡ word_of l j k
word_past h a b c l j k e =
    let q : node_words * suc j + k ≡ length h + suc (suc (suc (node_words * j + k))) = omega arith in
    ap (λ (m : ℕ). get_or (h ++ (a ∷ b ∷ c ∷ l)) m 0) q ∙ get_or-append-add h (a ∷ b ∷ c ∷ l) (suc (suc (suc (node_words * j + k)))) 0

pub word_left : (l r : List ℕ) (n i k : ℕ) → length l ≡ node_words * n → i < n → k < 12 → word_of (l ++ r) i k ≡ word_of l i k
word_left l r n i k e h q = get_or-append l r 0 (node_words * i + k) (omega arith)

pub word_right : (l r : List ℕ) (n j k : ℕ) → length l ≡ node_words * n → word_of (l ++ r) (n + j) k ≡ word_of r j k
word_right l r n j k e =
    let q : node_words * (n + j) + k ≡ length l + (node_words * j + k) = omega arith in
    ap (λ (m : ℕ). get_or (l ++ r) m 0) q ∙ get_or-append-add l r (node_words * j + k) 0

-- ---- what holds of every value's span

-- the root, or any other node
unfoldable pub any_at : (any : Bool) (i : ℕ) → Bool
any_at any zero = any
any_at any (suc i) = true

-- `any` is the root's; below it any value may stand
module _ (P : (any : Bool) (start stop : ℕ) → Type 0) where
  unfoldable mutual
    pub AllSpans : (any : Bool) → Tree → Type 0
    AllSpans any (leaf h s) = P any h.value.start h.value.stop
    AllSpans any (branch h k f) = P any h.value.start h.value.stop × AllSpansIn f

    pub AllSpansIn : Forest → Type 0
    AllSpansIn nil = Unit {0}
    AllSpansIn (cons t f) = AllSpans true t × AllSpansIn f

  pub snoc_spans : (f : Forest) (t : Tree) → AllSpansIn f → AllSpans true t → AllSpansIn (snoc f t)
  unfolding AllSpans snoc
  snoc_spans nil t a b = (b, tt)
  snoc_spans (cons u f) t a b = (a.0, snoc_spans f t a.1 b)

  -- words 2 and 3 of node i
  abbrev pub SpanAt : (any : Bool) → List ℕ → (i : ℕ) → Type 0
  SpanAt any l i = P any (word_of l i 2) (word_of l i 3)

  span_by : (any : Bool) (i j : ℕ) (l r : List ℕ) → ((k : ℕ) → k < 4 → word_of l i k ≡ word_of r j k) → SpanAt any r j → SpanAt any l i
  span_by any i j l r e w =
      subst (λ (n : ℕ). P any (word_of l i 2) n) (sym (e 3 (omega arith)))
      (subst (λ (n : ℕ). P any n (word_of r j 3)) (sym (e 2 (omega arith))) w)

  mutual
    unfolding AllSpans rows size head_words any_at

    rows_span : (any : Bool) (parent m : ℕ) (t : Tree) → AllSpans any t → (i : ℕ) → i < size t → SpanAt (any_at any i) (rows parent m t) i
    rows_span any parent m (leaf h x) a zero l = a
    rows_span any parent m (leaf h x) a (suc i) l = absurd (omega arith)
    rows_span any parent m (branch h k f) a zero l = a.0
    rows_span any parent m (branch h k f) a (suc i) l =
        span_by true (suc i) i (rows parent m (branch h k f)) (rows_all m (suc m) f)
        (λ j q. word_past (head_words (kind_number k) parent h (suc m + sizes f)) (count f) 0 0 (rows_all m (suc m) f) i j (length_head (kind_number k) parent h (suc m + sizes f)))
        (rows_all_span m (suc m) f a.1 i (omega arith))

    rows_all_span : (parent m : ℕ) (f : Forest) → AllSpansIn f → (i : ℕ) → i < sizes f → SpanAt true (rows_all parent m f) i
    rows_all_span parent m nil a i l = absurd (omega arith)
    rows_all_span parent m (cons t f) a i l =
        elim (dec_lt i (size t)) [
          | yes h ↦
              span_by true i i (rows parent m t ++ rows_all parent (m + size t) f) (rows parent m t)
              (λ k q. word_left (rows parent m t) (rows_all parent (m + size t) f) (size t) i k (length_rows parent m t) h (omega arith))
              (always i (rows_span true parent m t a.0 i h))
          | no h ↦
              let g : size t ≤ i = omega arith in
              let e : i ≡ size t + (i - size t) = omega arith in
              span_by true i (i - size t) (rows parent m t ++ rows_all parent (m + size t) f) (rows_all parent (m + size t) f)
              (λ k q. ap (λ (x : ℕ). word_of (rows parent m t ++ rows_all parent (m + size t) f) x k) e
              ∙ word_right (rows parent m t) (rows_all parent (m + size t) f) (size t) (i - size t) k (length_rows parent m t))
              (rows_all_span parent (m + size t) f a.1 (i - size t) (omega arith))
        ]
      where
        always : (j : ℕ) → SpanAt (any_at true j) (rows parent m t) j → SpanAt true (rows parent m t) j
        always zero w = w
        always (suc j) w = w

  pub table_span : (any : Bool) (words i : ℕ) (t : Tree) → AllSpans any t → i < size t → SpanAt (any_at any i) (table_of words (taken t)) i
  unfolding table_of padded
  table_span any words i t a h =
      span_by (any_at any i) i i (rows no_parent 0 t ++ replicate (words - length (rows no_parent 0 t)) 0) (rows no_parent 0 t)
      (λ k q. word_left (rows no_parent 0 t) (replicate (words - length (rows no_parent 0 t)) 0) (size t) i k (length_rows no_parent 0 t) h (omega arith))
      (rows_span any no_parent 0 t a i h)
