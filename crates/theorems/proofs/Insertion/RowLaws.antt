-- The table of a tree whose places are mapped: its rows are the old ones with their spans mapped.
-- Assumes nothing.
use mathlib.Core.Path.{◌≡◌, refl, sym, ap, ◌∙◌, subst}
use Prim.Native.Nat.{ℕ, zero, suc, ◌+◌, ◌-◌, ◌*◌, ◌^◌, ◌≤◌, ◌<◌}
use native.Mathlib.Decide.{dec_lt}
use native.Mathlib.Omega.{arith}
use mathlib.Core.Bool.{Bool, true, false, cond, ◌&&◌}
use mathlib.Core.Option.{Option, none, some}
use mathlib.Core.List.{List, [], ◌∷◌, ◌++◌, append_assoc}
use lib.Dec.{eqb}
use lib.ListN.{length, get_or, replicate, length-append}
use lib.Seq.{get_or-append-add}
use borrow.Author.Tests.{ne_eqb}
use Rattle.text.proofs.Choice.{cond-false}
use Rattle.reader.specs.declared.tree.Kind.{Kind}
use Rattle.reader.specs.declared.tree.Kind.TheVariants.{Object, Array, Tuple}
use Rattle.reader.specs.Tree as R
use Rattle.reader.specs.Tree.{Span, Head, Scalar, Tree, leaf, branch, Forest, nil, cons, size, sizes, count, span_words, head_words, kind_number, scalar_number, scalar_words, rows, rows_all, padded, node_words, no_parent, low32, high32, twos_complement, plus1000}
use Rattle.reader.specs.Syntax.{taken}
use Rattle.reader.specs.Reading.{table_of, word_of}
use Rattle.reader.proofs.TableLaws.{length_head, length_rows, word_left, word_right}
use Rattle.reader.proofs.MapLaws.{map_span, map_some, map_head, map_scalar, map_tree, map_forest}
use Rattle.theorems.specs.Insertion.{new_start, new_stop, new_span, new_or_none, is_string, new_row}

-- ---- sizes stay

module _ (φ ψ : ℕ → ℕ) where
  mutual
    unfolding size map_tree

    pub map_size : (t : Tree) → size (map_tree φ ψ t) ≡ size t
    map_size (leaf h s) = refl
    map_size (branch h k f) = ap suc (map_sizes f)

    map_sizes : (f : Forest) → sizes (map_forest φ ψ f) ≡ sizes f
    map_sizes nil = refl
    map_sizes (cons t f) = λ i. map_size t i + map_sizes f i

  map_count : (f : Forest) → count (map_forest φ ψ f) ≡ count f
  unfolding count map_tree
  map_count nil = refl
  map_count (cons t f) = ap suc (map_count f)

-- the words of one row
pub row_length : (kind parent : ℕ) (h : Head) (after x y c : ℕ) → length (head_words kind parent h after ++ (x ∷ y ∷ c ∷ [])) ≡ node_words
row_length kind parent h after x y c =
    let a = length-append (head_words kind parent h after) (x ∷ y ∷ c ∷ []) in
    let b = length_head kind parent h after in
    omega arith

-- an end that is not 0
abbrev pub some_stop : ℕ → ℕ
some_stop p = suc (p - 1)

-- a place as it is
abbrev pub as_is : ℕ → ℕ
as_is p = p

module _ (g : ℕ → List ℕ) where
  -- the words of the first n rows
  abbrev pub Moved : (n : ℕ) (l l' : List ℕ) → Type 0
  Moved n l l' = (node i : ℕ) → node < n → i < 12 → word_of l' node i ≡ get_or (new_row g (word_of l node)) i 0

  row_same : (w v : ℕ → ℕ) → ((i : ℕ) → i < 12 → w i ≡ v i) → new_row g w ≡ new_row g v
  unfolding new_row
  row_same w v h =
      let h₀ = h 0 (omega arith) in
      let h₁ = h 1 (omega arith) in
      let h₂ = h 2 (omega arith) in
      let h₃ = h 3 (omega arith) in
      let h₄ = h 4 (omega arith) in
      let h₅ = h 5 (omega arith) in
      let h₆ = h 6 (omega arith) in
      let h₇ = h 7 (omega arith) in
      let h₈ = h 8 (omega arith) in
      let h₉ = h 9 (omega arith) in
      let k₀ = h 10 (omega arith) in
      let k₁ = h 11 (omega arith) in
      λ i. h₀ i ∷ h₁ i ∷ (new_span g (h₂ i) (h₃ i) ++ (new_or_none g (h₄ i) (h₅ i) ++ (new_or_none g (h₆ i) (h₇ i)
      ++ (h₈ i ∷ (cond (is_string (h₀ i)) (new_span g (h₉ i) (k₀ i)) (h₉ i ∷ k₀ i ∷ []) ++ (k₁ i ∷ []))))))

  moved_row : (l l' : List ℕ) → ((i : ℕ) → i < 12 → get_or l' i 0 ≡ get_or (new_row g (word_of l 0)) i 0) → Moved 1 l l'
  moved_row l l' r zero i q h = let e : node_words * 0 + i ≡ i = omega arith in ap (λ (k : ℕ). get_or l' k 0) e ∙ r i h
  moved_row l l' r (suc node) i q h = absurd (omega arith)

  moved_append : (n m : ℕ) (l l' r r' : List ℕ) → length l ≡ node_words * n → length l' ≡ node_words * n → Moved n l l' → Moved m r r'
      → Moved (n + m) (l ++ r) (l' ++ r')
  moved_append n m l l' r r' e e' a b node i z h =
      elim (dec_lt node n) [
        | yes lt ↦
            word_left l' r' n node i e' lt h ∙ a node i lt h
            ∙ ap (λ (x : List ℕ). get_or x i 0) (row_same (word_of l node) (word_of (l ++ r) node) (λ k q. sym (word_left l r n node k e lt q)))
        | no ge ↦
            let m : node ≡ n + (node - n) = omega arith in
            ap (λ (x : ℕ). word_of (l' ++ r') x i) m ∙ word_right l' r' n (node - n) i e' ∙ b (node - n) i (omega arith) h
            ∙ ap (λ (x : List ℕ). get_or x i 0)
            (row_same (word_of r (node - n)) (word_of (l ++ r) node)
            (λ k q. sym (ap (λ (x : ℕ). word_of (l ++ r) x k) m ∙ word_right l r n (node - n) k e)))
      ]

  -- ---- one row

  stop_some : (stop : ℕ) → new_stop g (some_stop stop) ≡ new_stop g stop
  unfolding new_stop
  stop_some stop = let e : some_stop stop - 1 ≡ stop - 1 = omega arith in ap (λ (k : ℕ). suc (new_start g k)) e

  span_new : (start stop : ℕ) → new_span g start (some_stop stop) ≡ new_start g start ∷ new_stop g stop ∷ []
  unfolding new_span
  span_new start stop = ap (λ (k : ℕ). new_start g start ∷ k ∷ []) (stop_some stop)

  some_new : (start stop : ℕ) → new_or_none g start (some_stop stop) ≡ new_start g start ∷ new_stop g stop ∷ []
  unfolding new_or_none
  some_new start stop =
      cond-false (eqb start 0 && eqb (some_stop stop) 0) (0 ∷ 0 ∷ []) (new_span g start (some_stop stop))
      (and_none (eqb start 0) (eqb (some_stop stop) 0) (ne_eqb (some_stop stop) 0 (λ q. omega arith)))
      ∙ span_new start stop
    where
      and_none : (a b : Bool) → b ≡ false → a && b ≡ false
      and_none true b e = e
      and_none false b e = refl

  none_new : new_or_none g 0 0 ≡ 0 ∷ 0 ∷ []
  unfolding new_or_none
  none_new = refl

  abbrev head₁ : Head → Head
  head₁ h = map_head as_is some_stop h

  abbrev head₂ : Head → Head
  head₂ h = map_head (new_start g) (new_stop g) h

  head_row : (kind parent : ℕ) (h : Head) (after x y c x' y' : ℕ) → cond (is_string kind) (new_span g x y) (x ∷ y ∷ []) ≡ x' ∷ y' ∷ []
      → new_row g (word_of (head_words kind parent (head₁ h) after ++ (x ∷ y ∷ c ∷ [])) 0) ≡ head_words kind parent (head₂ h) after ++ (x' ∷ y' ∷ c ∷ [])
  unfolding head_words span_words map_head map_span map_some new_row
  head_row kind parent h after x y c x' y' e = both h.key h.name
    where
      both : (a b : Option Span)
          → new_row g (word_of (head_words kind parent (record { value = map_span as_is some_stop h.value; key = map_some as_is some_stop a; name = map_some as_is some_stop b }) after ++ (x ∷ y ∷ c ∷ [])) 0)
          ≡ head_words kind parent (record { value = map_span (new_start g) (new_stop g) h.value; key = map_some (new_start g) (new_stop g) a; name = map_some (new_start g) (new_stop g) b }) after ++ (x' ∷ y' ∷ c ∷ [])
      both none none =
          λ i. kind ∷ parent ∷ (span_new h.value.start h.value.stop i ++ (none_new i ++ (none_new i ++ (after ∷ (e i ++ (c ∷ []))))))
      both none (some s) =
          λ i. kind ∷ parent ∷ (span_new h.value.start h.value.stop i ++ (none_new i ++ (some_new s.start s.stop i ++ (after ∷ (e i ++ (c ∷ []))))))
      both (some r) none =
          λ i. kind ∷ parent ∷ (span_new h.value.start h.value.stop i ++ (some_new r.start r.stop i ++ (none_new i ++ (after ∷ (e i ++ (c ∷ []))))))
      both (some r) (some s) =
          λ i. kind ∷ parent ∷ (span_new h.value.start h.value.stop i ++ (some_new r.start r.stop i ++ (some_new s.start s.stop i ++ (after ∷ (e i ++ (c ∷ []))))))

  plain_row : (k : Kind) (x y : ℕ) → cond (is_string (kind_number k)) (new_span g x y) (x ∷ y ∷ []) ≡ x ∷ y ∷ []
  unfolding kind_number is_string
  plain_row Object x y = refl
  plain_row Array x y = refl
  plain_row Tuple x y = refl

  -- a leaf's row, by the words that its scalar holds
  leaf_moved : (parent n : ℕ) (h : Head) (s : Scalar)
      → Moved 1 (rows parent n (map_tree as_is some_stop (leaf h s))) (rows parent n (map_tree (new_start g) (new_stop g) (leaf h s)))
  unfolding rows map_tree scalar_number scalar_words map_scalar is_string map_span
  leaf_moved parent n h s = on s
    where
      one : (kind x y c x' y' : ℕ) → cond (is_string kind) (new_span g x y) (x ∷ y ∷ []) ≡ x' ∷ y' ∷ []
          → Moved 1 (head_words kind parent (head₁ h) (suc n) ++ (x ∷ y ∷ c ∷ [])) (head_words kind parent (head₂ h) (suc n) ++ (x' ∷ y' ∷ c ∷ []))
      one kind x y c x' y' e =
          moved_row (head_words kind parent (head₁ h) (suc n) ++ (x ∷ y ∷ c ∷ [])) (head_words kind parent (head₂ h) (suc n) ++ (x' ∷ y' ∷ c ∷ []))
          (λ i _. ap (λ (m : List ℕ). get_or m i 0) (sym (head_row kind parent h (suc n) x y c x' y' e)))

      on : (s : Scalar) → Moved 1 (head_words (scalar_number (map_scalar as_is some_stop s)) parent (head₁ h) (suc n) ++ scalar_words (map_scalar as_is some_stop s))
          (head_words (scalar_number (map_scalar (new_start g) (new_stop g) s)) parent (head₂ h) (suc n) ++ scalar_words (map_scalar (new_start g) (new_stop g) s))
      on (R.text token content) =
          one 4 token.start (some_stop token.stop) (length content) (new_start g token.start) (new_stop g token.stop) (span_new token.start token.stop)
      on (R.bytes token content) =
          one 5 token.start (some_stop token.stop) (length content) (new_start g token.start) (new_stop g token.stop) (span_new token.start token.stop)
      on (R.integer z) = one 6 (low32 (twos_complement z)) (high32 (twos_complement z)) 0 (low32 (twos_complement z)) (high32 (twos_complement z)) refl
      on (R.decimal minus m p) = one 7 (low32 m) (high32 m + cond minus (2 ^ 31) 0) (plus1000 p) (low32 m) (high32 m + cond minus (2 ^ 31) 0) refl
      on R.false_value = one 8 0 0 0 0 0 refl
      on R.true_value = one 9 0 0 0 0 0 refl
      on R.null_value = one 10 0 0 0 0 0 refl

  abbrev tree₁ : Tree → Tree
  tree₁ t = map_tree as_is some_stop t

  abbrev tree₂ : Tree → Tree
  tree₂ t = map_tree (new_start g) (new_stop g) t

  abbrev forest₁ : Forest → Forest
  forest₁ f = map_forest as_is some_stop f

  abbrev forest₂ : Forest → Forest
  forest₂ f = map_forest (new_start g) (new_stop g) f

  sizes_same : (f : Forest) → sizes (forest₁ f) ≡ sizes (forest₂ f)
  sizes_same f = map_sizes as_is some_stop f ∙ sym (map_sizes (new_start g) (new_stop g) f)

  size_same : (t : Tree) → size (tree₁ t) ≡ size (tree₂ t)
  size_same t = map_size as_is some_stop t ∙ sym (map_size (new_start g) (new_stop g) t)

  count_same : (f : Forest) → count (forest₁ f) ≡ count (forest₂ f)
  count_same f = map_count as_is some_stop f ∙ sym (map_count (new_start g) (new_stop g) f)

  -- a container's own row, and those of its children
  branch_moved : (parent n : ℕ) (h : Head) (k : Kind) (f : Forest) → Moved (sizes f) (rows_all n (suc n) (forest₁ f)) (rows_all n (suc n) (forest₂ f))
      → Moved (1 + sizes f) (rows parent n (tree₁ (branch h k f))) (rows parent n (tree₂ (branch h k f)))
  unfolding rows map_tree
  branch_moved parent n h k f m =
      let K = kind_number k in
      let a₁ = head_words K parent (head₁ h) (suc n + sizes (forest₁ f)) in
      let a₂ = head_words K parent (head₂ h) (suc n + sizes (forest₂ f)) in
      let b₁ = count (forest₁ f) ∷ 0 ∷ 0 ∷ [] in
      let b₂ = count (forest₂ f) ∷ 0 ∷ 0 ∷ [] in
      let s = sizes_same f in
      let c = count_same f in
      let own : new_row g (word_of (a₁ ++ b₁) 0) ≡ a₂ ++ b₂ =
      head_row K parent h (suc n + sizes (forest₁ f)) (count (forest₁ f)) 0 0 (count (forest₁ f)) 0 (plain_row k (count (forest₁ f)) 0)
      ∙ (λ i. head_words K parent (head₂ h) (suc n + s i) ++ (c i ∷ 0 ∷ 0 ∷ [])) in
      let l₁ = row_length K parent (head₁ h) (suc n + sizes (forest₁ f)) (count (forest₁ f)) 0 0 in
      let l₂ = row_length K parent (head₂ h) (suc n + sizes (forest₂ f)) (count (forest₂ f)) 0 0 in
      subst (λ (l : List ℕ). Moved (1 + sizes f) l (a₂ ++ (count (forest₂ f) ∷ 0 ∷ 0 ∷ rows_all n (suc n) (forest₂ f)))) (append_assoc a₁ b₁ (rows_all n (suc n) (forest₁ f)))
      (subst (Moved (1 + sizes f) ((a₁ ++ b₁) ++ rows_all n (suc n) (forest₁ f))) (append_assoc a₂ b₂ (rows_all n (suc n) (forest₂ f)))
      (moved_append 1 (sizes f) (a₁ ++ b₁) (a₂ ++ b₂) (rows_all n (suc n) (forest₁ f)) (rows_all n (suc n) (forest₂ f)) l₁ l₂ (moved_row (a₁ ++ b₁) (a₂ ++ b₂) (λ i _. ap (λ (x : List ℕ). get_or x i 0) (sym own))) m))

  mutual
    unfolding rows map_tree size

    rows_moved : (parent n : ℕ) (t : Tree) → Moved (size t) (rows parent n (tree₁ t)) (rows parent n (tree₂ t))
    rows_moved parent n (leaf h s) = leaf_moved parent n h s
    rows_moved parent n (branch h k f) =
        λ node i q. branch_moved parent n h k f (rows_all_moved n (suc n) f) node i (omega arith)

    rows_all_moved : (parent n : ℕ) (f : Forest) → Moved (sizes f) (rows_all parent n (forest₁ f)) (rows_all parent n (forest₂ f))
    rows_all_moved parent n nil = λ node i q. absurd (omega arith)
    rows_all_moved parent n (cons t f) =
        let s₁ = map_size as_is some_stop t in
        let s₂ = map_size (new_start g) (new_stop g) t in
        let l₁ = length_rows parent n (tree₁ t) in
        let l₂ = length_rows parent n (tree₂ t) in
        moved_append (size t) (sizes f) (rows parent n (tree₁ t)) (rows parent n (tree₂ t)) (rows_all parent (n + size (tree₁ t)) (forest₁ f))
        (rows_all parent (n + size (tree₂ t)) (forest₂ f)) (omega arith) (omega arith) (rows_moved parent n t)
        (subst (λ (m : ℕ). Moved (sizes f) (rows_all parent (n + size (tree₁ t)) (forest₁ f)) (rows_all parent (n + m) (forest₂ f))) (size_same t)
        (rows_all_moved parent (n + size (tree₁ t)) f))

  -- THE TABLE of the mapped tree: each row is the old one with its spans mapped
  pub table_moved : (words : ℕ) (t : Tree) → Moved (size t) (table_of words (taken (tree₁ t))) (table_of words (taken (tree₂ t)))
  unfolding table_of padded
  table_moved words t =
      let s₁ = map_size as_is some_stop t in
      let s₂ = map_size (new_start g) (new_stop g) t in
      let l₁ = length_rows no_parent 0 (tree₁ t) in
      let l₂ = length_rows no_parent 0 (tree₂ t) in
      λ node i q.
      moved_append (size t) 0 (rows no_parent 0 (tree₁ t)) (rows no_parent 0 (tree₂ t)) (replicate (words - length (rows no_parent 0 (tree₁ t))) 0)
      (replicate (words - length (rows no_parent 0 (tree₂ t))) 0) (omega arith) (omega arith) (rows_moved no_parent 0 t) (λ node i q. absurd (omega arith))
      node i (omega arith)

-- after the last node stand zeros
pub table_rest : (words : ℕ) (t : Tree) (k : ℕ) → node_words * size t ≤ k → get_or (table_of words (taken t)) k 0 ≡ 0
unfolding table_of padded
table_rest words t k h =
    let l = rows no_parent 0 t in
    let n = length_rows no_parent 0 t in
    let e : k ≡ length l + (k - length l) = omega arith in
    ap (λ (i : ℕ). get_or (l ++ replicate (words - length l) 0) i 0) e ∙ get_or-append-add l (replicate (words - length l) 0) (k - length l) 0
    ∙ zero_at (words - length l) (k - length l)
  where
    zero_at : (n i : ℕ) → ◌≡◌ {A = ℕ} (get_or (replicate n 0) i 0) 0
    zero_at zero i = refl
    zero_at (suc n) zero = refl
    zero_at (suc n) (suc i) = zero_at n i
