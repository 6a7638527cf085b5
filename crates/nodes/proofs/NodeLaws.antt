-- The nodes of a tree by their numbers, and the same in a table that has been read: every number below the count is a node's, which stands
-- in the table, and so do its children.
-- Assumes nothing.
use mathlib.Core.Path.{◌≡◌, refl, sym, ap, ◌∙◌, subst}
use Prim.Native.Nat.{ℕ, zero, suc, ◌+◌, ◌-◌, ◌≤◌, ◌<◌}
use native.Mathlib.Nat.{add-zero}
use native.Mathlib.Decide.{dec_lt}
use native.Mathlib.Omega.{arith}
use mathlib.Core.Bool.{Bool}
use mathlib.Core.Option.{Option, some}
use mathlib.Core.List.{List}
use lib.ListN.{length, get_or, replicate, length-append}
use lib.Dec.{ltb}
use borrow.Author.Tests.{lt-ltb, le-ltb, ltb-true, ltb-false}
use Rattle.text.proofs.Choice.{cond-case, cond-true, cond-false}
use Rattle.reader.specs.Tree.{Tree, leaf, branch, Forest, nil, cons, size, sizes, rows, padded, no_parent}
use Rattle.reader.specs.Syntax.{Outcome, taken, refused}
use Rattle.reader.specs.Reading.{table_of, word_of, node_count}
use Rattle.reader.proofs.TableLaws.{length_rows}
use Rattle.reader.proofs.RowLaws.{size_pos}
use Rattle.nodes.specs.Nodes.{node_at, node_in, node_of, children_of, Numbered, numbered, first_that, nth}
use Rattle.nodes.specs.Stands.{Node}
use Rattle.nodes.proofs.WordLaws.{some_is, none_is, words_left, word_parent}
use Rattle.nodes.proofs.WalkLaws.{Ahead, ahead_all, ahead_node, ahead_next}

-- ---- values side by side

in_first : (t : Tree) (f : Forest) (i : ℕ) → i < size t → node_in (cons t f) i ≡ node_at t i
unfolding node_at
in_first t f i h = cond-true (ltb i (size t)) (node_at t i) (node_in f (i - size t)) (lt-ltb i (size t) h)

in_later : (t : Tree) (f : Forest) (i : ℕ) → size t ≤ i → node_in (cons t f) i ≡ node_in f (i - size t)
unfolding node_at
in_later t f i h = cond-false (ltb i (size t)) (node_at t i) (node_in f (i - size t)) (le-ltb i (size t) h)

-- a node among them is one of the first's, or of the others'
pub in_case : (Q : Type 0) (t u : Tree) (f : Forest) (i : ℕ) → node_in (cons t f) i ≡ some u → (i < size t → node_at t i ≡ some u → Q)
    → (size t ≤ i → node_in f (i - size t) ≡ some u → Q) → Q
unfolding node_at
in_case Q t u f i e a b =
    cond-case (λ (o : Option Tree). o ≡ some u) Q (ltb i (size t)) e (λ h q. a (ltb-true i (size t) h) q) (λ h q. b (ltb-false i (size t) h) q)

-- ---- the root, and every number below the count

-- the root's rows are all of the table's but the zeros
pub root_node : (words : ℕ) (t : Tree) → Node (table_of words (taken t)) 0 t
unfolding table_of padded
root_node words t =
    let l = length_rows no_parent 0 t in
    let a = length-append (rows no_parent 0 t) (replicate {A = ℕ} (words - length (rows no_parent 0 t)) 0) in
    record {
      parent = no_parent;
      words = words_left (table_of words (taken t)) 0 (rows no_parent 0 t) (replicate (words - length (rows no_parent 0 t)) 0) (record { same = λ i h. ap (λ (k : ℕ). get_or (table_of words (taken t)) k 0) (let q : 0 + i ≡ i = omega arith in q) });
      room = omega arith;
    }

-- "4294967295 for the root"
pub root_parent : (words : ℕ) (t : Tree) → word_of (table_of words (taken t)) 0 1 ≡ no_parent
unfolding root_node
root_parent words t = word_parent (table_of words (taken t)) 0 t (root_node words t)

module _ (table : List ℕ) (u : Tree) where
  mutual
    unfolding node_at size children_of

    -- a node's descendant is a node
    pub node_below : (n : ℕ) (t : Tree) → Node table n t → (i : ℕ) → node_at t i ≡ some u → Node table (n + i) u
    node_below n (leaf h s) N zero e = rw add-zero (subst (λ (v : Tree). Node table n v) (some_is e) N)
    node_below n (leaf h s) N (suc i) e = none_is e
    node_below n (branch h k f) N zero e = rw add-zero (subst (λ (v : Tree). Node table n v) (some_is e) N)
    node_below n (branch h k f) N (suc i) e =
        let q : n + suc i ≡ n + 1 + i = omega arith in
        rw q (node_among n (n + 1) f (ahead_all table n (branch h k f) N) i e)

    node_among : (n x : ℕ) (f : Forest) → Ahead table n x f → (i : ℕ) → node_in f i ≡ some u → Node table (x + i) u
    node_among n x nil B i e = none_is e
    node_among n x (cons t f) B i e =
        in_case (Node table (x + i) u) t u f i e (λ _ d. node_below x t (ahead_node table n x t f B) i d)
        (λ h d.
        let q : x + i ≡ x + size t + (i - size t) = omega arith in
        rw q (node_among n (x + size t) f (ahead_next table n x t f B) (i - size t) d))

-- ---- numbers of nodes, in the tree

-- "the root being 0"
pub node_root : (t : Tree) → node_at t 0 ≡ some t
unfolding node_at
node_root (leaf h s) = refl
node_root (branch h k f) = refl

mutual
  unfolding node_at size

  -- every number below the size is a node's
  pub node_some : (t : Tree) (i : ℕ) → i < size t → (u : Tree) × (node_at t i ≡ some u)
  node_some (leaf h s) zero l = (leaf h s, refl)
  node_some (leaf h s) (suc i) l = absurd (omega arith)
  node_some (branch h k f) zero l = (branch h k f, refl)
  node_some (branch h k f) (suc i) l = node_some_in f i (omega arith)

  node_some_in : (f : Forest) (i : ℕ) → i < sizes f → (u : Tree) × (node_in f i ≡ some u)
  node_some_in nil i l = absurd (omega arith)
  node_some_in (cons t f) i l =
      elim (dec_lt i (size t)) [
        | yes h ↦ let r = node_some t i h in (r.0, in_first t f i h ∙ r.1)
        | no h ↦ let r = node_some_in f (i - size t) (omega arith) in (r.0, in_later t f i (omega arith) ∙ r.1)
      ]

module _ (u : Tree) where
  mutual
    unfolding node_at size

    -- a node's descendants have the numbers after its own
    pub node_fits : (t : Tree) (i : ℕ) → node_at t i ≡ some u → i + size u ≤ size t
    node_fits (leaf h s) zero e = let q = ap size (some_is e) in omega arith
    node_fits (leaf h s) (suc i) e = none_is e
    node_fits (branch h k f) zero e = let q = ap size (some_is e) in omega arith
    node_fits (branch h k f) (suc i) e = let q = node_fits_in f i e in omega arith

    node_fits_in : (f : Forest) (i : ℕ) → node_in f i ≡ some u → i + size u ≤ sizes f
    node_fits_in nil i e = none_is e
    node_fits_in (cons t f) i e =
        in_case (i + size u ≤ size t + sizes f) t u f i e (λ h d. let q = node_fits t i d in omega arith)
        (λ h d. let q = node_fits_in f (i - size t) d in omega arith)

module _ (u v : Tree) (j : ℕ) (below : node_at u j ≡ some v) where
  mutual
    unfolding node_at size

    -- a node of a node is a node
    pub node_in_node : (t : Tree) (i : ℕ) → node_at t i ≡ some u → node_at t (i + j) ≡ some v
    node_in_node (leaf h s) zero e =
        let q : 0 + j ≡ j = omega arith in
        ap (λ (k : ℕ). node_at (leaf h s) k) q ∙ ap (λ (w : Tree). node_at w j) (some_is e) ∙ below
    node_in_node (leaf h s) (suc i) e = none_is e
    node_in_node (branch h k f) zero e =
        let q : 0 + j ≡ j = omega arith in
        ap (λ (m : ℕ). node_at (branch h k f) m) q ∙ ap (λ (w : Tree). node_at w j) (some_is e) ∙ below
    node_in_node (branch h k f) (suc i) e =
        let q : suc i + j ≡ suc (i + j) = omega arith in
        ap (λ (m : ℕ). node_at (branch h k f) m) q ∙ node_in_nodes f i e

    node_in_nodes : (f : Forest) (i : ℕ) → node_in f i ≡ some u → node_in f (i + j) ≡ some v
    node_in_nodes nil i e = none_is e
    node_in_nodes (cons t f) i e =
        let m = node_fits v u j below in
        let p = size_pos v in
        in_case (node_in (cons t f) (i + j) ≡ some v) t u f i e
        (λ h d. let q = node_fits u t i d in in_first t f (i + j) (omega arith) ∙ node_in_node t i d)
        (λ h d.
        let q : i + j - size t ≡ i - size t + j = omega arith in
        in_later t f (i + j) (omega arith) ∙ ap (λ (m : ℕ). node_in f m) q ∙ node_in_nodes f (i - size t) d)

-- ---- children are nodes

-- a value among those side by side whose first has the number n
pub record Among (n : ℕ) (f : Forest) (c : Numbered) : Type 0 where
  pub from : n ≤ c.number
  pub found : node_in f (c.number - n) ≡ some c.value

among_first : (n : ℕ) (t : Tree) (f : Forest) → Among n (cons t f) (numbered n t)
among_first n t f =
    let q : n - n ≡ 0 = omega arith in
    let p = size_pos t in
    record { from = omega arith; found = ap (λ (i : ℕ). node_in (cons t f) i) q ∙ in_first t f 0 (omega arith) ∙ node_root t }

among_later : (n : ℕ) (t : Tree) (f : Forest) (c : Numbered) → Among (n + size t) f c → Among n (cons t f) c
among_later n t f c B =
    let l = B.from in
    let q : c.number - n - size t ≡ c.number - (n + size t) = omega arith in
    record { from = omega arith; found = in_later t f (c.number - n) (omega arith) ∙ ap (λ (i : ℕ). node_in f i) q ∙ B.found }

pub first_among : (p : Tree → Bool) (n : ℕ) (f : Forest) (c : Numbered) → first_that p n f ≡ some c → Among n f c
unfolding first_that
first_among p n nil c e = none_is e
first_among p n (cons t f) c e =
    cond-case (λ (o : Option Numbered). o ≡ some c) (Among n (cons t f) c) (p t) e
    (λ _ q. subst (λ (d : Numbered). Among n (cons t f) d) (some_is q) (among_first n t f))
    (λ _ q. among_later n t f c (first_among p (n + size t) f c q))

pub nth_among : (i n : ℕ) (f : Forest) (c : Numbered) → nth i n f ≡ some c → Among n f c
unfolding nth
nth_among i n nil c e = none_is e
nth_among zero n (cons t f) c e = subst (λ (d : Numbered). Among n (cons t f) d) (some_is e) (among_first n t f)
nth_among (suc i) n (cons t f) c e = among_later n t f c (nth_among i (n + size t) f c e)

-- the nodes of a value's children are its own, with numbers one higher
among_node : (t u : Tree) (i : ℕ) → node_in (children_of t) i ≡ some u → node_at t (suc i) ≡ some u
unfolding node_at children_of
among_node (leaf h s) u i e = e
among_node (branch h k f) u i e = e

-- a child of a node is a node
pub child_node : (tree : Tree) (n : ℕ) (t : Tree) (c : Numbered) → node_at tree n ≡ some t → Among (suc n) (children_of t) c
    → node_at tree c.number ≡ some c.value
unfolding node_at children_of
child_node tree n t c e B =
    let l = B.from in
    let q : n + suc (c.number - suc n) ≡ c.number = omega arith in
    ap (λ (i : ℕ). node_at tree i) (sym q) ∙ node_in_node t c.value (suc (c.number - suc n)) (among_node t c.value (c.number - suc n) B.found) tree n e

-- ---- a table that has been read

-- a node of what was read stands in the table
pub node_table : (words n : ℕ) (o : Outcome) (t : Tree) → node_of o n ≡ some t → Node (table_of words o) n t
unfolding node_of
node_table words n (taken tree) t e =
    let q : 0 + n ≡ n = omega arith in
    subst (λ (k : ℕ). Node (table_of words (taken tree)) k t) q (node_below (table_of words (taken tree)) t 0 tree (root_node words tree) n e)
node_table words n (refused number place) t e = none_is e

-- every number below the count is a node's
pub node_stands : (words n : ℕ) (o : Outcome) → n < node_count o → (t : Tree) × (node_of o n ≡ some t) × Node (table_of words o) n t
unfolding node_of node_count
node_stands words n (taken tree) h = let r = node_some tree n h in (r.0, r.1, node_table words n (taken tree) r.0 r.1)
node_stands words n (refused number place) h = absurd (omega arith)

-- and no other number is
pub node_count_law : (n : ℕ) (o : Outcome) (t : Tree) → node_of o n ≡ some t → n < node_count o
unfolding node_of node_count
node_count_law n (taken tree) t e = let f = node_fits t tree n e in let p = size_pos t in omega arith
node_count_law n (refused number place) t e = none_is e

-- what has a node was taken
pub node_taken : (n : ℕ) (o : Outcome) (t : Tree) → node_of o n ≡ some t → (tree : Tree) × (o ≡ taken tree) × (node_at tree n ≡ some t)
unfolding node_of
node_taken n (taken tree) t e = (tree, refl, e)
node_taken n (refused number place) t e = none_is e

-- a child of a value that stands in a table stands there too
pub child_stands : (table : List ℕ) (n : ℕ) (t : Tree) (c : Numbered) → Node table n t → Among (suc n) (children_of t) c → Node table c.number c.value
unfolding node_at children_of
child_stands table n t c N B =
    let l = B.from in
    let q : n + suc (c.number - suc n) ≡ c.number = omega arith in
    subst (λ (k : ℕ). Node table k c.value) q (node_below table c.value n t N (suc (c.number - suc n)) (among_node t c.value (c.number - suc n) B.found))
