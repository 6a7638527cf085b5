-- Every node but the root is a child of another.
-- Assumes nothing.
use mathlib.Core.Path.{◌≡◌, sym, ap, ◌∙◌, subst}
use Prim.Native.Nat.{ℕ, zero, suc, ◌+◌, ◌-◌, ◌<◌}
use native.Mathlib.Omega.{arith}
use mathlib.Core.Option.{some}
use Rattle.reader.specs.Tree.{Tree, leaf, branch, Forest, nil, cons, size}
use Rattle.nodes.specs.Nodes.{node_at, node_in, children_of, numbered, nth, element}
use Rattle.nodes.proofs.WordLaws.{some_is, none_is}
use Rattle.nodes.proofs.NodeLaws.{in_case, node_root, nth_among, child_node}

-- the value u with the number m is a child of a node of the tree
pub record ChildOf (tree : Tree) (m : ℕ) (u : Tree) : Type 0 where
  pub parent : ℕ
  pub value : Tree
  pub index : ℕ
  pub is_node_law : node_at tree parent ≡ some value
  pub is_child : element index parent value ≡ some (numbered m u)

-- the values f are the children from the index i on of the value t with the number n, and the first of them has the number x
record Rest (n : ℕ) (t : Tree) (i x : ℕ) (f : Forest) : Type 0 where
  nth_is : (j : ℕ) → nth j x f ≡ element (i + j) n t

rest_next : (n : ℕ) (t : Tree) (i x : ℕ) (u : Tree) (f : Forest) → Rest n t i x (cons u f) → Rest n t (suc i) (x + size u) f
unfolding nth
rest_next n t i x u f R =
    record { nth_is = λ j. let q : i + suc j ≡ suc i + j = omega arith in R.nth_is (suc j) ∙ ap (λ (k : ℕ). element k n t) q }

rest_all : (n : ℕ) (t : Tree) → Rest n t 0 (suc n) (children_of t)
unfolding element
rest_all n t = record { nth_is = λ j. let q : j ≡ 0 + j = omega arith in ap (λ (k : ℕ). nth k (suc n) (children_of t)) q }

rest_first : (n : ℕ) (t : Tree) (i x : ℕ) (u : Tree) (f : Forest) → Rest n t i x (cons u f) → element i n t ≡ some (numbered x u)
unfolding nth
rest_first n t i x u f R = let q : i ≡ i + 0 = omega arith in ap (λ (k : ℕ). element k n t) q ∙ sym (R.nth_is 0)

module _ (tree : Tree) (u : Tree) where
  -- at a child, or below it
  at_or_below : (n : ℕ) (t : Tree) (i x : ℕ) (v : Tree) (f : Forest) (m : ℕ) → node_at tree n ≡ some t → Rest n t i x (cons v f) → node_at v m ≡ some u
      → ((j : ℕ) → node_at tree x ≡ some v → node_at v (suc j) ≡ some u → ChildOf tree (x + suc j) u) → ChildOf tree (x + m) u
  unfolding element
  at_or_below n t i x v f zero e R d below =
      let q : x ≡ x + 0 = omega arith in
      let w : v ≡ u = some_is (sym (node_root v) ∙ d) in
      record { parent = n; value = t; index = i; is_node_law = e; is_child = rest_first n t i x v f R ∙ (λ j. some (numbered (q j) (w j))) }
  at_or_below n t i x v f (suc m) e R d below =
      below m (child_node tree n t (numbered x v) e (nth_among i (suc n) (children_of t) (numbered x v) (rest_first n t i x v f R))) d

  mutual
    unfolding node_at children_of

    -- below a node
    below : (n : ℕ) (t : Tree) (i : ℕ) → node_at tree n ≡ some t → node_at t (suc i) ≡ some u → ChildOf tree (n + suc i) u
    below n (leaf h s) i e d = none_is d
    below n (branch h k f) i e d =
        let q : suc n + i ≡ n + suc i = omega arith in
        subst (λ (m : ℕ). ChildOf tree m u) q (among n (branch h k f) 0 (suc n) f i e (rest_all n (branch h k f)) d)

    -- at or below one of its children
    among : (n : ℕ) (t : Tree) (i x : ℕ) (f : Forest) (m : ℕ) → node_at tree n ≡ some t → Rest n t i x f → node_in f m ≡ some u → ChildOf tree (x + m) u
    among n t i x nil m e R d = none_is d
    among n t i x (cons v f) m e R d =
        in_case (ChildOf tree (x + m) u) v u f m d (λ _ q. at_or_below n t i x v f m e R q (λ j p r. below x v j p r))
        (λ l q.
        let z : x + size v + (m - size v) ≡ x + m = omega arith in
        subst (λ (k : ℕ). ChildOf tree k u) z (among n t (suc i) (x + size v) f (m - size v) e (rest_next n t i x v f R) q))

-- every node but the root
pub node_child : (tree : Tree) (m : ℕ) (u : Tree) → node_at tree m ≡ some u → 0 < m → ChildOf tree m u
node_child tree zero u e h = absurd (omega arith)
node_child tree (suc m) u e h =
    let q : 0 + suc m ≡ suc m = omega arith in
    subst (λ (k : ℕ). ChildOf tree k u) q (below tree u 0 tree m (node_root tree) e)
