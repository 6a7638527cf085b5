-- Req 07: "every node's span lies inside its parent's": the words of the table.
-- Assumes nothing.
use mathlib.Core.Path.{◌≡◌, sym, subst}
use Prim.Native.Nat.{ℕ, zero, suc, ◌+◌, ◌-◌, ◌≤◌, ◌<◌}
use native.Mathlib.Decide.{dec_lt}
use native.Mathlib.Omega.{arith}
use mathlib.Core.Bool.{false}
use mathlib.Core.List.{List}
use lib.ListN.{length}
use Rattle.reader.specs.Tree.{Tree, leaf, branch, Forest, nil, cons, head_of, size, sizes}
use Rattle.reader.specs.Syntax.{Outcome, taken, refused}
use Rattle.reader.specs.Reading.{limits_of, reading, node_count, table_of, word_of}
use Rattle.reader.proofs.NestLaws.{value_start, value_stop, Nest, NestIn, nest_forwards, OutcomeNests, outcome_nests}
use Rattle.nodes.specs.Nodes.{children_of}
use Rattle.nodes.specs.Stands.{Node}
use Rattle.nodes.proofs.WordLaws.{word_span}
use Rattle.nodes.proofs.WalkLaws.{Ahead, ahead_all, ahead_node, ahead_parent, ahead_next}
use Rattle.nodes.proofs.NodeLaws.{root_node}
use Rattle.theorems.specs.Nesting.{InParent, Nested}

module _ (T : List ℕ) where
  in_parent : (parent n start stop : ℕ) → word_of T n 1 ≡ parent → (word_of T n 2 ≡ start) × (word_of T n 3 ≡ stop) → parent < n
      → word_of T parent 2 ≤ start → start ≤ stop → stop ≤ word_of T parent 3 → InParent T n
  in_parent parent n start stop e₁ w h a b c =
      let e₂ = w.0 in
      let e₃ = w.1 in
      record {
        earlier = subst (λ (x : ℕ). x < n) (sym e₁) h;
        from = subst (λ (x : ℕ). word_of T x 2 ≤ word_of T n 2) (sym e₁) (subst (λ (x : ℕ). word_of T parent 2 ≤ x) (sym e₂) a);
        forwards = omega arith;
        to = subst (λ (x : ℕ). word_of T n 3 ≤ word_of T x 3) (sym e₁) (subst (λ (x : ℕ). x ≤ word_of T parent 3) (sym e₃) c);
      }

  mutual
    unfolding size Nest head_of children_of

    tree_nested : (n : ℕ) (t : Tree) → Node T n t → Nest t → (i : ℕ) → 0 < i → i < size t → InParent T (n + i)
    tree_nested n (leaf h s) N m i p q = absurd (omega arith)
    tree_nested n (branch h k f) N m zero p q = absurd (omega arith)
    tree_nested n (branch h k f) N m (suc i) p q =
        let w = word_span T n (branch h k f) N in
        let e : n + 1 + i ≡ n + suc i = omega arith in
        subst (InParent T) e
        (forest_nested n (n + 1) f (omega arith) (ahead_all T n (branch h k f) N)
        (subst (λ (x : ℕ). NestIn x (word_of T n 3) f) (sym w.0) (subst (λ (x : ℕ). NestIn h.value.start x f) (sym w.1) m.1))
        i (omega arith))

    forest_nested : (parent x : ℕ) (f : Forest) → parent < x → Ahead T parent x f → NestIn (word_of T parent 2) (word_of T parent 3) f
        → (i : ℕ) → i < sizes f → InParent T (x + i)
    forest_nested parent x nil p A m i q = absurd (omega arith)
    forest_nested parent x (cons t f) p A m i q =
        elim (dec_lt i (size t)) [
          | yes lt ↦ first i lt (λ j h k. tree_nested x t (ahead_node T parent x t f A) m.2 j h k)
          | no ge ↦
              let e : x + size t + (i - size t) ≡ x + i = omega arith in
              subst (InParent T) e (forest_nested parent (x + size t) f (omega arith) (ahead_next T parent x t f A) m.3 (i - size t) (omega arith))
        ]
      where
        first : (j : ℕ) → j < size t → ((j : ℕ) → 0 < j → j < size t → InParent T (x + j)) → InParent T (x + j)
        first zero k g =
            let e : x ≡ x + 0 = omega arith in
            subst (InParent T) e
            (in_parent parent x (value_start t) (value_stop t) (ahead_parent T parent x t f A) (word_span T x t (ahead_node T parent x t f A)) p m.0 (nest_forwards t m.2) m.1)
        first (suc j) k g = g (suc j) (omega arith) k

-- ---- the theorem

nested_tree : (words node n : ℕ) (o : Outcome) → OutcomeNests n o → 0 < node → node < node_count o → InParent (table_of words o) node
unfolding OutcomeNests node_count
nested_tree words node n (taken t) a p q =
    let e : 0 + node ≡ node = omega arith in
    subst (InParent (table_of words (taken t))) e (tree_nested (table_of words (taken t)) 0 t (root_node words t) a.0 node p q)
nested_tree words node n (refused k place) a p q = absurd (omega arith)

pub nested_law : Nested
unfolding Nested reading
nested_law sw words text node p q = nested_tree words node (length text) (reading sw words text) (outcome_nests sw false (limits_of words) text) p q
