-- Where a path leads: to a node of the text, or to a step whose number is below the count of nodes.
-- Assumes nothing.
use Rattle.std.specs.Prelude.{Ok, Err}
use mathlib.Core.Path.{◌≡◌, refl, sym, subst}
use Prim.Native.Nat.{ℕ, suc, ◌+◌, ◌≤◌, ◌<◌}
use native.Mathlib.Omega.{arith}
use mathlib.Core.Option.{Option, none, some}
use mathlib.Core.List.{List, [], ◌∷◌}
use lib.ListN.{length}
use Rattle.text.specs.declared.switches.Switches.{Switches}
use Rattle.text.specs.Refusal.{Refusal}
use Rattle.reader.specs.Tree.{Tree, size}
use Rattle.reader.specs.Syntax.{Outcome, taken, refused}
use Rattle.reader.specs.Reading.{reading, node_count, max_text, max_nodes}
use Rattle.reader.proofs.PlaceBound.{PlaceWithin, place_law}
use Rattle.reader.proofs.SizeLaws.{count_law}
use Rattle.reader.proofs.RowLaws.{size_pos}
use Rattle.nodes.specs.Nodes.{node_at, Numbered}
use Rattle.nodes.proofs.NodeLaws.{node_fits, child_node, node_root}
use Rattle.path.specs.Path.{steps, child, onward, follow, found}
use Rattle.std.specs.declared.result.Result.{Result}
use Rattle.path.proofs.FollowLaws.{child_among}

-- in a tree with so many nodes: to a node's number, or to 23 and the number of a step, with `left` steps from the step k on
unfoldable pub Leads : (nodes k left : ℕ) → Result ℕ Refusal → Type 0
Leads nodes k left (Ok n) = n < nodes
Leads nodes k left (Err f) = (f.number ≡ 23) × (f.place < nodes) × (f.place < k + left)

more_left : (nodes k left : ℕ) (a : Result ℕ Refusal) → Leads nodes (suc k) left a → Leads nodes k (suc left) a
unfolding Leads
more_left nodes k left (Ok n) h = h
more_left nodes k left (Err f) h = (h.0, h.1, let l = h.2 in omega arith)

module _ (sw : Switches) (text : List ℕ) (tree : Tree) where
  -- a child has a greater number than its parent, so at the step k the number is at least k
  follow_leads : (k n : ℕ) (t : Tree) (ss : List (List ℕ)) → node_at tree n ≡ some t → k ≤ n → Leads (size tree) k (length ss) (follow sw text k n t ss)
  unfolding follow onward Leads
  follow_leads k n t [] e h = let f = node_fits t tree n e in let p = size_pos t in omega arith
  follow_leads k n t (s ∷ ss) e h = by (child sw text n t s) refl (λ c. follow_leads (suc k) c.number c.value ss)
    where
      by : (o : Option Numbered) → child sw text n t s ≡ o
          → ((c : Numbered) → node_at tree c.number ≡ some c.value → suc k ≤ c.number → Leads (size tree) (suc k) (length ss) (follow sw text (suc k) c.number c.value ss))
          → Leads (size tree) k (suc (length ss)) (onward k o (λ c. follow sw text (suc k) c.number c.value ss))
      by none q go = let f = node_fits t tree n e in let p = size_pos t in (refl, omega arith, omega arith)
      by (some c) q go = let A = child_among sw text s n t c q in let l = A.from in more_left (size tree) k (length ss) (follow sw text (suc k) c.number c.value ss) (go c (child_node tree n t c e A) (omega arith))

  pub found_leads : (path : List ℕ) → Leads (size tree) 0 (length (steps path)) (follow sw text 0 0 tree (steps path))
  found_leads path = follow_leads 0 0 tree (steps path) (node_root tree) (omega arith)

-- ---- the call

-- of a text with so many nodes: a node's number, or a place that can be packed with a refusal's number
Fits : (nodes : ℕ) → Result ℕ Refusal → Type 0
Fits nodes (Ok n) = n < nodes
Fits nodes (Err f) = f.place ≤ max_text

leads_fits : (nodes left : ℕ) (a : Result ℕ Refusal) → nodes ≤ max_nodes → Leads nodes 0 left a → Fits nodes a
unfolding Leads Fits
leads_fits nodes left (Ok n) l h = h
leads_fits nodes left (Err f) l h = let b = h.1 in omega arith

found_by : (sw : Switches) (text path : List ℕ) (o : Outcome) → node_count o ≤ max_nodes → PlaceWithin max_text o → Fits (node_count o) (found sw text path o)
unfolding found node_count PlaceWithin Fits
found_by sw text path (taken tree) l p =
    leads_fits (size tree) (length (steps path)) (follow sw text 0 0 tree (steps path)) l (found_leads sw text tree path)
found_by sw text path (refused number place) l p = p

module _ (sw : Switches) (words : ℕ) (text path : List ℕ) where
  found_fits : Fits (node_count (reading sw words text)) (found sw text path (reading sw words text))
  found_fits =
      let c = count_law sw words text in
      found_by sw text path (reading sw words text) (omega arith) (place_law sw words text)

  -- what is found is a node of the text
  pub found_node : (n : ℕ) → Ok n ≡ found sw text path (reading sw words text) → n < node_count (reading sw words text)
  unfolding Fits
  found_node n e = subst (Fits (node_count (reading sw words text))) (sym e) found_fits

  -- a refusal's place can be packed: a step's number is below the count of nodes
  pub found_place : (f : Refusal) → Err f ≡ found sw text path (reading sw words text) → f.place ≤ max_text
  unfolding Fits
  found_place f e = subst (Fits (node_count (reading sw words text))) (sym e) found_fits
