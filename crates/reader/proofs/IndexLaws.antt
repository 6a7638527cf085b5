-- The index of an object's keys: the contents that it has, and one key more.
-- Assumes nothing.
use mathlib.Core.Path.{◌≡◌, refl, sym, ap, ◌∙◌, subst}
use Prim.Native.Nat.{ℕ, ◌+◌, ◌*◌, ◌<◌, ◌≤◌}
use native.Mathlib.Omega.{arith}
use mathlib.Core.Bool.{Bool, true, false, cond, ◌||◌, true≢false, false≢true}
use mathlib.Core.List.{List, [], ◌∷◌, ◌++◌}
use lib.Dec.{eqb, leb}
use lib.ListN.{get_or, set, length-set}
use lib.Seq.{get_or-set_other}
use borrow.Author.Tests.{eqb-true, eqb-false, eq-eqb, ne_eqb, leb-true, leb-false}
use Rattle.text.specs.declared.switches.Switches.{Switches}
use Rattle.text.specs.Bytes.{same_bytes}
use Rattle.text.proofs.SameLaws.{same_is, same_refl}
use Rattle.reader.specs.Reading.{max_nodes}
use Rattle.reader.specs.Syntax.{holds}
use Rattle.reader.specs.Internal.Index.{is_short, prefixed, Route, Vacant, KeyNode, Entry, Reached, Indexed, NewAt}
use Rattle.reader.proofs.RouteLaws.{route_empty, route_before, route_owner, route_node, here, route_new, route_kept}

-- ---- contents that are held

or_swap : (a b c : Bool) → (a || (b || c)) ≡ (b || (a || c))
or_swap true true c = refl
or_swap true false c = refl
or_swap false true c = refl
or_swap false false c = refl

or_right : (a b : Bool) → b ≡ true → (a || b) ≡ true
or_right true b e = refl
or_right false b e = e

holds_snoc : (ks : List (List ℕ)) (w v : List ℕ) → holds (ks ++ (w ∷ [])) v ≡ (same_bytes w v || holds ks v)
unfolding holds
holds_snoc [] w v = refl
holds_snoc (k ∷ ks) w v = ap (λ (b : Bool). same_bytes k v || b) (holds_snoc ks w v) ∙ or_swap (same_bytes k v) (same_bytes w v) (holds ks v)

holds_old : (ks : List (List ℕ)) (w v : List ℕ) → holds ks v ≡ true → holds (ks ++ (w ∷ [])) v ≡ true
holds_old ks w v e = holds_snoc ks w v ∙ or_right (same_bytes w v) (holds ks v) e

holds_own : (ks : List (List ℕ)) (w : List ℕ) → holds (ks ++ (w ∷ [])) w ≡ true
holds_own ks w = holds_snoc ks w w ∙ ap (λ (b : Bool). b || holds ks w) (sym (same_refl w))

-- what is held with w is w, or was held before
holds_case : (Q : Type 0) (ks : List (List ℕ)) (w v : List ℕ) → holds (ks ++ (w ∷ [])) v ≡ true → (w ≡ v → Q) → (holds ks v ≡ true → Q) → Q
holds_case Q ks w v e f g = by (same_bytes w v) refl (sym (holds_snoc ks w v) ∙ e)
  where
    by : (b : Bool) → same_bytes w v ≡ b → (same_bytes w v || holds ks v) ≡ true → Q
    by true b h = f (same_is w v b)
    by false b h = g (ap (λ (t : Bool). t || holds ks v) (sym b) ∙ h)

-- ---- the index

-- no key yet
pub index_start : (sw : Switches) (s tab links tests : List ℕ) (x : ℕ) → Vacant links tests → 0 < x → x ≤ max_nodes → Indexed sw s tab links tests x []
unfolding holds
index_start sw s tab links tests x E h k =
    record {
      rising =
          record {
            all_cells = E.all_cells;
            all_tests = E.all_tests;
            rises = λ c g. let z = E.empty c in omega arith;
            below = λ c. let z = E.empty c in omega arith;
          };
      some = h;
      few = k;
      vacant = λ c g. E.empty c;
      owner = λ c. 0;
      root = refl;
      on_passed = λ c g. let z = E.empty c in omega arith;
      on_failed = λ c g. refl;
      entry = λ c g. let z = E.empty c in let u : ⊥ = omega arith in absurd u;
      reached = λ w e g. absurd (false≢true e);
    }

module _ {sw : Switches} {s tab links tests : List ℕ} {x : ℕ} {ks : List (List ℕ)} where
  -- the nodes after x, which are not in it
  pub index_later : Indexed sw s tab links tests x ks → (y : ℕ) → x ≤ y → y ≤ max_nodes → Indexed sw s tab links tests y ks
  index_later X y h k =
      record {
        rising = X.rising;
        some = let z = X.some in omega arith;
        few = k;
        vacant = λ c g. X.vacant c (omega arith);
        owner = X.owner;
        root = X.root;
        on_passed = X.on_passed;
        on_failed = X.on_failed;
        entry =
            λ c g.
            let E = X.entry c g in
            record { before = let b = E.before in omega arith; content = E.content; node = E.node; held = E.held; short = E.short };
        reached = X.reached;
      }

  -- a key that is too long
  pub index_long : Indexed sw s tab links tests x ks → (w : List ℕ) → is_short w ≡ false → Indexed sw s tab links tests x (ks ++ (w ∷ []))
  index_long X w l =
      record {
        rising = X.rising;
        some = X.some;
        few = X.few;
        vacant = X.vacant;
        owner = X.owner;
        root = X.root;
        on_passed = X.on_passed;
        on_failed = X.on_failed;
        entry =
            λ c g.
            let E = X.entry c g in
            record { before = E.before; content = E.content; node = E.node; held = holds_old ks w E.content E.held; short = E.short };
        reached =
            λ v e h.
            holds_case (Reached sw s tab links tests v) ks w v e (λ q. absurd (true≢false (sym h ∙ ap is_short (sym q) ∙ l))) (λ g. X.reached v g h);
      }

  pub in_order : Indexed sw s tab links tests x ks → (c : ℕ) → 0 < get_or links c 0 → get_or links c 0 < x
  in_order X c h = (X.entry c h).before

  -- where a content comes to
  module _ (X : Indexed sw s tab links tests x ks) (w : List ℕ) where
    pub comes_before : (r e : ℕ) → Route links tests w 0 0 r e → e < 2 * x
    comes_before r e R = let h = X.some in route_before links tests w x (in_order X) 0 0 r e R (omega arith)

    pub comes_entry : (r e : ℕ) → Route links tests w 0 0 r e → 0 < r → Entry sw s tab x ks r
    comes_entry r e R = route_node links tests w (λ (y : ℕ). 0 < y → Entry sw s tab x ks y) (λ c g. λ h. X.entry c g) 0 0 r e R (λ h. let u : ⊥ = omega arith in absurd u)

    pub comes_owner : (r e : ℕ) → Route links tests w 0 0 r e → r ≡ X.owner e
    comes_owner r e R = route_owner links tests w X.owner X.on_passed X.on_failed 0 0 r e R (sym X.root)

-- the owner of a cell, with one node more
module _ (owner : ℕ → ℕ) (x cell : ℕ) where
  unfoldable owned : ℕ → ℕ
  owned c = cond (eqb c (2 * x)) x (cond (eqb c (2 * x + 1)) (owner cell) (owner c))

  owned_passed : owned (2 * x) ≡ x
  unfolding owned
  owned_passed = rw (eq-eqb (2 * x) (2 * x) refl)

  owned_failed : owned (2 * x + 1) ≡ owner cell
  unfolding owned
  owned_failed = let n : 2 * x + 1 ≡ 2 * x → ⊥ = λ e. omega arith in rw (ne_eqb (2 * x + 1) (2 * x) n, eq-eqb (2 * x + 1) (2 * x + 1) refl)

  owned_old : (c : ℕ) → c < 2 * x → owned c ≡ owner c
  unfolding owned
  owned_old c h =
      let n : c ≡ 2 * x → ⊥ = λ e. omega arith in
      let k : c ≡ 2 * x + 1 → ⊥ = λ e. omega arith in
      rw (ne_eqb c (2 * x) n, ne_eqb c (2 * x + 1) k)

-- a key that is new, and short
module _ {sw : Switches} {s tab links tests : List ℕ} {x : ℕ} {ks : List (List ℕ)} (X : Indexed sw s tab links tests x ks) (few : x < max_nodes) (w : List ℕ) (short : is_short w ≡ true)
    (N : KeyNode sw s tab x w) {cell test : ℕ} (F : NewAt sw s tab links tests w cell test) where
  inside : cell < 2 * x
  inside = comes_before X (prefixed w) F.at cell F.route

  empty : get_or links cell 0 ≡ 0
  empty = route_empty links tests (prefixed w) 0 0 F.at cell F.route

  here_is : (c : ℕ) → eqb c cell ≡ true → get_or (set links cell x) c 0 ≡ x
  here_is c b =
      ap (λ (k : ℕ). get_or (set links cell x) k 0) (eqb-true c cell b)
      ∙ here links tests x cell test X.rising.all_cells X.rising.all_tests X.some few X.vacant (in_order X) empty inside

  else_is : (c : ℕ) → eqb c cell ≡ false → get_or (set links cell x) c 0 ≡ get_or links c 0
  else_is c b = get_or-set_other links cell c x 0 (eqb-false c cell b)

  -- what holds of the new node and its cell, and of the others and theirs, holds of all
  of_links : (P : ℕ → ℕ → Type 0) → P cell x → ((c : ℕ) → 0 < get_or links c 0 → P c (get_or links c 0)) → (c : ℕ) → 0 < get_or (set links cell x) c 0 → P c (get_or (set links cell x) c 0)
  of_links P new old c h = by (eqb c cell) refl
    where
      by : (b : Bool) → eqb c cell ≡ b → P c (get_or (set links cell x) c 0)
      by true b = subst (P c) (sym (here_is c b)) (subst (λ (k : ℕ). P k x) (sym (eqb-true c cell b)) new)
      by false b = let q = else_is c b in subst (P c) (sym q) (old c (omega arith))

  used_before : (c : ℕ) → 0 < get_or links c 0 → c < 2 * x
  used_before c h = by (leb (2 * x) c) refl
    where
      by : (b : Bool) → leb (2 * x) c ≡ b → c < 2 * x
      by true b = let z = X.vacant c (leb-true (2 * x) c b) in let u : ⊥ = omega arith in absurd u
      by false b = leb-false (2 * x) c b

  pub index_more : Indexed sw s tab (set links cell x) (set tests x test) (x + 1) (ks ++ (w ∷ []))
  index_more =
      record {
        rising =
            record {
              all_cells = length-set links cell x ∙ X.rising.all_cells;
              all_tests = length-set tests x test ∙ X.rising.all_tests;
              rises = of_links (λ (c v : ℕ). c < 2 * v) inside X.rising.rises;
              below = λ c. below_is c (eqb c cell) refl;
            };
        some = omega arith;
        few = omega arith;
        vacant = λ c g. get_or-set_other links cell c x 0 (λ e. let i = inside in omega arith) ∙ X.vacant c (omega arith);
        owner = owned X.owner x cell;
        root = owned_old X.owner x cell 0 (let z = X.some in omega arith) ∙ X.root;
        on_passed =
            of_links (λ (c v : ℕ). owned X.owner x cell (2 * v) ≡ v) (owned_passed X.owner x cell)
            (λ c g. let b = in_order X c g in owned_old X.owner x cell (2 * get_or links c 0) (omega arith) ∙ X.on_passed c g);
        on_failed =
            of_links (λ (c v : ℕ). owned X.owner x cell (2 * v + 1) ≡ owned X.owner x cell c)
            (owned_failed X.owner x cell ∙ sym (owned_old X.owner x cell cell inside))
            (λ c g. let b = in_order X c g in owned_old X.owner x cell (2 * get_or links c 0 + 1) (omega arith) ∙ X.on_failed c g ∙ sym (owned_old X.owner x cell c (used_before c g)));
        entry =
            of_links (λ (c v : ℕ). Entry sw s tab (x + 1) (ks ++ (w ∷ [])) v) (record { before = omega arith; content = w; node = N; held = holds_own ks w; short = short })
            (λ c g. let E = X.entry c g in record { before = let b = E.before in omega arith; content = E.content; node = E.node; held = holds_old ks w E.content E.held; short = E.short });
        reached = λ v e h. holds_case (Reached sw s tab (set links cell x) (set tests x test) v) ks w v e (λ q. new_reached v q) (λ g. old_reached v (X.reached v g h) h);
      }
    where
      below_is : (c : ℕ) (b : Bool) → eqb c cell ≡ b → get_or (set links cell x) c 0 < max_nodes
      below_is c true b = let q = here_is c b in omega arith
      below_is c false b = let q = else_is c b in let z = X.rising.below c in omega arith

      new_reached : (v : List ℕ) → w ≡ v → Reached sw s tab (set links cell x) (set tests x test) v
      new_reached v q =
          subst (Reached sw s tab (set links cell x) (set tests x test)) q
          (record {
            at = x;
            cell = 2 * x;
            route =
                route_new links tests x cell test X.rising.all_cells X.rising.all_tests X.some few X.vacant (in_order X) empty inside (prefixed w) F.own 0 0 F.at
                F.route;
            node = N;
          })

      old_reached : (v : List ℕ) → Reached sw s tab links tests v → is_short v ≡ true → Reached sw s tab (set links cell x) (set tests x test) v
      old_reached v R h =
          let k =
          route_kept links tests x cell test X.rising.all_cells X.rising.all_tests X.some few X.vacant (in_order X) empty inside (prefixed v) 0 0 R.at R.cell
          R.route
          (λ e.
          F.apart v
          (subst (λ (y : ℕ). KeyNode sw s tab y v)
          (comes_owner X (prefixed v) R.at R.cell R.route ∙ ap X.owner e ∙ sym (comes_owner X (prefixed w) F.at cell F.route)) R.node)
          h) in
          record { at = R.at; cell = k.0; route = k.1; node = R.node }
