-- The tree of tests: where bytes come to in it, and one node more.
-- Assumes nothing.
use mathlib.Core.Path.{◌≡◌, refl, sym, ap, ◌∙◌, subst}
use Prim.Native.Nat.{ℕ, zero, suc, ◌+◌, ◌*◌, ◌<◌, ◌≤◌}
use native.Mathlib.Omega.{arith}
use mathlib.Core.Bool.{Bool, true, false, true≢false}
use mathlib.Core.List.{List}
use lib.Dec.{eqb}
use lib.ListN.{length, get_or, set}
use lib.Seq.{get_or-set_same, get_or-set_other}
use borrow.Author.Tests.{eqb-true, eqb-false, eq-eqb, ne_eqb}
use Rattle.reader.specs.Reading.{max_nodes}
use Rattle.reader.specs.Internal.Index.{miss_of, passes, Route, stops, passed, failed, cells}

pub positive : (r : ℕ) → (r ≡ 0 → ⊥) → 0 < r
positive zero n = absurd (n refl)
positive (suc r) n = omega arith

-- ---- routes

module _ (links tests s : List ℕ) where
  -- the same bytes come to the same node
  pub route_same : (m c r e r' e' : ℕ) → Route links tests s m c r e → Route links tests s m c r' e' → r ≡ r'
  route_same m c r e r' e' (stops _ _ _ _ z p q) (stops _ _ _ _ z' p' q') = p ∙ sym p'
  route_same m c r e r' e' (stops _ _ _ _ z p q) (passed _ _ _ _ h t R) = let u : ⊥ = omega arith in absurd u
  route_same m c r e r' e' (stops _ _ _ _ z p q) (failed _ _ _ _ h t R) = let u : ⊥ = omega arith in absurd u
  route_same m c r e r' e' (passed _ _ _ _ h t R) (stops _ _ _ _ z p q) = let u : ⊥ = omega arith in absurd u
  route_same m c r e r' e' (passed _ _ _ _ h t R) (passed _ _ _ _ h' t' R') = route_same (get_or links c 0) (2 * get_or links c 0) r e r' e' R R'
  route_same m c r e r' e' (passed _ _ _ _ h t R) (failed _ _ _ _ h' t' R') = absurd (true≢false (sym t ∙ t'))
  route_same m c r e r' e' (failed _ _ _ _ h t R) (stops _ _ _ _ z p q) = let u : ⊥ = omega arith in absurd u
  route_same m c r e r' e' (failed _ _ _ _ h t R) (passed _ _ _ _ h' t' R') = absurd (true≢false (sym t' ∙ t))
  route_same m c r e r' e' (failed _ _ _ _ h t R) (failed _ _ _ _ h' t' R') = route_same m (2 * get_or links c 0 + 1) r e r' e' R R'

  -- the cell is empty, and lies before those of the node x
  pub route_empty : (m c r e : ℕ) → Route links tests s m c r e → get_or links e 0 ≡ 0
  route_empty m c r e (stops _ _ _ _ z p q) = ap (λ (k : ℕ). get_or links k 0) q ∙ z
  route_empty m c r e (passed _ _ _ _ h t R) = route_empty (get_or links c 0) (2 * get_or links c 0) r e R
  route_empty m c r e (failed _ _ _ _ h t R) = route_empty m (2 * get_or links c 0 + 1) r e R

  pub route_before : (x : ℕ) → ((c : ℕ) → 0 < get_or links c 0 → get_or links c 0 < x) → (m c r e : ℕ) → Route links tests s m c r e → c < 2 * x → e < 2 * x
  route_before x b m c r e (stops _ _ _ _ z p q) h = omega arith
  route_before x b m c r e (passed _ _ _ _ g t R) h = let w = b c g in route_before x b (get_or links c 0) (2 * get_or links c 0) r e R (omega arith)
  route_before x b m c r e (failed _ _ _ _ g t R) h = let w = b c g in route_before x b m (2 * get_or links c 0 + 1) r e R (omega arith)

  -- the node that bytes come to is the owner of the cell that they come to
  module _ (owner : ℕ → ℕ) (on_passed : (c : ℕ) → 0 < get_or links c 0 → owner (2 * get_or links c 0) ≡ get_or links c 0)
      (on_failed : (c : ℕ) → 0 < get_or links c 0 → owner (2 * get_or links c 0 + 1) ≡ owner c) where
    pub route_owner : (m c r e : ℕ) → Route links tests s m c r e → m ≡ owner c → r ≡ owner e
    route_owner m c r e (stops _ _ _ _ z p q) o = p ∙ o ∙ ap owner (sym q)
    route_owner m c r e (passed _ _ _ _ h t R) o = route_owner (get_or links c 0) (2 * get_or links c 0) r e R (sym (on_passed c h))
    route_owner m c r e (failed _ _ _ _ h t R) o = route_owner m (2 * get_or links c 0 + 1) r e R (o ∙ sym (on_failed c h))

  -- the node is the one that was passed last, or one of the tree
  pub route_node : (P : ℕ → Type 0) → ((c : ℕ) → 0 < get_or links c 0 → P (get_or links c 0)) → (m c r e : ℕ) → Route links tests s m c r e → P m → P r
  route_node P f m c r e (stops _ _ _ _ z p q) h = subst P (sym p) h
  route_node P f m c r e (passed _ _ _ _ g t R) h = route_node P f (get_or links c 0) (2 * get_or links c 0) r e R (f c g)
  route_node P f m c r e (failed _ _ _ _ g t R) h = route_node P f m (2 * get_or links c 0 + 1) r e R h

-- ---- one node more: x, with a test, in the empty cell `cell`

module _ (links tests : List ℕ) (x cell test : ℕ) (all_cells : length links ≡ cells) (all_tests : length tests ≡ max_nodes) (some : 0 < x) (few : x < max_nodes)
    (vacant : (c : ℕ) → 2 * x ≤ c → get_or links c 0 ≡ 0) (before : (c : ℕ) → 0 < get_or links c 0 → get_or links c 0 < x) (empty : get_or links cell 0 ≡ 0) (inside : cell < 2 * x) where
  pub here : get_or (set links cell x) cell 0 ≡ x
  here = get_or-set_same links cell x 0 (omega arith)

  else : (c : ℕ) → (c ≡ cell → ⊥) → get_or (set links cell x) c 0 ≡ get_or links c 0
  else c n = get_or-set_other links cell c x 0 n

  -- a cell that is in use is as it was
  used : (c : ℕ) → 0 < get_or links c 0 → get_or (set links cell x) c 0 ≡ get_or links c 0
  used c h = else c (λ e. let u : get_or links c 0 ≡ get_or links cell 0 = ap (λ (k : ℕ). get_or links k 0) e in omega arith)

  own_test : get_or (set tests x test) x 0 ≡ test
  own_test = get_or-set_same tests x test 0 (omega arith)

  old_test : (v : ℕ) → v < x → get_or (set tests x test) v 0 ≡ get_or tests v 0
  old_test v h = get_or-set_other tests x v test 0 (λ e. omega arith)

  module _ (s : List ℕ) where
    -- a step through a cell in use is as it was
    step_passed : (m c r e : ℕ) → (h : 0 < get_or links c 0) → passes (get_or tests (get_or links c 0) 0) s ≡ true
        → Route (set links cell x) (set tests x test) s (get_or links c 0) (2 * get_or links c 0) r e → Route (set links cell x) (set tests x test) s m c r e
    step_passed m c r e h t R =
        let u = used c h in
        let b = before c h in
        passed m c r e (omega arith) (ap (λ (k : ℕ). passes (get_or (set tests x test) k 0) s) u ∙ ap (λ (k : ℕ). passes k s) (old_test (get_or links c 0) b) ∙ t)
        (subst (λ (k : ℕ). Route (set links cell x) (set tests x test) s k (2 * k) r e) (sym u) R)

    step_failed : (m c r e : ℕ) → (h : 0 < get_or links c 0) → passes (get_or tests (get_or links c 0) 0) s ≡ false
        → Route (set links cell x) (set tests x test) s m (2 * get_or links c 0 + 1) r e → Route (set links cell x) (set tests x test) s m c r e
    step_failed m c r e h t R =
        let u = used c h in
        let b = before c h in
        failed m c r e (omega arith) (ap (λ (k : ℕ). passes (get_or (set tests x test) k 0) s) u ∙ ap (λ (k : ℕ). passes k s) (old_test (get_or links c 0) b) ∙ t)
        (subst (λ (k : ℕ). Route (set links cell x) (set tests x test) s m (2 * k + 1) r e) (sym u) R)

    -- bytes that pass the new test and came to the cell come to x
    pub route_new : passes test s ≡ true → (m c r : ℕ) → Route links tests s m c r cell → Route (set links cell x) (set tests x test) s m c x (2 * x)
    route_new t m c r (stops _ _ _ _ z p q) =
        let i : get_or (set links cell x) c 0 ≡ x = ap (λ (k : ℕ). get_or (set links cell x) k 0) (sym q) ∙ here in
        passed m c x (2 * x) (omega arith) (ap (λ (k : ℕ). passes (get_or (set tests x test) k 0) s) i ∙ ap (λ (k : ℕ). passes k s) own_test ∙ t)
        (subst (λ (k : ℕ). Route (set links cell x) (set tests x test) s k (2 * k) x (2 * x)) (sym i)
        (stops x (2 * x) x (2 * x) (else (2 * x) (λ e. omega arith) ∙ vacant (2 * x) (omega arith)) refl refl))
    route_new t m c r (passed _ _ _ _ h u R) = step_passed m c x (2 * x) h u (route_new t (get_or links c 0) (2 * get_or links c 0) r R)
    route_new t m c r (failed _ _ _ _ h u R) = step_failed m c x (2 * x) h u (route_new t m (2 * get_or links c 0 + 1) r R)

    -- bytes that came elsewhere, or do not pass the new test, come to the node to which they came
    pub route_kept : (m c r e : ℕ) → Route links tests s m c r e → (e ≡ cell → passes test s ≡ false) → (e' : ℕ) × Route (set links cell x) (set tests x test) s m c r e'
    route_kept m c r e (stops _ _ _ _ z p q) f = by (eqb c cell) refl
      where
        by : (b : Bool) → eqb c cell ≡ b → (e' : ℕ) × Route (set links cell x) (set tests x test) s m c r e'
        by true b =
            let k = eqb-true c cell b in
            let i : get_or (set links cell x) c 0 ≡ x = ap (λ (j : ℕ). get_or (set links cell x) j 0) k ∙ here in (
              2 * x + 1,
              failed m c r (2 * x + 1) (omega arith) (ap (λ (j : ℕ). passes (get_or (set tests x test) j 0) s) i ∙ ap (λ (j : ℕ). passes j s) own_test ∙ f (q ∙ k))
                  (subst (λ (j : ℕ). Route (set links cell x) (set tests x test) s m (2 * j + 1) r (2 * x + 1)) (sym i)
                  (stops m (2 * x + 1) r (2 * x + 1) (else (2 * x + 1) (λ g. omega arith) ∙ vacant (2 * x + 1) (omega arith)) p refl)),
            )
        by false b = (c, stops m c r c (else c (eqb-false c cell b) ∙ z) p refl)
    route_kept m c r e (passed _ _ _ _ h t R) f =
        let k = route_kept (get_or links c 0) (2 * get_or links c 0) r e R f in (k.0, step_passed m c r k.0 h t k.1)
    route_kept m c r e (failed _ _ _ _ h t R) f =
        let k = route_kept m (2 * get_or links c 0 + 1) r e R f in (k.0, step_failed m c r k.0 h t k.1)

-- ---- on the way

pub miss_low : (t : ℕ) (s : List ℕ) → miss_of t s < 2
unfolding miss_of
miss_low t s = omega arith

-- the way from cell c, with m the last node that was passed, is the rest of the way from the first cell
pub record Led (links tests s : List ℕ) (m c : ℕ) : Type 0 where
  pub on : (r e : ℕ) → Route links tests s m c r e → Route links tests s 0 0 r e

module _ {links tests s : List ℕ} where
  pub led_start : Led links tests s 0 0
  led_start = record { on = λ r e R. R }

  pub led_stop : {m c y : ℕ} → Led links tests s m c → y ≡ get_or links c 0 → y ≡ 0 → Route links tests s 0 0 m c
  led_stop {m} {c} L q z = L.on m c (stops m c m c (sym q ∙ z) refl refl)

  -- one test more, which is passed or not
  module _ {m c y t r : ℕ} (L : Led links tests s m c) (q : y ≡ get_or links c 0) (n : y ≡ 0 → ⊥) (p : t ≡ get_or tests y 0) (e : r ≡ miss_of t s) where
    some_is : 0 < get_or links c 0
    some_is = subst (λ (k : ℕ). 0 < k) q (positive y n)

    test_is : (b : Bool) → eqb r 0 ≡ b → passes (get_or tests (get_or links c 0) 0) s ≡ b
    test_is b f = ap (λ (k : ℕ). passes (get_or tests k 0) s) (sym q) ∙ ap (λ (k : ℕ). passes k s) (sym p) ∙ ap (λ (k : ℕ). eqb k 0) (sym e) ∙ f

    pub led_passed : r ≡ 0 → Led links tests s y (2 * y + r)
    led_passed u =
        let w : 2 * y + r ≡ 2 * y = omega arith in
        record {
          on =
              λ z d R.
              L.on z d
              (passed m c z d some_is (test_is true (eq-eqb r 0 u)) (subst (λ (k : ℕ). Route links tests s k (2 * k) z d) q (subst (λ (k : ℕ). Route links tests s y k z d) w R)));
        }

    pub led_failed : (r ≡ 0 → ⊥) → Led links tests s m (2 * y + r)
    led_failed u =
        let l : r < 2 = subst (λ (k : ℕ). k < 2) (sym e) (miss_low t s) in
        let v : 0 < r = positive r u in
        let w : 2 * y + r ≡ 2 * y + 1 = omega arith in
        record {
          on =
              λ z d R.
              L.on z d
              (failed m c z d some_is (test_is false (ne_eqb r 0 u)) (subst (λ (k : ℕ). Route links tests s m (2 * k + 1) z d) q (subst (λ (k : ℕ). Route links tests s m k z d) w R)));
        }
