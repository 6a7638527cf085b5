-- What it is for a height to be measured, by arithmetic.
-- Assumes nothing.
use mathlib.Core.Path.{◌≡◌, refl, sym, ap, ◌∙◌}
use Prim.Native.Nat.{ℕ, suc, ◌*◌, ◌/◌, ◌%◌, ◌^◌, ◌≤◌, ◌<◌}
use native.Mathlib.Nat.{mod-add-div', mul-mod_left, mul-div_cancel, mul_right_comm, one-le-pow}
use native.Mathlib.Omega.{arith}
use mathlib.Core.Bool.{Bool, true, false, cond, ◌&&◌, false≢true}
use mathlib.Core.Option.{Option, none, some}
use lib.Dec.{leb, ltb, eqb}
use lib.IntN.{pos, negsuc}
use borrow.Author.Tests.{le-ltb, ltb-false, leb-true, eqb-true, eq-eqb}
use Rattle.text.proofs.Choice.{cond-case, cond-true, cond-false}
use Rattle.reader.specs.Tree as T
use Rattle.reader.specs.Tree.{Scalar}
use Rattle.nodes.proofs.WordLaws.{some_is, none_is}
use Rattle.summary.specs.Summary.{exact_quotient, scaled, as_height, scalar_height}
use Rattle.summary.specs.declared.heights.Height.{Height}
use Rattle.summary.specs.declared.heights.Height.TheVariants as H
use Rattle.summary.proofs.ScaleLaws.{measured_in_law}
use Rattle.theorems.specs.Summary.{NotBelow0, Micrometres, HeightsExact}

-- ---- no two sorts of heights are the same

unfit_measured : (u : ℕ) → H.Unfit ≡ H.Measured u → ⊥
unfit_measured u e = let v : ◌≡◌ {A = ℕ} 0 1 = cc in omega arith

null_measured : (u : ℕ) → H.Null ≡ H.Measured u → ⊥
null_measured u e = let v : ◌≡◌ {A = ℕ} 0 1 = cc in omega arith

absent_measured : (u : ℕ) → H.Absent ≡ H.Measured u → ⊥
absent_measured u e = let v : ◌≡◌ {A = ℕ} 0 1 = cc in omega arith

unfit_null : H.Unfit ≡ H.Null → ⊥
unfit_null e = let v : ◌≡◌ {A = ℕ} 0 1 = cc in omega arith

unfit_absent : H.Unfit ≡ H.Absent → ⊥
unfit_absent e = let v : ◌≡◌ {A = ℕ} 0 1 = cc in omega arith

null_absent : H.Null ≡ H.Absent → ⊥
null_absent e = let v : ◌≡◌ {A = ℕ} 0 1 = cc in omega arith

-- ---- whole quotients

quotient_whole : (m d q : ℕ) → exact_quotient m d ≡ some q → q * d ≡ m
unfolding exact_quotient
quotient_whole m d q e =
    cond-case (λ (o : Option ℕ). o ≡ some q) (q * d ≡ m) (eqb (m % d) 0) e
    (λ z f.
    let r = eqb-true (m % d) 0 z in
    let w = mod-add-div' m d in
    let s : m / d * d ≡ m = omega arith in
    ap (λ (k : ℕ). k * d) (sym (some_is f)) ∙ s)
    (λ _ f. none_is f)

whole_quotient : (m d q : ℕ) → 0 < d → q * d ≡ m → exact_quotient m d ≡ some q
unfolding exact_quotient
whole_quotient m d q h e =
    cond-true (eqb (m % d) 0) (some (m / d)) none (eq-eqb (m % d) 0 (ap (λ (k : ℕ). k % d) (sym e) ∙ mul-mod_left q d))
    ∙ ap (λ (k : ℕ). some k) (ap (λ (k : ℕ). k / d) (sym e) ∙ mul-div_cancel q h)

-- ---- the range

in_range : (o : Option ℕ) (u : ℕ) → as_height o ≡ H.Measured u → (o ≡ some u) × (u ≤ 10000000)
unfolding as_height
in_range none u e = absurd (unfit_measured u e)
in_range (some w) u e =
    cond-case (λ (h : Height). h ≡ H.Measured u) ((some w ≡ some u) × (u ≤ 10000000)) (leb w 10000000) e
    (λ l f. let q : w ≡ u = cc in let k = leb-true w 10000000 l in (ap (λ (x : ℕ). some x) q, omega arith))
    (λ _ f. absurd (unfit_measured u f))

range_in : (o : Option ℕ) (u : ℕ) → o ≡ some u → u ≤ 10000000 → as_height o ≡ H.Measured u
range_in o u e l = ap as_height e ∙ sym (measured_in_law u l)

-- it gives measured and unfit alone
never : (h : Height) → (H.Unfit ≡ h → ⊥) → ((u : ℕ) → H.Measured u ≡ h → ⊥) → (o : Option ℕ) → as_height o ≡ h → ⊥
unfolding as_height
never h n m none e = n e
never h n m (some w) e = cond-case (λ (k : Height). k ≡ h) ⊥ (leb w 10000000) e (λ _ f. m w f) (λ _ f. n f)

never_null : (o : Option ℕ) → as_height o ≡ H.Null → ⊥
never_null = never H.Null unfit_null (λ u e. null_measured u (sym e))

never_absent : (o : Option ℕ) → as_height o ≡ H.Absent → ⊥
never_absent = never H.Absent unfit_absent (λ u e. absent_measured u (sym e))

-- ---- a decimal

-- a height other than unfit is that of a number that isn't below 0
signed : (minus : Bool) (m : ℕ) (o : Option ℕ) (h : Height) → (H.Unfit ≡ h → ⊥) → cond (minus && ltb 0 m) H.Unfit (as_height o) ≡ h
    → NotBelow0 minus m × (as_height o ≡ h)
signed false m o h n e = ((λ f. absurd (false≢true f)), e)
signed true m o h n e =
    cond-case (λ (k : Height). k ≡ h) (NotBelow0 true m × (as_height o ≡ h)) (ltb 0 m) e (λ _ f. absurd (n f))
    (λ l f. ((λ _. let k = ltb-false 0 m l in omega arith), f))

sign_fits : (minus : Bool) (m : ℕ) (o : Option ℕ) → NotBelow0 minus m → cond (minus && ltb 0 m) H.Unfit (as_height o) ≡ as_height o
sign_fits false m o z = refl
sign_fits true m o z = let k = z refl in cond-false (ltb 0 m) H.Unfit (as_height o) (le-ltb 0 m (omega arith))

-- ---- every value that holds no others

measured : (s : Scalar) (u : ℕ) → scalar_height s ≡ H.Measured u → Micrometres s u × (u ≤ 10000000)
unfolding scalar_height Micrometres scaled
measured (T.text t c) u e = absurd (unfit_measured u e)
measured (T.bytes t c) u e = absurd (unfit_measured u e)
measured (T.integer (pos n)) u e = let r = in_range (some (n * 1000)) u e in (sym (some_is r.0), r.1)
measured (T.integer (negsuc n)) u e = absurd (unfit_measured u e)
measured (T.decimal minus m (pos n)) u e =
    let s = signed minus m (some (m * 1000 * 10 ^ n)) (H.Measured u) (unfit_measured u) e in
    let r = in_range (some (m * 1000 * 10 ^ n)) u s.1 in
    ((s.0, sym (some_is r.0) ∙ mul_right_comm m 1000 (10 ^ n)), r.1)
measured (T.decimal minus m (negsuc n)) u e =
    let s = signed minus m (exact_quotient (m * 1000) (10 ^ suc n)) (H.Measured u) (unfit_measured u) e in
    let r = in_range (exact_quotient (m * 1000) (10 ^ suc n)) u s.1 in
    ((s.0, quotient_whole (m * 1000) (10 ^ suc n) u r.0), r.1)
measured T.false_value u e = absurd (unfit_measured u e)
measured T.true_value u e = absurd (unfit_measured u e)
measured T.null_value u e = absurd (null_measured u e)

measures : (s : Scalar) (u : ℕ) → Micrometres s u → u ≤ 10000000 → scalar_height s ≡ H.Measured u
unfolding scalar_height Micrometres scaled
measures (T.text t c) u e l = absurd e
measures (T.bytes t c) u e l = absurd e
measures (T.integer (pos n)) u e l = range_in (some (n * 1000)) u (ap (λ (x : ℕ). some x) (sym e)) l
measures (T.integer (negsuc n)) u e l = absurd e
measures (T.decimal minus m (pos n)) u e l =
    sign_fits minus m (some (m * 1000 * 10 ^ n)) e.0
    ∙ range_in (some (m * 1000 * 10 ^ n)) u (ap (λ (x : ℕ). some x) (mul_right_comm m 1000 (10 ^ n) ∙ sym e.1)) l
measures (T.decimal minus m (negsuc n)) u e l =
    sign_fits minus m (exact_quotient (m * 1000) (10 ^ suc n)) e.0
    ∙ range_in (exact_quotient (m * 1000) (10 ^ suc n)) u (whole_quotient (m * 1000) (10 ^ suc n) u (one-le-pow (suc n) 10 (omega arith)) e.1) l
measures T.false_value u e l = absurd e
measures T.true_value u e l = absurd e
measures T.null_value u e l = absurd e

only_null : (s : Scalar) → scalar_height s ≡ H.Null → s ≡ T.null_value
unfolding scalar_height
only_null (T.text t c) e = absurd (unfit_null e)
only_null (T.bytes t c) e = absurd (unfit_null e)
only_null (T.integer (pos n)) e = absurd (never_null (some (n * 1000)) e)
only_null (T.integer (negsuc n)) e = absurd (unfit_null e)
only_null (T.decimal minus m p) e = absurd (never_null (scaled (m * 1000) p) (signed minus m (scaled (m * 1000) p) H.Null unfit_null e).1)
only_null T.false_value e = absurd (unfit_null e)
only_null T.true_value e = absurd (unfit_null e)
only_null T.null_value e = refl

not_absent : (s : Scalar) → scalar_height s ≡ H.Absent → ⊥
unfolding scalar_height
not_absent (T.text t c) e = unfit_absent e
not_absent (T.bytes t c) e = unfit_absent e
not_absent (T.integer (pos n)) e = never_absent (some (n * 1000)) e
not_absent (T.integer (negsuc n)) e = unfit_absent e
not_absent (T.decimal minus m p) e = never_absent (scaled (m * 1000) p) (signed minus m (scaled (m * 1000) p) H.Absent unfit_absent e).1
not_absent T.false_value e = unfit_absent e
not_absent T.true_value e = unfit_absent e
not_absent T.null_value e = null_absent e

pub heights_exact : HeightsExact
unfolding HeightsExact scalar_height
heights_exact s =
    record {
      measured = λ u e. measured s u e;
      measures = λ u e l. measures s u e l;
      null = λ e. only_null s e;
      is_null_law = λ e. ap scalar_height e;
      not_absent = λ e. not_absent s e;
    }
