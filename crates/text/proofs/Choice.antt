-- Choices by a test: what holds of both branches holds of the choice, what the choice has one of them has, two choices by one test are
-- related branch by branch; and tests with their two halves.
-- Assumes nothing.
use mathlib.Core.Path.{◌≡◌, refl, ap, subst}
use mathlib.Core.Bool.{Bool, true, false, not, cond, ◌&&◌, ◌||◌, true≢false, false≢true}
use lib.Dec.{T}

-- a property of both branches is one of the choice
pub cond_both {ℓ κ} : {A : Type ℓ} (P : A → Type κ) (b : Bool) {x y : A} → (T b → P x) → (T (not b) → P y) → P (cond b x y)
cond_both P true f g = f tt
cond_both P false f g = g tt

-- what a choice has, one of its branches has
pub cond-case {ℓ κ} : {A : Type ℓ} (P : A → Type κ) (Q : Type κ) (b : Bool) {x y : A} → P (cond b x y) → (b ≡ true → P x → Q) → (b ≡ false → P y → Q) → Q
cond-case P Q true h f g = f refl h
cond-case P Q false h f g = g refl h

pub cond-true {ℓ} : {A : Type ℓ} (b : Bool) (x y : A) → b ≡ true → cond b x y ≡ x
cond-true b x y e = ap (λ (t : Bool). cond t x y) e

pub cond-false {ℓ} : {A : Type ℓ} (b : Bool) (x y : A) → b ≡ false → cond b x y ≡ y
cond-false b x y e = ap (λ (t : Bool). cond t x y) e

-- what relates the branches relates the choices
pub cond-pair {ℓ κ} : {A B : Type ℓ} (P : A → B → Type κ) (b : Bool) {x y : A} {x' y' : B} → P x x' → P y y' → P (cond b x y) (cond b x' y')
cond-pair P true p q = p
cond-pair P false p q = q

-- the same for two tests that agree
pub cond-two {ℓ κ} : {A B : Type ℓ} (P : A → B → Type κ) (b b' : Bool) {x y : A} {x' y' : B} → b ≡ b' → P x x' → P y y'
    → P (cond b x y) (cond b' x' y')
cond-two P b b' {x} {y} {x'} {y'} e p q = subst (λ (t : Bool). P (cond b x y) (cond t x' y')) e (cond-pair P b p q)

-- ---- tests

pub is_true : (b : Bool) → T b → b ≡ true
is_true true t = refl
is_true false t = absurd t

pub is_false : (b : Bool) → T (not b) → b ≡ false
is_false true t = absurd t
is_false false t = refl

pub both_left : (a b : Bool) → T (a && b) → T a
both_left true b t = tt
both_left false b t = t

pub both_right : (a b : Bool) → T (a && b) → T b
both_right true b t = t
both_right false b t = absurd t

pub and_left : (a b : Bool) → a && b ≡ true → a ≡ true
and_left true b e = refl
and_left false b e = absurd (false≢true e)

pub and_right : (a b : Bool) → a && b ≡ true → b ≡ true
and_right true b e = e
and_right false b e = absurd (false≢true e)

pub and_off : (a b : Bool) → a ≡ false → a && b ≡ false
and_off true b e = absurd (true≢false e)
and_off false b e = refl

pub or_left : (a b : Bool) → a || b ≡ false → a ≡ false
or_left true b e = absurd (true≢false e)
or_left false b e = refl

pub or_right : (a b : Bool) → a || b ≡ false → b ≡ false
or_right true b e = absurd (true≢false e)
or_right false b e = e

pub or_case : (a b : Bool) (Q : Type 0) → T (a || b) → (T a → Q) → (T b → Q) → Q
or_case true b Q t f g = f tt
or_case false b Q t f g = g t
