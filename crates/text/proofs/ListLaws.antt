-- Laws about lists of numbers alone: a list by its places, parts of lists, and stores. The crates above use them too.
-- Assumes nothing.
use mathlib.Core.Path.{◌≡◌, refl, sym, ap, ◌∙◌}
use Prim.Native.Nat.{ℕ, zero, suc, ◌+◌, ◌-◌, ◌≤◌, ◌<◌, zero-le, suc-le-suc}
use native.Mathlib.Nat.{add-zero, sub-zero}
use native.Mathlib.Numerals.{add-one}
use native.Mathlib.Omega.{arith}
use mathlib.Core.List.{List, [], ◌∷◌, ◌++◌}
use lib.ListN.{length, take, drop, get_or, set, replicate, length-set, length-append, length-drop}
use lib.Seq.{sets, sets-eq, set_comm, get_or-set_same, get_or-set_other, drop-cons, take-length, take-take, take_at, drop_at, length-take-le}

-- ---- a list by its places

-- 0 stands past the end
pub get_d_past : (s : List ℕ) (i : ℕ) → length s ≤ i → get_or s i 0 ≡ 0
get_d_past [] i h = refl
get_d_past (x ∷ s) zero h = absurd (omega arith)
get_d_past (x ∷ s) (suc i) h = get_d_past s i (omega arith)

-- so a place with another number lies in the list
pub get_d_inside : (s : List ℕ) (i c : ℕ) → get_or s i 0 ≡ c → 0 < c → i < length s
get_d_inside [] i c e h = absurd (omega arith)
get_d_inside (x ∷ s) zero c e h = omega arith
get_d_inside (x ∷ s) (suc i) c e h = let k = get_d_inside s i c e h in omega arith

-- from a place on: the number there, and what follows
pub drop_next : (s : List ℕ) (i j : ℕ) → j ≡ i + 1 → i < length s → drop i s ≡ get_or s i 0 ∷ drop j s
drop_next s i j e h = rw (e, add-one) (drop-cons s i 0 h)

-- ---- parts

-- a part from `at` to before `end`: the number there, and n more
pub part_next : (s : List ℕ) (at n end : ℕ) → at < length s → end ≡ at + 1 + n
    → take (end - at) (drop at s) ≡ get_or s at 0 ∷ take n (drop (at + 1) s)
part_next s at n end h e =
    let m : end - at ≡ suc n = omega arith in
    rw (m, drop_next s at (at + 1) refl h)

-- a part of a list's front is the list's own part
pub part_of_front : (s k u : ℕ) (t : List ℕ) → s + k ≤ u → take k (drop s (take u t)) ≡ take k (drop s t)
part_of_front zero k u t h = take-take k u t (omega arith)
part_of_front (suc s) k zero t h = absurd (omega arith)
part_of_front (suc s) k (suc u) [] h = refl
part_of_front (suc s) k (suc u) (x ∷ t) h = part_of_front s k u t (omega arith)

-- a part from `s` to before `e` has so many numbers
pub length_part : (s e : ℕ) (t : List ℕ) → s ≤ e → e ≤ length t → length (take (e - s) (drop s t)) ≡ e - s
length_part s e t h k = let d = length-drop s t in length-take-le (e - s) (drop s t) (omega arith)

-- the part from `s` to the end
pub part_to_end : (t : List ℕ) (s : ℕ) → take (length t - s) (drop s t) ≡ drop s t
part_to_end t s = rw (← length-drop s t, take-length)

pub take_at_most : (n : ℕ) (s : List ℕ) → length (take n s) ≤ length s
take_at_most zero s = zero-le
take_at_most (suc n) [] = zero-le
take_at_most (suc n) (b ∷ s) = suc-le-suc (take_at_most n s)

-- ---- zeros

pub get_d_zeros : (n j : ℕ) → get_or {A = ℕ} (replicate n 0) j 0 ≡ 0
get_d_zeros zero j = refl
get_d_zeros (suc n) zero = refl
get_d_zeros (suc n) (suc j) = get_d_zeros n j

pub drop_zeros : (k n : ℕ) → drop {A = ℕ} k (replicate n 0) ≡ replicate (n - k) 0
drop_zeros zero n = ap (λ (x : ℕ). replicate x 0) (sym (sub-zero n))
drop_zeros (suc k) zero = ap (λ (x : ℕ). replicate x 0) nothing_left
  where
    nothing_left : 0 ≡ 0 - suc k
    nothing_left = omega arith
drop_zeros (suc k) (suc n) = drop_zeros k n ∙ ap (λ (x : ℕ). replicate x 0) less
  where
    less : n - k ≡ suc n - suc k
    less = omega arith

-- ---- stores

-- the later of two stores to one place
pub set_again : (l : List ℕ) (j u v : ℕ) → set (set l j u) j v ≡ set l j v
set_again [] j u v = refl
set_again (h ∷ l) zero u v = refl
set_again (h ∷ l) (suc j) u v = ap (λ (r : List ℕ). h ∷ r) (set_again l j u v)

-- numbers stored one behind the other, in two parts
pub sets_append : (l : List ℕ) (i : ℕ) (a b : List ℕ) → sets l i (a ++ b) ≡ sets (sets l i a) (i + length a) b
sets_append l i [] b = rw add-zero
sets_append l i (x ∷ a) b = sets_append (set l i x) (suc i) a b ∙ ap (λ (k : ℕ). sets (sets (set l i x) (suc i) a) k b) (omega arith)

-- stores to places apart change places
pub set_before_sets : (vs l : List ℕ) (i j a : ℕ) → i < j → set (sets l j vs) i a ≡ sets (set l i a) j vs
set_before_sets [] l i j a h = refl
set_before_sets (v ∷ vs) l i j a h =
    set_before_sets vs (set l j v) i (suc j) a (omega arith) ∙ ap (λ (x : List ℕ). sets x (suc j) vs) (set_comm l j i v a (omega arith))

pub sets_swap : (us l : List ℕ) (i j : ℕ) (vs : List ℕ) → i + length us ≤ j → sets (sets l j vs) i us ≡ sets (sets l i us) j vs
sets_swap [] l i j vs h = refl
sets_swap (u ∷ us) l i j vs h =
    ap (λ (x : List ℕ). sets x (suc i) us) (set_before_sets vs l i j u (omega arith)) ∙ sets_swap us (set l i u) (suc i) j vs (omega arith)

-- numbers before those that are stored stay, and those that are stored are there
pub get_d_before_sets : (vs l : List ℕ) (i j : ℕ) → i < j → get_or (sets l j vs) i 0 ≡ get_or l i 0
get_d_before_sets [] l i j h = refl
get_d_before_sets (v ∷ vs) l i j h = get_d_before_sets vs (set l j v) i (suc j) (omega arith) ∙ get_or-set_other l j i v 0 (omega arith)

pub get_d_in_sets : (vs l : List ℕ) (j k : ℕ) → k < length vs → j + length vs ≤ length l → get_or (sets l j vs) (j + k) 0 ≡ get_or vs k 0
get_d_in_sets [] l j k h g = let z : ⊥ = omega arith in absurd z
get_d_in_sets (v ∷ vs) l j zero h g =
    ap (λ (i : ℕ). get_or (sets (set l j v) (suc j) vs) i 0) (add-zero j) ∙ get_d_before_sets vs (set l j v) j (suc j) (omega arith)
    ∙ get_or-set_same l j v 0 (omega arith)
get_d_in_sets (v ∷ vs) l j (suc k) h g =
    ap (λ (i : ℕ). get_or (sets (set l j v) (suc j) vs) i 0) next ∙ get_d_in_sets vs (set l j v) (suc j) k (omega arith) (simp length-set (omega arith))
  where
    next : j + suc k ≡ suc j + k
    next = omega arith

-- what stands up to the end of those that are stored, and behind it
module _ (l vs : List ℕ) (k : ℕ) (h : k + length vs ≤ length l) where
  length_front : length (take k l ++ vs) ≡ k + length vs
  length_front =
      let a = length-append (take k l) vs in
      let t = length-take-le k l (omega arith) in
      omega arith

  pub take_sets : take (k + length vs) (sets l k vs) ≡ take k l ++ vs
  take_sets = ap (take (k + length vs)) (sets-eq vs l k h) ∙ take_at (take k l ++ vs) (drop (k + length vs) l) (k + length vs) length_front

  pub drop_sets : drop (k + length vs) (sets l k vs) ≡ drop (k + length vs) l
  drop_sets = ap (drop (k + length vs)) (sets-eq vs l k h) ∙ drop_at (take k l ++ vs) (drop (k + length vs) l) (k + length vs) length_front
