-- Numbers: the code caps a number's digits and its exponent. What is capped steps as what is not, and means the same at the end.
-- Assumes nothing.
use mathlib.Core.Path.{◌≡◌, refl, sym, ap, ◌∙◌}
use Prim.Native.Nat.{ℕ, zero, suc, ◌+◌, ◌-◌, ◌*◌, ◌/◌, ◌<◌, ◌≤◌}
use native.Mathlib.Numerals.{add-one}
use native.Mathlib.Omega.{arith}
use mathlib.Core.Bool.{Bool, true, false, cond, ◌&&◌}
use mathlib.Core.List.{List, [], ◌∷◌}
use lib.Dec.{leb}
use lib.ListN.{length, drop, get_or}
use lib.IntN.{ℤ, pos, neg_ℤ, neg_ℤ-+ℤ, ◌+ℤ◌}
use native.Mathlib.Nat.{mul-zero, mul-suc, div-lt_iff_lt-mul, le-div_iff_mul-le}
use borrow.Author.Tests.{le-leb, lt-leb, lt-ltb, le-ltb, leb-true, leb-false}
use Rattle.text.specs.Bytes.{feed}
use Rattle.text.proofs.FeedLaws.{feed_next}
use Rattle.literals.specs.declared.number.Number.{Number}
use Rattle.literals.specs.declared.number.Number.TheVariants.{Start, Bad, Sign, Zero, Digit, Underscore, Dot, Prefix, Based, BasedUnderscore, Fraction, FractionUnderscore, ExpLetter, ExpSign, ExpDigit, ExpUnderscore}
use Rattle.std.specs.declared.result.Result.TheVariants.{Ok, Err}
use Rattle.literals.specs.declared.number.NumberValue.TheVariants.{Decimal}
use Rattle.literals.specs.declared.number.NumberError.TheVariants.{TooWide}
use Rattle.literals.specs.Number.{number_step, signed_by, as_integer, as_decimal, meaning}
use Rattle.literals.specs.InternalNumber.{cap, capped, places_of}

-- ---- the cap

-- what does not tell a number above the cap from the cap does not tell a number from the number capped
pub capped_same : {A : Type 0} (f : ℕ → A) (n : ℕ) → (10000000000000000000 < n → f 10000000000000000000 ≡ f n) → f (cap n) ≡ f n
unfolding cap
capped_same f n e = choose (leb n 10000000000000000000) refl
  where
    choose : (t : Bool) → leb n 10000000000000000000 ≡ t → f (cond t n 10000000000000000000) ≡ f n
    choose true p = refl
    choose false p = e (leb-false _ _ p)

pub cap_under : (n : ℕ) → n ≤ 10000000000000000000 → cap n ≡ n
unfolding cap
cap_under n h = rw (le-leb _ _ h)

pub cap_over : (n : ℕ) → 10000000000000000000 ≤ n → cap n ≡ 10000000000000000000
unfolding cap
cap_over n h = choose (leb n 10000000000000000000) refl
  where
    choose : (t : Bool) → leb n 10000000000000000000 ≡ t → cond t n 10000000000000000000 ≡ 10000000000000000000
    choose true p = let k = leb-true n 10000000000000000000 p in omega arith
    choose false p = refl

pub cap_cap : (n : ℕ) → cap (cap n) ≡ cap n
cap_cap n = capped_same cap n (λ h. cap_over 10000000000000000000 (omega arith) ∙ sym (cap_over n (omega arith)))

-- with one more digit
pub cap_digit : (base m d : ℕ) → cap (cap m * base + d) ≡ cap (m * base + d)
cap_digit zero m d = simp mul-zero
cap_digit (suc base) m d = capped_same (λ (x : ℕ). cap (x * suc base + d)) m both
  where
    both : 10000000000000000000 < m → cap (10000000000000000000 * suc base + d) ≡ cap (m * suc base + d)
    both h =
        let e = mul-suc m base in
        cap_over (10000000000000000000 * suc base + d) (omega arith) ∙ sym (cap_over (m * suc base + d) (omega arith))

-- the code's test before it multiplies
pub wide_digit : (base m d : ℕ) → 0 < base → 10000000000000000000 / base < m → 10000000000000000000 ≡ cap (m * base + d)
wide_digit base m d z h =
    let k = (div-lt_iff_lt-mul z).0 h in
    sym (cap_over (m * base + d) (omega arith))

pub close_digit : (base m : ℕ) → 0 < base → m ≤ 10000000000000000000 / base → m * base ≤ 10000000000000000000
close_digit base m z h = (le-div_iff_mul-le z).0 h

-- ---- the step

capped_cond : (t : Bool) (x y : Number) → capped (cond t x y) ≡ cond t (capped x) (capped y)
capped_cond true x y = refl
capped_cond false x y = refl

pub step_capped : (n : Number) (b : ℕ) → capped (number_step (capped n) b) ≡ capped (number_step n b)
unfolding capped number_step
step_capped Start b = refl
step_capped Bad b = refl
step_capped (Sign minus) b = refl
step_capped (Zero signed minus) b = refl
step_capped (Digit minus m) b = simp (capped_cond, cap_digit, cap_cap)
step_capped (Underscore minus m) b = simp (capped_cond, cap_digit)
step_capped (Dot minus m) b = simp (capped_cond, cap_digit)
step_capped (Prefix base) b = refl
step_capped (Based base m) b = simp (capped_cond, cap_digit, cap_cap)
step_capped (BasedUnderscore base m) b = simp (capped_cond, cap_digit)
step_capped (Fraction minus m places) b = simp (capped_cond, cap_digit, cap_cap)
step_capped (FractionUnderscore minus m places) b = simp (capped_cond, cap_digit)
step_capped (ExpLetter minus m places) b = simp (capped_cond, cap_cap)
step_capped (ExpSign minus m places below) b = simp (capped_cond, cap_cap)
step_capped (ExpDigit minus m places below exp) b = simp (capped_cond, cap_digit, cap_cap)
step_capped (ExpUnderscore minus m places below exp) b = simp (capped_cond, cap_digit, cap_cap)

-- states that are the same capped step to states that are
same_step : (n k : Number) (b : ℕ) → capped n ≡ capped k → capped (number_step n b) ≡ capped (number_step k b)
same_step n k b e = sym (step_capped n b) ∙ ap (λ (x : Number). capped (number_step x b)) e ∙ step_capped k b

same_feed : (n k : Number) (l : List ℕ) → capped n ≡ capped k → capped (feed number_step n l) ≡ capped (feed number_step k l)
unfolding feed
same_feed n k [] e = e
same_feed n k (b ∷ l) e = same_feed (number_step n b) (number_step k b) l (same_step n k b e)

-- a loop's turn: the state `next` is the step's, capped, and the index has gone up by one
pub same_turn : (n next : Number) (text : List ℕ) (i : ℕ) → i < length text → capped next ≡ capped (number_step n (get_or text i 0))
    → capped (feed number_step n (drop i text)) ≡ capped (feed number_step next (drop (i + 1) text))
same_turn n next text i h e =
    rw add-one (ap capped (feed_next number_step n text i h) ∙ sym (same_feed next (number_step n (get_or text i 0)) (drop (suc i) text) e))

-- ---- the count of fraction digits

-- a test of a choice's places is a choice of tests, and a choice of true and true is true
few_cond : (k : ℕ) (t : Bool) (x y : Number) → leb (places_of (cond t x y)) k ≡ cond t (leb (places_of x) k) (leb (places_of y) k)
few_cond k true x y = refl
few_cond k false x y = refl

both_true : (t : Bool) → cond t true true ≡ true
both_true true = refl
both_true false = refl

none_few : (k : ℕ) → leb 0 k ≡ true
none_few k = le-leb 0 k (omega arith)

all_few : (k : ℕ) → leb k k ≡ true
all_few k = le-leb k k (omega arith)

less_few : (k : ℕ) → leb k (suc k) ≡ true
less_few k = le-leb k (suc k) (omega arith)

step_few : (n : Number) (b : ℕ) → leb (places_of (number_step n b)) (suc (places_of n)) ≡ true
unfolding places_of number_step
step_few Start b = simp (few_cond, both_true)
step_few Bad b = refl
step_few (Sign minus) b = simp (few_cond, both_true)
step_few (Zero signed minus) b = simp (few_cond, both_true)
step_few (Digit minus m) b = simp (few_cond, both_true)
step_few (Underscore minus m) b = simp (few_cond, both_true)
step_few (Dot minus m) b = simp (few_cond, both_true)
step_few (Prefix base) b = simp (few_cond, both_true)
step_few (Based base m) b = simp (few_cond, both_true)
step_few (BasedUnderscore base m) b = simp (few_cond, both_true)
step_few (Fraction minus m places) b = simp (few_cond, none_few, all_few, less_few, both_true)
step_few (FractionUnderscore minus m places) b = simp (few_cond, none_few, all_few, both_true)
step_few (ExpLetter minus m places) b = simp (few_cond, none_few, less_few, both_true)
step_few (ExpSign minus m places below) b = simp (few_cond, none_few, less_few, both_true)
step_few (ExpDigit minus m places below exp) b = simp (few_cond, none_few, less_few, both_true)
step_few (ExpUnderscore minus m places below exp) b = simp (few_cond, none_few, less_few, both_true)

-- the cap does not touch it
places_capped : (n : Number) → places_of (capped n) ≡ places_of n
unfolding places_of capped
places_capped Start = refl
places_capped Bad = refl
places_capped (Sign minus) = refl
places_capped (Zero signed minus) = refl
places_capped (Digit minus m) = refl
places_capped (Underscore minus m) = refl
places_capped (Dot minus m) = refl
places_capped (Prefix base) = refl
places_capped (Based base m) = refl
places_capped (BasedUnderscore base m) = refl
places_capped (Fraction minus m places) = refl
places_capped (FractionUnderscore minus m places) = refl
places_capped (ExpLetter minus m places) = refl
places_capped (ExpSign minus m places below) = refl
places_capped (ExpDigit minus m places below exp) = refl
places_capped (ExpUnderscore minus m places below exp) = refl

same_places : (n k : Number) → capped n ≡ capped k → places_of n ≡ places_of k
same_places n k e = sym (places_capped n) ∙ ap places_of e ∙ places_capped k

-- no more than the bytes read
pub few_turn : (n next : Number) (b i : ℕ) → capped next ≡ capped (number_step n b) → places_of n ≤ i → places_of next ≤ i + 1
few_turn n next b i e h =
    let p = same_places next (number_step n b) e in
    let q = leb-true (places_of (number_step n b)) (suc (places_of n)) (step_few n b) in
    omega arith

-- ---- the meaning

-- above the range of integers
pub integer_wide : (minus : Bool) (m : ℕ) → 9223372036854775808 < m → as_integer minus m ≡ Err TooWide
unfolding as_integer
integer_wide true m h = rw (lt-leb m 9223372036854775808 h)
integer_wide false m h = let k : 9223372036854775807 < m = omega arith in rw (lt-leb m 9223372036854775807 k)

pub decimal_wide : (minus : Bool) (m : ℕ) (p : ℤ) → 9223372036854775807 < m → as_decimal minus m p ≡ Err TooWide
unfolding as_decimal
decimal_wide minus m p h = rw (lt-leb m 9223372036854775807 h)

neither : (t u : Bool) → (t && false && u) ≡ false
neither true u = refl
neither false u = refl

neither_last : (t u : Bool) → (t && u && false) ≡ false
neither_last true true = refl
neither_last true false = refl
neither_last false u = refl

-- a power above 400, or below -400
pub power_high : (minus : Bool) (m n : ℕ) → 400 < n → as_decimal minus m (pos n) ≡ Err TooWide
unfolding as_decimal
power_high minus m n h = rw (lt-leb n 400 h, neither_last)

pub power_low : (minus : Bool) (m n : ℕ) → 400 < n → as_decimal minus m (neg_ℤ (pos n)) ≡ Err TooWide
unfolding as_decimal
power_low minus m zero h = absurd (omega arith)
power_low minus m (suc n) h = let k : 399 < n = omega arith in rw (lt-leb n 399 k, neither)

pub power_wide : (minus : Bool) (m : ℕ) (below : Bool) (n : ℕ) → 400 < n → as_decimal minus m (signed_by below n) ≡ Err TooWide
power_wide minus m true n h = power_low minus m n h
power_wide minus m false n h = power_high minus m n h

-- within both ranges
pub decimal_good : (minus : Bool) (m n : ℕ) → m ≤ 9223372036854775807 → n ≤ 400 → as_decimal minus m (pos n) ≡ Ok (Decimal minus m (pos n))
unfolding as_decimal
decimal_good minus m n h k = rw (le-leb m 9223372036854775807 h, le-leb n 400 k)

pub decimal_low : (minus : Bool) (m n : ℕ) → m ≤ 9223372036854775807 → n ≤ 400
    → as_decimal minus m (neg_ℤ (pos n)) ≡ Ok (Decimal minus m (neg_ℤ (pos n)))
unfolding as_decimal
decimal_low minus m zero h k = rw (le-leb m 9223372036854775807 h)
decimal_low minus m (suc n) h k = let j : n ≤ 399 = omega arith in rw (le-leb m 9223372036854775807 h, le-leb n 399 j)

-- the power as a number and its sign
pub power_below : (exp places : ℕ) → neg_ℤ (pos exp) +ℤ neg_ℤ (pos places) ≡ neg_ℤ (pos (exp + places))
power_below exp places = sym (neg_ℤ-+ℤ (pos exp) (pos places))

pub power_less : (exp places : ℕ) → exp < places → pos exp +ℤ neg_ℤ (pos places) ≡ neg_ℤ (pos (places - exp))
power_less exp zero h = absurd (omega arith)
power_less exp (suc k) h =
    let e : suc k - exp ≡ suc (k - exp) = omega arith in
    let f : suc k - suc exp ≡ k - exp = omega arith in
    rw (lt-ltb exp (suc k) h, e, f)

pub power_more : (exp places : ℕ) → places ≤ exp → pos exp +ℤ neg_ℤ (pos places) ≡ pos (exp - places)
power_more exp zero h = let e : exp + 0 ≡ exp - 0 = omega arith in ap pos e
power_more exp (suc k) h = rw (le-ltb exp (suc k) h)

-- an exponent above the cap
exponent_wide : (minus : Bool) (m places : ℕ) (below : Bool) (exp : ℕ) → places < 9223372036854775808 → 10000000000000000000 ≤ exp
    → as_decimal minus m (signed_by below exp +ℤ neg_ℤ (pos places)) ≡ Err TooWide
exponent_wide minus m places true exp h k = rw (power_below exp places) (power_low minus m (exp + places) (omega arith))
exponent_wide minus m places false exp h k = rw (power_more exp places (omega arith)) (power_high minus m (exp - places) (omega arith))

integer_capped : (minus : Bool) (m : ℕ) → as_integer minus (cap m) ≡ as_integer minus m
integer_capped minus m =
    capped_same (as_integer minus) m (λ h. integer_wide minus 10000000000000000000 (omega arith) ∙ sym (integer_wide minus m (omega arith)))

decimal_capped : (minus : Bool) (m : ℕ) (p : ℤ) → as_decimal minus (cap m) p ≡ as_decimal minus m p
decimal_capped minus m p =
    capped_same (λ (x : ℕ). as_decimal minus x p) m
    (λ h. decimal_wide minus 10000000000000000000 p (omega arith) ∙ sym (decimal_wide minus m p (omega arith)))

exponent_capped : (minus : Bool) (m places : ℕ) (below : Bool) (exp : ℕ) → places < 9223372036854775808
    → as_decimal minus m (signed_by below (cap exp) +ℤ neg_ℤ (pos places)) ≡ as_decimal minus m (signed_by below exp +ℤ neg_ℤ (pos places))
exponent_capped minus m places below exp h =
    capped_same (λ (x : ℕ). as_decimal minus m (signed_by below x +ℤ neg_ℤ (pos places))) exp
    (λ k. exponent_wide minus m places below 10000000000000000000 h (omega arith) ∙ sym (exponent_wide minus m places below exp h (omega arith)))

meaning_capped : (n : Number) → places_of n < 9223372036854775808 → meaning (capped n) ≡ meaning n
unfolding meaning capped places_of
meaning_capped Start h = refl
meaning_capped Bad h = refl
meaning_capped (Sign minus) h = refl
meaning_capped (Zero signed minus) h = refl
meaning_capped (Digit minus m) h = integer_capped minus m
meaning_capped (Underscore minus m) h = refl
meaning_capped (Dot minus m) h = refl
meaning_capped (Prefix base) h = refl
meaning_capped (Based base m) h = integer_capped false m
meaning_capped (BasedUnderscore base m) h = refl
meaning_capped (Fraction minus m places) h = decimal_capped minus m (neg_ℤ (pos places))
meaning_capped (FractionUnderscore minus m places) h = refl
meaning_capped (ExpLetter minus m places) h = refl
meaning_capped (ExpSign minus m places below) h = refl
meaning_capped (ExpDigit minus m places below exp) h =
    decimal_capped minus m (signed_by below (cap exp) +ℤ neg_ℤ (pos places)) ∙ exponent_capped minus m places below exp h
meaning_capped (ExpUnderscore minus m places below exp) h = refl

-- states that are the same capped mean the same, after fewer bytes than a slice can have
pub same_meaning : (n k : Number) → capped n ≡ capped k → places_of k < 9223372036854775808 → meaning n ≡ meaning k
same_meaning n k e h =
    let p = same_places n k e in
    sym (meaning_capped n (omega arith)) ∙ ap meaning e ∙ meaning_capped k h
