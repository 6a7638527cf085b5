-- Leading zeros of an exponent change nothing.
-- Assumes nothing.
use mathlib.Core.Path.{◌≡◌, refl, sym, ◌∙◌, subst}
use Prim.Native.Nat.{ℕ, zero, suc, ◌+◌, ◌*◌}
use Prim.Native.Char.{code}
use native.Mathlib.Omega.{arith}
use mathlib.Core.Bool.{true}
use mathlib.Core.List.{List, [], ◌∷◌, ◌++◌}
use lib.ListN.{replicate}
use Rattle.text.specs.Bytes.{is_digit_in, digit_value}
use Rattle.theorems.specs.Number.{no_underscore, Followed, by_none, by_digit, Digits, digits, LeadingZeros}
use Rattle.theorems.proofs.Number.MeantLaw.{exponent_meant}

-- a zero before a first digit and those that follow it
zero_more : (b : ℕ) → is_digit_in 10 b ≡ true → (s : List ℕ) (n count : ℕ) → Followed 10 (b ∷ []) (digit_value b) s n count
    → Followed 10 (code "0" ∷ []) 0 (code "0" ∷ s) n (suc count)
zero_more b e s n count by_none =
    let z : 0 * 10 + digit_value b ≡ digit_value b = omega arith in
    subst (λ (x : ℕ). Followed 10 (48 ∷ []) 0 (48 ∷ b ∷ []) x 1) z (by_digit (48 ∷ []) [] 0 0 b by_none no_underscore e)
zero_more b e s n count (by_digit t gap m k c d o f) = by_digit (48 ∷ t) gap m (suc k) c (zero_more b e t m k d) o f

zeros_more : (count : ℕ) (s : List ℕ) (n : ℕ) → Digits 10 s n → Digits 10 (replicate count (code "0") ++ s) n
unfolding digit_value
zeros_more zero s n d = d
zeros_more (suc count) s n d = with_zero (replicate count 48 ++ s) (zeros_more count s n d)
  where
    with_zero : (t : List ℕ) → Digits 10 t n → Digits 10 (48 ∷ t) n
    with_zero t (digits b u v k e f) = digits 48 (48 ∷ u) v (suc k) refl (zero_more b e u v k f)

pub leading_zeros : LeadingZeros
unfolding LeadingZeros
leading_zeros front minus m places u sg s below n count o d =
    exponent_meant front minus m places u sg (replicate count 48 ++ s) below n o (zeros_more count s n d)
    ∙ sym (exponent_meant front minus m places u sg s below n o d)
