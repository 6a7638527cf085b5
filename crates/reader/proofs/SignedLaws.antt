-- Signed numbers as words: an integer's two's complement, and a power of ten with 1000 added.
-- Assumes nothing.
use mathlib.Core.Path.{◌≡◌, refl, ap, ◌∙◌}
use mathlib.Core.Bool.{true}
use Prim.Native.Nat.{suc, ◌≤◌}
use native.Mathlib.Omega.{arith}
use lib.IntN.{ℤ, pos, negsuc, ◌+ℤ◌}
use lib.Signed.{le_z}
use mir.Syntax.{w64}
use mir.Val.{SFits, of_z, to_z}
use mir.Facts.{to_z-of_z}
use borrow.Author.Tests.{le-ltb, leb-true}
use Rattle.reader.specs.Tree.{twos_complement, plus1000}

-- an integer's bits
pub bits_is : (z : ℤ) → of_z w64 z ≡ twos_complement z
unfolding twos_complement
bits_is (pos n) = refl
bits_is (negsuc n) = refl

-- ---- a power from -400 to 400

plus_is : (p : ℤ) → le_z (negsuc 399) p ≡ true → p +ℤ pos 1000 ≡ pos (plus1000 p)
unfolding plus1000
plus_is (pos n) l = refl
plus_is (negsuc n) l =
    let h = leb-true n 399 l in
    let k : suc n ≤ 1000 = omega arith in
    rw (le-ltb 1000 (suc n) k)

plus_small : (p : ℤ) → le_z p (pos 400) ≡ true → plus1000 p ≤ 1400
unfolding plus1000
plus_small (pos n) g = let h = leb-true n 400 g in omega arith
plus_small (negsuc n) g = omega arith

module _ (p : ℤ) (f : SFits w64 p) (l : le_z (negsuc 399) p ≡ true) (g : le_z p (pos 400) ≡ true) where
  pub power_small : plus1000 p ≤ 1400
  power_small = plus_small p g

  power_is : to_z w64 (of_z w64 p) +ℤ pos 1000 ≡ pos (plus1000 p)
  power_is = ap (λ (y : ℤ). y +ℤ pos 1000) (to_z-of_z f) ∙ plus_is p l

  pub power_fits : SFits w64 (to_z w64 (of_z w64 p) +ℤ pos 1000)
  power_fits = let h = power_small in rw power_is (record { sfits = omega arith })

  pub power_read : to_z w64 (of_z w64 (to_z w64 (of_z w64 p) +ℤ pos 1000)) ≡ pos (plus1000 p)
  power_read = to_z-of_z power_fits ∙ power_is
