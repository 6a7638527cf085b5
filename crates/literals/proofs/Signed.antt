-- Signed numbers as the code makes them: the negative of a number, taken from 0 or, at the lowest of all, from -1.
-- Assumes nothing.
use mathlib.Core.Path.{◌≡◌, refl, ap, ◌∙◌}
use Prim.Native.Nat.{ℕ, zero, suc, ◌-◌, ◌<◌}
use native.Mathlib.Nat.{zero-add}
use native.Mathlib.Omega.{arith}
use borrow.Author.Tests.{le-ltb}
use lib.IntN.{ℤ, pos, negsuc, neg_ℤ, ◌-ℤ◌, +ℤ_idl}
use mir.Syntax.{w64}
use mir.Val.{SFits, of_z, to_z}
use mir.Facts.{to_z-of_z, to_z_pos}

-- -1 - n
below : (n : ℕ) → negsuc 0 -ℤ pos n ≡ negsuc n
below zero = refl
below (suc n) = ap (λ (k : ℕ). negsuc (suc k)) (zero-add n)

-- -1 - z of a negative
pub above : (n : ℕ) → negsuc 0 -ℤ negsuc n ≡ pos n
above n = let e : suc n - 1 ≡ n = omega arith in rw (le-ltb (suc n) 1 (omega arith)) (ap pos e)

-- the negative of m, by way of m - 1
from_less : (m : ℕ) → 0 < m → negsuc (m - 1) ≡ neg_ℤ (pos m)
from_less zero h = absurd (omega arith)
from_less (suc k) h = let e : suc k - 1 ≡ k = omega arith in ap negsuc e

neg_fits : (n : ℕ) → n < 9223372036854775808 → SFits w64 (neg_ℤ (pos n))
neg_fits zero h = record { sfits = h }
neg_fits (suc k) h = record { sfits = omega arith }

module _ (n : ℕ) (h : n < 9223372036854775808) where
  -- -1 - n fits, and is the negative of n + 1
  pub down_fits : SFits w64 (negsuc 0 -ℤ to_z w64 n)
  down_fits = rw (to_z_pos w64 h, below n) (record { sfits = h })

  down_read : to_z w64 (of_z w64 (negsuc 0 -ℤ to_z w64 n)) ≡ negsuc n
  down_read = to_z-of_z down_fits ∙ ap (λ (y : ℤ). negsuc 0 -ℤ y) (to_z_pos w64 h) ∙ below n

  -- 0 - n fits, and is the negative of n
  pub neg_of_fits : SFits w64 (pos 0 -ℤ to_z w64 n)
  neg_of_fits = rw (to_z_pos w64 h, +ℤ_idl) (neg_fits n h)

  pub neg_of_read : to_z w64 (of_z w64 (pos 0 -ℤ to_z w64 n)) ≡ neg_ℤ (pos n)
  neg_of_read = to_z-of_z neg_of_fits ∙ ap (λ (y : ℤ). pos 0 -ℤ y) (to_z_pos w64 h) ∙ +ℤ_idl (neg_ℤ (pos n))

pub neg_read : (m : ℕ) → 0 < m → m - 1 < 9223372036854775808 → to_z w64 (of_z w64 (negsuc 0 -ℤ to_z w64 (m - 1))) ≡ neg_ℤ (pos m)
neg_read m z h = down_read (m - 1) h ∙ from_less m z
