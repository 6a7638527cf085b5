-- What fixes `front`: a number of bytes that pass the test, with the end or a byte that doesn't pass behind them.
-- Assumes nothing.
use mathlib.Core.Path.{◌≡◌, sym, ap}
use Prim.Native.Nat.{ℕ, zero, suc, ◌+◌, ◌-◌, ◌≤◌, ◌<◌}
use native.Mathlib.Omega.{arith}
use mathlib.Core.Bool.{Bool, true, false}
use mathlib.Core.List.{List, [], ◌∷◌}
use lib.ListN.{length, take, drop, get_or}
use Rattle.text.specs.Bytes.{front}
use Rattle.text.proofs.ListLaws.{part_to_end}

module _ (p : ℕ → Bool) where
  pub front_at : (s : List ℕ) (n : ℕ) → n ≤ length s → ((k : ℕ) → k < n → p (get_or s k 0) ≡ true)
      → (n < length s → p (get_or s n 0) ≡ false) → n ≡ front p s
  unfolding front
  front_at [] n h before stop = omega arith
  front_at (b ∷ s) zero h before stop = rw (stop (omega arith))
  front_at (b ∷ s) (suc n) h before stop =
      rw (before zero (omega arith)) (ap suc (front_at s n (omega arith) (λ k l. before (suc k) (omega arith)) (λ l. stop (omega arith))))

  -- so a test that says what p says of each byte counts what p counts: `post b r` is that it may answer r of b
  pub front_by : (post : ℕ → Bool → Type 0) (s : List ℕ) (n : ℕ) → ((i : ℕ) → get_or s i 0 < 256)
      → ((b : ℕ) (r : Bool) → b < 256 → post b r → r ≡ p b) → n ≤ length s
      → ((k : ℕ) → k < n → post (get_or s k 0) true) → (n < length s → post (get_or s n 0) false) → n ≡ front p s
  front_by post s n bytes says h before stop =
      front_at s n h (λ k l. sym (says _ _ (bytes k) (before k l))) (λ l. sym (says _ _ (bytes n) (stop l)))

-- the same of a run that is counted in what follows a place
pub front_from : (p : ℕ → Bool) (s : List ℕ) (from n : ℕ) → n ≡ front p (take (length s - from) (drop from s))
    → from + n ≡ from + front p (drop from s)
front_from p s from n e = ap (λ (k : ℕ). from + k) (rw (part_to_end s from) at e)
