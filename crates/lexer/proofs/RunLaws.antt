-- The loop over a run: what `front` is one byte further on, at a byte that ends the run, and at the end.
-- Assumes nothing.
use mathlib.Core.Path.{◌≡◌}
use Prim.Native.Nat.{ℕ, ◌+◌, ◌≤◌, ◌<◌}
use native.Mathlib.Numerals.{add-one}
use native.Mathlib.Omega.{arith}
use mathlib.Core.Bool.{Bool, true, false}
use mathlib.Core.List.{List}
use lib.ListN.{length, drop, get_or, drop_of_length-le}
use lib.Seq.{drop-cons}
use Rattle.text.specs.Bytes.{front}

module _ (p : ℕ → Bool) (s : List ℕ) (i : ℕ) where
  pub run_more : i < length s → p (get_or s i 0) ≡ true → i + front p (drop i s) ≡ i + 1 + front p (drop (i + 1) s)
  unfolding front
  run_more h e = rw (add-one, drop-cons s i 0 h, e) (omega arith)

  pub run_stop : i < length s → p (get_or s i 0) ≡ false → i + front p (drop i s) ≡ i
  unfolding front
  run_stop h e = rw (drop-cons s i 0 h, e) (omega arith)

  pub run_done : length s ≤ i → i + front p (drop i s) ≡ i
  unfolding front
  run_done h = rw (drop_of_length-le s h) (omega arith)
