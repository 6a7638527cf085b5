-- Laws of up to four bytes, and how far the UTF-8 machine can have counted.
-- Assumes nothing.
use Prim.Native.Nat.{ℕ, zero, suc, ◌+◌, ◌≤◌}
use native.Mathlib.Omega.{arith}
use mathlib.Core.List.{List, [], ◌∷◌}
use lib.Dec.{leb, ltb}
use lib.ListN.{length}
use Rattle.text.specs.Bytes.{feed}
use Rattle.text.specs.declared.utf8.Utf8.{Utf8}
use Rattle.text.specs.declared.utf8.Utf8.TheVariants.{Whole, Part, Broken}
use Rattle.text.specs.declared.few.Few.{Few}
use Rattle.text.specs.declared.few.Few.TheVariants.{Zero, One, Two, Three, Four}
use Rattle.text.specs.Utf8.{lead, later, utf8_step, listed}
use Rattle.text.specs.Internal.{bytes_read}
use Rattle.text.proofs.Choice.{cond_both}
use Rattle.text.proofs.Utf8Laws.{lead_case}

pub few_short : (f : Few) → length (listed f) ≤ 4
unfolding listed
few_short Zero = omega arith
few_short (One a) = omega arith
few_short (Two a b) = omega arith
few_short (Three a b c) = omega arith
few_short (Four a b c d) = omega arith

-- the machine has read at most m bytes
abbrev Below : ℕ → Utf8 → Type 0
Below m u = bytes_read u ≤ m

lead_read : (n b : ℕ) → Below (n + 1) (lead n b)
unfolding bytes_read
lead_read n b = lead_case (Below (n + 1)) n b (omega arith) (omega arith) (λ more low high _. omega arith)

later_read : (n read more : ℕ) → Below (n + read + 1) (later n read more)
unfolding later bytes_read
later_read n read zero = omega arith
later_read n read (suc more) = omega arith

-- a byte more is counted once at most
pub read_step : (u : Utf8) (b : ℕ) → bytes_read (utf8_step u b) ≤ bytes_read u + 1
unfolding utf8_step bytes_read
read_step (Whole n) b = lead_read n b
read_step (Part n read more low high) b =
    cond_both (Below (n + read + 1)) (ltb b low) (λ _. omega arith)
    (λ _. cond_both (Below (n + read + 1)) (leb b high) (λ _. later_read n read more) (λ _. omega arith))
read_step (Broken n) b = omega arith

pub read_feed : (u : Utf8) (xs : List ℕ) → bytes_read (feed utf8_step u xs) ≤ bytes_read u + length xs
unfolding feed
read_feed u [] = omega arith
read_feed u (b ∷ xs) = let h = read_feed (utf8_step u b) xs in let k = read_step u b in omega arith
