-- UTF-8: how many bytes the machine has read, so that its counts cannot wrap; that a text is UTF-8 exactly if its longest valid front is
-- the whole text; and what one byte more does to that front.
-- Assumes nothing.
use mathlib.Core.Path.{◌≡◌, refl}
use Prim.Native.Nat.{ℕ, zero, suc, ◌+◌, ◌<◌, ◌≤◌}
use native.Mathlib.Numerals.{add-one}
use native.Mathlib.Omega.{arith}
use mathlib.Core.Bool.{true, false, true≢false, false≢true}
use mathlib.Core.List.{List, [], ◌∷◌}
use lib.Dec.{leb, ltb, eqb}
use lib.ListN.{length}
use Rattle.text.specs.Bytes.{feed}
use Rattle.text.specs.declared.utf8.Utf8.{Utf8}
use Rattle.text.specs.declared.utf8.Utf8.TheVariants.{Whole, Part, Broken}
use Rattle.text.specs.Utf8.{lead, later, utf8_step, utf8, is_whole, whole_front}
use Rattle.text.specs.Internal.{bytes_read}
use Rattle.text.proofs.Choice.{cond_both}

-- what holds of a whole character, of no character and of every begun one holds after a first byte
pub lead_case : (P : Utf8 → Type 0) (n b : ℕ) → P (Whole (n + 1)) → P (Broken n)
    → ((more low high : ℕ) → 128 ≤ low → P (Part n 1 more low high)) → P (lead n b)
unfolding lead
lead_case P n b whole broken part =
    cond_both P (leb b 0x7F) (λ _. whole)
    (λ _. cond_both P (ltb b 0xC2) (λ _. broken)
    (λ _. cond_both P (leb b 0xDF) (λ _. part 0 0x80 0xBF (omega arith))
    (λ _. cond_both P (eqb b 0xE0) (λ _. part 1 0xA0 0xBF (omega arith))
    (λ _. cond_both P (leb b 0xEC) (λ _. part 1 0x80 0xBF (omega arith))
    (λ _. cond_both P (eqb b 0xED) (λ _. part 1 0x80 0x9F (omega arith))
    (λ _. cond_both P (leb b 0xEF) (λ _. part 1 0x80 0xBF (omega arith))
    (λ _. cond_both P (eqb b 0xF0) (λ _. part 2 0x90 0xBF (omega arith))
    (λ _. cond_both P (leb b 0xF3) (λ _. part 2 0x80 0xBF (omega arith))
    (λ _. cond_both P (eqb b 0xF4) (λ _. part 2 0x80 0x8F (omega arith))
    (λ _. broken))))))))))

-- the state after k bytes
unfoldable pub After : (k : ℕ) → Utf8 → Type 0
After k (Whole n) = n ≡ k
After k (Part n read more low high) = (n < k) × (n + read ≡ k)
After k (Broken n) = n < k

pub after_start : After 0 (Whole 0)
unfolding After
after_start = refl

lead_after : (n b : ℕ) → After (suc n) (lead n b)
unfolding After
lead_after n b = lead_case (After (suc n)) n b (omega arith) (omega arith) (λ more low high _. omega arith)

later_after : (k n read more : ℕ) → n < k → n + read ≡ k → After (suc k) (later n read more)
unfolding After later
later_after k n read zero h e = omega arith
later_after k n read (suc more) h e = omega arith

pub step_after : (k : ℕ) (st : Utf8) (b : ℕ) → After k st → After (suc k) (utf8_step st b)
unfolding After utf8_step
step_after k (Whole n) b a = rw (← a) (lead_after n b)
step_after k (Part n read more low high) b a =
    cond_both (After (suc k)) (ltb b low) (λ _. omega arith)
    (λ _. cond_both (After (suc k)) (leb b high) (λ _. later_after k n read more a.0 a.1) (λ _. omega arith))
step_after k (Broken n) b a = omega arith

-- the same for a loop that has counted one byte more
pub after_next : (k b : ℕ) (st next : Utf8) → After k st → next ≡ utf8_step st b → After (k + 1) next
after_next k b st next a e = rw (add-one, e) (step_after k st b a)

-- a machine that has been fed k bytes counts no more
pub after_read : (k : ℕ) (st : Utf8) → After k st → bytes_read st ≤ k
unfolding After bytes_read
after_read k (Whole n) a = omega arith
after_read k (Part n read more low high) a = omega arith
after_read k (Broken n) a = omega arith

feed_after : (k : ℕ) (st : Utf8) (s : List ℕ) → After k st → After (k + length s) (feed utf8_step st s)
unfolding feed
feed_after k st [] a = let e : k ≡ k + 0 = omega arith in rw (← e) a
feed_after k st (b ∷ s) a =
    let e : suc k + length s ≡ k + suc (length s) = omega arith in
    rw (← e) (feed_after (suc k) (utf8_step st b) s (step_after k st b a))

front_whole : (k : ℕ) (st : Utf8) → After k st → is_whole st ≡ true → whole_front st ≡ k
unfolding After is_whole whole_front
front_whole k (Whole n) a e = a
front_whole k (Part n read more low high) a e = absurd (false≢true e)
front_whole k (Broken n) a e = absurd (false≢true e)

front_less : (k : ℕ) (st : Utf8) → After k st → is_whole st ≡ false → whole_front st < k
unfolding After is_whole whole_front
front_less k (Whole n) a e = absurd (true≢false e)
front_less k (Part n read more low high) a e = a.0
front_less k (Broken n) a e = a

utf8_after : (s : List ℕ) → After (length s) (utf8 s)
unfolding utf8
utf8_after s = let e : 0 + length s ≡ length s = omega arith in rw e at (feed_after 0 (Whole 0) s after_start)

pub utf8_whole : (s : List ℕ) → is_whole (utf8 s) ≡ true → whole_front (utf8 s) ≡ length s
utf8_whole s e = front_whole (length s) (utf8 s) (utf8_after s) e

pub utf8_less : (s : List ℕ) → is_whole (utf8 s) ≡ false → whole_front (utf8 s) < length s
utf8_less s e = front_less (length s) (utf8 s) (utf8_after s) e

-- ---- a byte more: the front stays, or all that was read is whole

-- where the machine may stand after a byte that it read with a front of n bytes
unfoldable pub Keeps : ℕ → Utf8 → Type 0
Keeps n (Whole m) = n < m
Keeps n (Part m read more low high) = m ≡ n
Keeps n (Broken m) = m ≡ n

pub lead_keeps : (n b : ℕ) → Keeps n (lead n b)
unfolding Keeps
lead_keeps n b = lead_case (Keeps n) n b (omega arith) refl (λ more low high _. refl)

later_keeps : (n read more : ℕ) → Keeps n (later n read more)
unfolding Keeps later
later_keeps n read zero = omega arith
later_keeps n read (suc more) = refl

pub step_keeps : (u : Utf8) (b : ℕ) → Keeps (whole_front u) (utf8_step u b)
unfolding Keeps utf8_step whole_front
step_keeps (Whole n) b = lead_keeps n b
step_keeps (Part n read more low high) b =
    cond_both (Keeps n) (ltb b low) (λ _. refl) (λ _. cond_both (Keeps n) (leb b high) (λ _. later_keeps n read more) (λ _. refl))
step_keeps (Broken n) b = refl
