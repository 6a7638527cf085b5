-- The longest valid front: what the machine counts is UTF-8, and no longer front is.
-- Assumes nothing.
use mathlib.Core.Path.{◌≡◌, refl, sym, ap, ◌∙◌, subst}
use Prim.Native.Nat.{ℕ, zero, suc, ◌<◌, ◌≤◌}
use native.Mathlib.Omega.{arith}
use mathlib.Core.Bool.{Bool, true, false, true≢false}
use mathlib.Core.List.{List, [], ◌∷◌}
use lib.ListN.{length, take, drop, get_or, take-append-drop}
use lib.Seq.{length-take-le, take-suc, take-length}
use Rattle.text.specs.Bytes.{feed}
use Rattle.text.specs.declared.utf8.Utf8.{Utf8}
use Rattle.text.specs.declared.utf8.Utf8.TheVariants.{Whole, Part, Broken}
use Rattle.text.specs.Utf8.{utf8_step, utf8, is_whole, is_utf8, whole_front}
use Rattle.text.proofs.FeedLaws.{feed_append}
use Rattle.text.proofs.Utf8Laws.{utf8_whole, utf8_less, Keeps, step_keeps}
use Rattle.theorems.specs.Utf8.{LongestFront}

keeps_grows : (n : ℕ) (u : Utf8) → Keeps n u → n ≤ whole_front u
unfolding Keeps whole_front
keeps_grows n (Whole m) k = omega arith
keeps_grows n (Part m read more low high) k = omega arith
keeps_grows n (Broken m) k = omega arith

keeps_same : (n : ℕ) (u : Utf8) → Keeps n u → is_whole u ≡ false → whole_front u ≡ n
unfolding Keeps whole_front is_whole
keeps_same n (Whole m) k e = absurd (true≢false e)
keeps_same n (Part m read more low high) k e = k
keeps_same n (Broken m) k e = k

-- ---- the front is valid

-- the machine after one byte more of a text
utf8_suc : (s : List ℕ) (k : ℕ) → k < length s → utf8 (take (suc k) s) ≡ utf8_step (utf8 (take k s)) (get_or s k 0)
unfolding utf8 feed
utf8_suc s k h = ap (feed utf8_step (Whole 0)) (take-suc s k 0 h) ∙ feed_append utf8_step (Whole 0) (take k s) (get_or s k 0 ∷ [])

front_next : (s : List ℕ) (k : ℕ) → k < length s → (t : Bool) → is_whole (utf8 (take (suc k) s)) ≡ t
    → is_utf8 (take (whole_front (utf8 (take k s))) s) ≡ true → is_utf8 (take (whole_front (utf8 (take (suc k) s))) s) ≡ true
unfolding is_utf8
front_next s k h true e v =
    let whole : whole_front (utf8 (take (suc k) s)) ≡ suc k = utf8_whole (take (suc k) s) e ∙ length-take-le (suc k) s (omega arith) in
    ap (λ (n : ℕ). is_utf8 (take n s)) whole ∙ e
front_next s k h false e v =
    let next = utf8_suc s k h in
    let kept : whole_front (utf8_step (utf8 (take k s)) (get_or s k 0)) ≡ whole_front (utf8 (take k s)) =
    keeps_same _ _ (step_keeps (utf8 (take k s)) (get_or s k 0)) (ap is_whole (sym next) ∙ e) in
    ap (λ (n : ℕ). is_utf8 (take n s)) (ap whole_front next ∙ kept) ∙ v

front_upto : (s : List ℕ) (k : ℕ) → k ≤ length s → is_utf8 (take (whole_front (utf8 (take k s))) s) ≡ true
unfolding is_utf8 utf8 feed is_whole whole_front
front_upto s zero h = refl
front_upto s (suc k) h = front_next s k (omega arith) (is_whole (utf8 (take (suc k) s))) refl (front_upto s k (omega arith))

front_valid : (s : List ℕ) → is_utf8 (take (whole_front (utf8 s)) s) ≡ true
front_valid s = subst (λ (l : List ℕ). is_utf8 (take (whole_front (utf8 l)) s) ≡ true) (take-length s) (front_upto s (length s) (omega arith))

-- ---- no longer one is

feed_grows : (u : Utf8) (s : List ℕ) → whole_front u ≤ whole_front (feed utf8_step u s)
unfolding feed
feed_grows u [] = omega arith
feed_grows u (b ∷ s) =
    let one = keeps_grows _ _ (step_keeps u b) in
    let rest = feed_grows (utf8_step u b) s in
    omega arith

front_longest : (s : List ℕ) (n : ℕ) → n ≤ length s → is_utf8 (take n s) ≡ true → n ≤ whole_front (utf8 s)
unfolding is_utf8 utf8
front_longest s n h v =
    let whole : whole_front (utf8 (take n s)) ≡ n = utf8_whole (take n s) v ∙ length-take-le n s h in
    let grows = feed_grows (utf8 (take n s)) (drop n s) in
    let all : feed utf8_step (utf8 (take n s)) (drop n s) ≡ utf8 s =
    sym (feed_append utf8_step (Whole 0) (take n s) (drop n s)) ∙ ap utf8 (take-append-drop n s) in
    let front = ap whole_front all in
    omega arith

-- ---- the claim

front_there : (s : List ℕ) (t : Bool) → is_whole (utf8 s) ≡ t → whole_front (utf8 s) ≤ length s
front_there s true e = let h = utf8_whole s e in omega arith
front_there s false e = let h = utf8_less s e in omega arith

pub longest_front : LongestFront
unfolding LongestFront
longest_front s = record { there = front_there s (is_whole (utf8 s)) refl; valid = front_valid s; no_longer = front_longest s }
