-- UTF-8 of texts put together: a text that is UTF-8 may be cut before an ASCII byte, two such texts may be joined, and so a part of one
-- may be replaced.
-- Assumes nothing.
use mathlib.Core.Path.{◌≡◌, refl, sym, ap, ◌∙◌}
use Prim.Native.Nat.{ℕ, zero, suc, ◌≤◌}
use native.Mathlib.Omega.{arith}
use mathlib.Core.Bool.{Bool, true, cond, false≢true}
use mathlib.Core.List.{List, [], ◌∷◌, ◌++◌, append-nil}
use lib.Dec.{leb, ltb, eqb}
use borrow.Author.Tests.{lt-ltb}
use Rattle.text.specs.Bytes.{feed}
use Rattle.text.specs.declared.utf8.Utf8.{Utf8}
use Rattle.text.specs.declared.utf8.Utf8.TheVariants.{Whole, Part, Broken}
use Rattle.text.specs.Utf8.{lead, later, utf8_step, utf8, is_whole}
use Rattle.text.proofs.Choice.{cond_both, cond-pair}
use Rattle.text.proofs.FeedLaws.{feed_append, feed_stays}
use Rattle.text.proofs.Utf8Laws.{lead_case}

-- ---- an ASCII byte stands between characters

-- a begun character goes on with a byte above 127
High : Utf8 → Type 0
High (Whole n) = Unit {0}
High (Part n read more low high) = 128 ≤ low
High (Broken n) = Unit {0}

lead_high : (n b : ℕ) → High (lead n b)
unfolding High
lead_high n b = lead_case High n b tt tt (λ more low high h. h)

later_high : (n read more : ℕ) → High (later n read more)
unfolding High later
later_high n read zero = tt
later_high n read (suc more) = omega arith

step_high : (st : Utf8) (b : ℕ) → High (utf8_step st b)
unfolding High utf8_step
step_high (Whole n) b = lead_high n b
step_high (Part n read more low high) b =
    cond_both High (ltb b low) (λ _. tt) (λ _. cond_both High (leb b high) (λ _. later_high n read more) (λ _. tt))
step_high (Broken n) b = tt

feed_high : (st : Utf8) (s : List ℕ) → High st → High (feed utf8_step st s)
unfolding feed
feed_high st [] h = h
feed_high st (b ∷ s) h = feed_high (utf8_step st b) s (step_high st b)

never_whole : (n : ℕ) (s : List ℕ) → is_whole (feed utf8_step (Broken n) s) ≡ true → ⊥
unfolding utf8_step is_whole
never_whole n s e = false≢true (ap is_whole (sym (feed_stays utf8_step (Broken n) (λ b. refl) s)) ∙ e)

ascii_whole : (st : Utf8) (b : ℕ) (s : List ℕ) → High st → b ≤ 127 → is_whole (feed utf8_step st (b ∷ s)) ≡ true → is_whole st ≡ true
unfolding High feed utf8_step is_whole
ascii_whole (Whole n) b s h k e = refl
ascii_whole (Part n read more low high) b s h k e =
    let breaks : utf8_step (Part n read more low high) b ≡ Broken n =
    ap (λ (t : Bool). cond t (Broken n) (cond (leb b high) (later n read more) (Broken n))) (lt-ltb b low (omega arith)) in
    absurd (never_whole n s (ap (λ (u : Utf8). is_whole (feed utf8_step u s)) (sym breaks) ∙ e))
ascii_whole (Broken n) b s h k e = absurd (never_whole n s e)

-- ---- the counts do not matter

uncounted : Utf8 → Utf8
uncounted (Whole n) = Whole 0
uncounted (Part n read more low high) = Part 0 0 more low high
uncounted (Broken n) = Broken 0

Same : Utf8 → Utf8 → Type 0
Same st su = uncounted st ≡ uncounted su

lead_same : (n m b : ℕ) → Same (lead n b) (lead m b)
unfolding Same uncounted lead
lead_same n m b =
    cond-pair Same (leb b 0x7F) refl
    (cond-pair Same (ltb b 0xC2) refl
    (cond-pair Same (leb b 0xDF) refl
    (cond-pair Same (eqb b 0xE0) refl
    (cond-pair Same (leb b 0xEC) refl
    (cond-pair Same (eqb b 0xED) refl
    (cond-pair Same (leb b 0xEF) refl
    (cond-pair Same (eqb b 0xF0) refl
    (cond-pair Same (leb b 0xF3) refl
    (cond-pair Same (eqb b 0xF4) refl
    refl)))))))))

later_same : (n read more : ℕ) → Same (later n read more) (later 0 0 more)
unfolding Same uncounted later
later_same n read zero = refl
later_same n read (suc more) = refl

step_same : (st : Utf8) (b : ℕ) → Same (utf8_step st b) (utf8_step (uncounted st) b)
unfolding Same uncounted utf8_step
step_same (Whole n) b = lead_same n 0 b
step_same (Part n read more low high) b = cond-pair Same (ltb b low) refl (cond-pair Same (leb b high) (later_same n read more) refl)
step_same (Broken n) b = refl

feed_same : (st : Utf8) (s : List ℕ) → Same (feed utf8_step st s) (feed utf8_step (uncounted st) s)
unfolding Same feed uncounted
feed_same st [] = again st
  where
    again : (su : Utf8) → uncounted su ≡ uncounted (uncounted su)
    again (Whole n) = refl
    again (Part n read more low high) = refl
    again (Broken n) = refl
feed_same st (b ∷ s) =
    feed_same (utf8_step st b) s ∙ ap (λ (u : Utf8). uncounted (feed utf8_step u s)) (step_same st b) ∙ sym (feed_same (utf8_step (uncounted st) b) s)

same_whole : (st su : Utf8) → Same st su → is_whole st ≡ is_whole su
unfolding Same uncounted is_whole
same_whole st su e = whole st ∙ ap is_whole e ∙ sym (whole su)
  where
    whole : (sv : Utf8) → is_whole sv ≡ is_whole (uncounted sv)
    whole (Whole n) = refl
    whole (Part n read more low high) = refl
    whole (Broken n) = refl

-- after whole characters the machine goes on as from the start
pub after_whole : (st : Utf8) (s : List ℕ) → is_whole st ≡ true → is_whole (feed utf8_step st s) ≡ is_whole (utf8 s)
unfolding is_whole utf8 uncounted
after_whole (Whole n) s e = same_whole (feed utf8_step (Whole n) s) (feed utf8_step (Whole 0) s) (feed_same (Whole n) s)
after_whole (Part n read more low high) s e = absurd (false≢true e)
after_whole (Broken n) s e = absurd (false≢true e)

-- ---- texts

-- the end, or an ASCII byte
unfoldable pub AsciiHead : List ℕ → Type 0
AsciiHead [] = Unit {0}
AsciiHead (b ∷ s) = b ≤ 127

pub utf8_front : (a z : List ℕ) → AsciiHead z → is_whole (utf8 (a ++ z)) ≡ true → is_whole (utf8 a) ≡ true
unfolding AsciiHead utf8 High
utf8_front a [] h e = ap (λ (l : List ℕ). is_whole (utf8 l)) (sym (append-nil a)) ∙ e
utf8_front a (b ∷ z) h e =
    ascii_whole (utf8 a) b z (feed_high (Whole 0) a tt) h (ap is_whole (sym (feed_append utf8_step (Whole 0) a (b ∷ z))) ∙ e)

pub utf8_append : (a z : List ℕ) → is_whole (utf8 a) ≡ true → is_whole (utf8 (a ++ z)) ≡ is_whole (utf8 z)
unfolding utf8
utf8_append a z e = ap is_whole (feed_append utf8_step (Whole 0) a z) ∙ after_whole (utf8 a) z e

-- a part of a text replaced, the cuts before ASCII bytes
pub utf8_replace : (a z a' z' r : List ℕ) → AsciiHead z → AsciiHead z' → a ++ z ≡ a' ++ z' → is_whole (utf8 (a ++ z)) ≡ true
    → is_whole (utf8 r) ≡ true → is_whole (utf8 (a ++ (r ++ z'))) ≡ true
utf8_replace a z a' z' r h h' s e k =
    let e' : is_whole (utf8 (a' ++ z')) ≡ true = ap (λ (l : List ℕ). is_whole (utf8 l)) (sym s) ∙ e in
    let back : is_whole (utf8 z') ≡ true = sym (utf8_append a' z' (utf8_front a' z' h' e')) ∙ e' in
    utf8_append a (r ++ z') (utf8_front a z h e) ∙ utf8_append r z' k ∙ back
