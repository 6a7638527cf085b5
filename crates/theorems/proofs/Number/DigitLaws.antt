-- Digits: which bytes are digits; digits that follow others, under the machine that reads numbers; a digit more.
-- Assumes nothing.
use mathlib.Core.Path.{◌≡◌, refl, sym, ap, ◌∙◌, subst}
use Prim.Native.Nat.{ℕ, suc, ◌+◌, ◌*◌, ◌≤◌}
use Prim.Native.Char.{code}
use native.Mathlib.Omega.{arith}
use mathlib.Core.Bool.{Bool, true, false, true≢false}
use mathlib.Core.List.{List, [], ◌∷◌, ◌++◌}
use lib.Dec.{T, leb, eqb}
use borrow.Author.Tests.{leb-true, eqb-true, eqb-false, le-leb, le-ltb}
use Rattle.text.specs.Bytes.{feed, is, between, is_digit, is_digit_in, digit_value}
use Rattle.text.proofs.Choice.{cond_both, is_true, and_left, and_right, or_case}
use Rattle.text.proofs.FeedLaws.{feed_append}
use Rattle.literals.specs.declared.number.Number.{Number}
use Rattle.literals.specs.Number.{is_one_to_nine, is_e, number_step}
use Rattle.theorems.specs.Number.{OptionalUnderscore, no_underscore, underscore, Followed, by_none, by_digit, Digits, digits, WithFraction, with_fraction}

-- ---- bytes

-- a digit in base 10 is 0 to 9
is_digit_law : (b : ℕ) → is_digit_in 10 b ≡ true → is_digit b ≡ true
unfolding digit_value
is_digit_law b e = by_class (is_digit b) refl
  where
    by_class : (t : Bool) → is_digit b ≡ t → is_digit b ≡ true
    by_class true f = f
    by_class false f = absurd (true≢false (sym e ∙ off))
      where
        off : is_digit_in 10 b ≡ false
        off =
            rw f
            (le-ltb _ 10
            (cond_both (λ (x : ℕ). 10 ≤ x) (between "A" "F" b) (λ t. omega arith)
            (λ t. cond_both (λ (x : ℕ). 10 ≤ x) (between "a" "f" b) (λ u. omega arith) (λ u. omega arith))))

pub digit_least : (b : ℕ) → is_digit_in 10 b ≡ true → 48 ≤ b
digit_least b e = leb-true 48 b (and_left (leb 48 b) (leb b 57) (is_digit_law b e))

-- a digit but 0 is a nonzero digit
pub other_digit : (b : ℕ) → is_digit_in 10 b ≡ true → is "0" b ≡ false → is_one_to_nine b ≡ true
other_digit b e f =
    let h = digit_least b e in
    let n = eqb-false b 48 f in
    rw (le-leb 49 b (omega (arith, n)), and_right (leb 48 b) (leb b 57) (is_digit_law b e))

-- what holds of a byte holds of one that is the same, and what holds of `e` and of `E` of one that is either
pub from_byte : (P : ℕ → Type 0) (c b : ℕ) → T (eqb b c) → P c → P b
from_byte P c b t p = subst P (sym (eqb-true b c (is_true (eqb b c) t))) p

pub e_case : (P : ℕ → Type 0) (b : ℕ) → is_e b ≡ true → P (code "e") → P (code "E") → P b
e_case P b e small capital =
    or_case (is "e" b) (is "E" b) (P b) (subst T (sym e) tt) (λ t. from_byte P 101 b t small) (λ t. from_byte P 69 b t capital)

-- ---- digits under the machine

module _ (base : ℕ) where
  -- digits that follow: the machine's state by the number that the digits make, and by how many have followed
  pub followed_fed : (n : Number) (state : ℕ → ℕ → Number)
      → ((m count b : ℕ) → is_digit_in base b ≡ true → number_step (state m count) b ≡ state (m * base + digit_value b) (suc count))
      → ((m count b : ℕ) → is_digit_in base b ≡ true → number_step (number_step (state m count) (code "_")) b ≡ state (m * base + digit_value b) (suc count))
      → (s : List ℕ) (v : ℕ) → feed number_step n s ≡ state v 0 → (t : List ℕ) (m count : ℕ) → Followed base s v t m count
      → feed number_step n t ≡ state m count
  unfolding feed
  followed_fed n state f g s v h t m count by_none = h
  followed_fed n state f g s v h t m count (by_digit u gap k j b d no_underscore e) =
      feed_append number_step n u (b ∷ [])
      ∙ ap (λ (x : Number). number_step x b) (followed_fed n state f g s v h u k j d)
      ∙ f k j b e
  followed_fed n state f g s v h t m count (by_digit u gap k j b d underscore e) =
      feed_append number_step n u (95 ∷ b ∷ [])
      ∙ ap (λ (x : Number). number_step (number_step x 95) b) (followed_fed n state f g s v h u k j d)
      ∙ g k j b e

  -- one or more digits, from a state n that takes a first one
  pub digits_fed : (n : Number) (state : ℕ → Number)
      → ((b : ℕ) → is_digit_in base b ≡ true → number_step n b ≡ state (digit_value b))
      → ((m count b : ℕ) → is_digit_in base b ≡ true → number_step (state m) b ≡ state (m * base + digit_value b))
      → ((m count b : ℕ) → is_digit_in base b ≡ true → number_step (number_step (state m) (code "_")) b ≡ state (m * base + digit_value b))
      → (s : List ℕ) (m : ℕ) → Digits base s m → feed number_step n s ≡ state m
  unfolding feed
  digits_fed n state first f g s m (digits b t k count e d) =
      followed_fed n (λ (x y : ℕ). state x) f g (b ∷ []) (digit_value b) (first b e) t k count d

  -- ---- a digit more

  -- one digit, and one digit more
  pub digit_alone : (b : ℕ) → is_digit_in base b ≡ true → Digits base (b ∷ []) (digit_value b)
  digit_alone b e = digits b (b ∷ []) (digit_value b) 0 e by_none

  pub digit_more : (s gap : List ℕ) (n b : ℕ) → Digits base s n → OptionalUnderscore gap → is_digit_in base b ≡ true
      → Digits base (s ++ (gap ++ (b ∷ []))) (n * base + digit_value b)
  digit_more s gap n b (digits c u v k e f) o g = digits c (u ++ (gap ++ (b ∷ []))) (v * base + digit_value b) (suc k) e (by_digit u gap v k b f o g)

-- the same of a fraction
pub fraction_more : (s gap : List ℕ) (m places b : ℕ) → WithFraction s m places → OptionalUnderscore gap → is_digit_in 10 b ≡ true
    → WithFraction (s ++ (gap ++ (b ∷ []))) (m * 10 + digit_value b) (suc places)
fraction_more s gap m places b (with_fraction w t n k c count h d f) o e =
    with_fraction w (t ++ (gap ++ (b ∷ []))) n (k * 10 + digit_value b) c (suc count) h d (by_digit t gap k count b f o e)
