-- A number of the grammar has the meaning that the grammar gives it: the machine that reads numbers, over each of its parts.
-- Assumes nothing.
use mathlib.Core.Path.{◌≡◌, refl, sym, ap, ◌∙◌, subst}
use Prim.Native.Nat.{ℕ, suc, ◌+◌, ◌*◌}
use Prim.Native.Char.{code}
use native.Mathlib.Omega.{arith}
use mathlib.Core.Bool.{Bool, true, false}
use mathlib.Core.List.{List, [], ◌∷◌, ◌++◌}
use lib.Dec.{leb}
use borrow.Author.Tests.{leb-true, eqb-true, ne_eqb}
use Rattle.text.specs.Bytes.{feed, is, is_digit_in, digit_value}
use Rattle.text.proofs.Choice.{and_left}
use Rattle.text.proofs.FeedLaws.{feed_append}
use Rattle.literals.specs.declared.number.Number.{Number}
use Rattle.literals.specs.declared.number.Number.TheVariants.{Start, Sign, Zero, Digit, Underscore, Dot, Prefix, Based, BasedUnderscore, Fraction, FractionUnderscore, ExpLetter, ExpSign, ExpDigit, ExpUnderscore}
use Rattle.literals.specs.Number.{Meaning}
use Rattle.literals.specs.Number.{is_sign, is_one_to_nine, is_e, base_of, number_step, as_integer, meaning, number}
use Rattle.theorems.specs.Number.{OptionalSign, none, signed, Digits, IntegerPart, one_digit, more_digits, BaseLetter, hex, octal, binary, WithFraction, with_fraction, Mantissa, no_fraction, fraction, UpToE, up_to_e, exponent, Numeral, integer, based, without_exponent, with_exponent}
use Rattle.theorems.proofs.Number.DigitLaws.{digit_least, other_digit, e_case, followed_fed, digits_fed}

-- ---- a sign

-- a state in which an integer part may begin
record Begins (n : Number) (minus : Bool) : Type 0 where
  sg : Bool
  at_zero : number_step n (code "0") ≡ Zero sg minus
  at_one : (b : ℕ) → is_one_to_nine b ≡ true → number_step n b ≡ Digit minus (digit_value b)

start_one : (b : ℕ) → is_one_to_nine b ≡ true → number_step Start b ≡ Digit false (digit_value b)
unfolding number_step
start_one b e =
    let h = leb-true 49 b (and_left (leb 49 b) (leb b 57) e) in
    rw (ne_eqb b 43 (λ f. omega arith), ne_eqb b 45 (λ f. omega arith), ne_eqb b 48 (λ f. omega arith), e)

sign_one : (minus : Bool) (b : ℕ) → is_one_to_nine b ≡ true → number_step (Sign minus) b ≡ Digit minus (digit_value b)
unfolding number_step
sign_one minus b e =
    let h = leb-true 49 b (and_left (leb 49 b) (leb b 57) e) in
    rw (ne_eqb b 48 (λ f. omega arith), e)

start_sign : (b : ℕ) → is_sign b ≡ true → number_step Start b ≡ Sign (is "-" b)
unfolding number_step
start_sign b e = rw e

sign_fed : (s : List ℕ) (minus : Bool) → OptionalSign s minus → Begins (feed number_step Start s) minus
unfolding feed number_step
sign_fed s minus none = record { sg = false; at_zero = refl; at_one = start_one }
sign_fed s minus (signed b e) =
    subst (λ (x : Number). Begins x (is "-" b)) (sym (start_sign b e))
    (record { sg = true; at_zero = refl; at_one = sign_one (is "-" b) })

-- ---- up to the `e`

module _ (minus : Bool) where
  -- a state in which an integer part may end: there, or before a point or an `e`
  record Ends (n : Number) (m : ℕ) : Type 0 where
    there : meaning n ≡ as_integer minus m
    dot : number_step n (code ".") ≡ Dot minus m
    mark : (b : ℕ) → is_e b ≡ true → number_step n b ≡ ExpLetter minus m 0

  zero_ends : (sg : Bool) → Ends (Zero sg minus) 0
  unfolding number_step meaning
  zero_ends sg =
      record { there = refl; dot = refl; mark = λ b e. e_case (λ (x : ℕ). number_step (Zero sg minus) x ≡ ExpLetter minus 0 0) b e refl refl }

  digit_ends : (m : ℕ) → Ends (Digit minus m) m
  unfolding number_step digit_value meaning
  digit_ends m =
      record { there = refl; dot = refl; mark = λ b e. e_case (λ (x : ℕ). number_step (Digit minus m) x ≡ ExpLetter minus m 0) b e refl refl }

  -- digits of the integer part, and of the fraction
  whole_digit : (m count b : ℕ) → is_digit_in 10 b ≡ true → number_step (Digit minus m) b ≡ Digit minus (m * 10 + digit_value b)
  unfolding number_step
  whole_digit m count b e = rw e

  whole_gap : (m count b : ℕ) → is_digit_in 10 b ≡ true → number_step (number_step (Digit minus m) (code "_")) b ≡ Digit minus (m * 10 + digit_value b)
  unfolding number_step digit_value
  whole_gap m count b e = gap
    where
      gap : number_step (Underscore minus m) b ≡ Digit minus (m * 10 + digit_value b)
      gap = rw e

  dot_digit : (m b : ℕ) → is_digit_in 10 b ≡ true → number_step (Dot minus m) b ≡ Fraction minus (m * 10 + digit_value b) 1
  unfolding number_step
  dot_digit m b e = rw e

  fraction_digit : (m count b : ℕ) → is_digit_in 10 b ≡ true
      → number_step (Fraction minus m (suc count)) b ≡ Fraction minus (m * 10 + digit_value b) (suc (suc count))
  unfolding number_step
  fraction_digit m count b e = rw e

  fraction_gap : (m count b : ℕ) → is_digit_in 10 b ≡ true
      → number_step (number_step (Fraction minus m (suc count)) (code "_")) b ≡ Fraction minus (m * 10 + digit_value b) (suc (suc count))
  unfolding number_step digit_value
  fraction_gap m count b e = gap
    where
      gap : number_step (FractionUnderscore minus m (suc count)) b ≡ Fraction minus (m * 10 + digit_value b) (suc (suc count))
      gap = rw e

  fraction_mark : (m places b : ℕ) → is_e b ≡ true → number_step (Fraction minus m places) b ≡ ExpLetter minus m places
  unfolding number_step digit_value
  fraction_mark m places b e = e_case (λ (x : ℕ). number_step (Fraction minus m places) x ≡ ExpLetter minus m places) b e refl refl

  -- from a state in which an integer part may begin
  module _ (n : Number) (start : Begins n minus) where
    whole_fed : (s : List ℕ) (m : ℕ) → IntegerPart s m → Ends (feed number_step n s) m
    unfolding feed digit_value
    whole_fed s m (one_digit b e) = by_zero (is "0" b) refl
      where
        by_zero : (t : Bool) → is "0" b ≡ t → Ends (number_step n b) (digit_value b)
        by_zero true f =
            subst (λ (x : ℕ). Ends (number_step n x) (digit_value x)) (sym (eqb-true b 48 f))
            (subst (λ (x : Number). Ends x 0) (sym start.at_zero) (zero_ends start.sg))
        by_zero false f = subst (λ (x : Number). Ends x (digit_value b)) (sym (start.at_one b (other_digit b e f))) (digit_ends (digit_value b))
    whole_fed s m (more_digits b t k count e f) =
        subst (λ (x : Number). Ends x k)
        (sym (followed_fed 10 n (λ (x y : ℕ). Digit minus x) whole_digit whole_gap (b ∷ []) (digit_value b) (start.at_one b e) t k count f))
        (digit_ends k)

    fraction_fed : (s : List ℕ) (m places : ℕ) → WithFraction s m places → feed number_step n s ≡ Fraction minus m places
    unfolding feed
    fraction_fed s m places (with_fraction whole t w k c count h d f) =
        followed_fed 10 n (λ (x y : ℕ). Fraction minus x (suc y)) fraction_digit fraction_gap (whole ++ (46 ∷ c ∷ [])) (w * 10 + digit_value c) first
        t k count f
      where
        first : feed number_step n (whole ++ (46 ∷ c ∷ [])) ≡ Fraction minus (w * 10 + digit_value c) 1
        first =
            feed_append number_step n whole (46 ∷ c ∷ []) ∙ ap (λ (x : Number). number_step x c) (whole_fed whole w h).dot ∙ dot_digit w c d

    mantissa_fed : (s : List ℕ) (m places b : ℕ) → Mantissa s m places → is_e b ≡ true → feed number_step n (s ++ (b ∷ [])) ≡ ExpLetter minus m places
    unfolding feed
    mantissa_fed s m places b (no_fraction t k w) e = feed_append number_step n t (b ∷ []) ∙ (whole_fed t k w).mark b e
    mantissa_fed s m places b (fraction t k p w) e =
        feed_append number_step n t (b ∷ []) ∙ ap (λ (x : Number). number_step x b) (fraction_fed t k p w) ∙ fraction_mark k p b e

up_to_e_fed : (front : List ℕ) (minus : Bool) (m places : ℕ) → UpToE front minus m places → feed number_step Start front ≡ ExpLetter minus m places
up_to_e_fed front minus m places (up_to_e sg s neg k p b o d e) =
    feed_append number_step Start sg (s ++ (b ∷ [])) ∙ mantissa_fed neg (feed number_step Start sg) (sign_fed sg neg o) s k p b d e

-- ---- an exponent

module _ (minus : Bool) (m places : ℕ) where
  mark_digit : (b : ℕ) → is_digit_in 10 b ≡ true → number_step (ExpLetter minus m places) b ≡ ExpDigit minus m places false (digit_value b)
  unfolding number_step
  mark_digit b e =
      let h = digit_least b e in
      rw (ne_eqb b 43 (λ f. omega arith), ne_eqb b 45 (λ f. omega arith), e)

  mark_sign : (b : ℕ) → is_sign b ≡ true → number_step (ExpLetter minus m places) b ≡ ExpSign minus m places (is "-" b)
  unfolding number_step
  mark_sign b e = rw e

  sign_digit : (below : Bool) (b : ℕ) → is_digit_in 10 b ≡ true → number_step (ExpSign minus m places below) b ≡ ExpDigit minus m places below (digit_value b)
  unfolding number_step
  sign_digit below b e = rw e

  exponent_digit : (below : Bool) (n count b : ℕ) → is_digit_in 10 b ≡ true
      → number_step (ExpDigit minus m places below n) b ≡ ExpDigit minus m places below (n * 10 + digit_value b)
  unfolding number_step
  exponent_digit below n count b e = rw e

  exponent_gap : (below : Bool) (n count b : ℕ) → is_digit_in 10 b ≡ true
      → number_step (number_step (ExpDigit minus m places below n) (code "_")) b ≡ ExpDigit minus m places below (n * 10 + digit_value b)
  unfolding number_step digit_value
  exponent_gap below n count b e = gap
    where
      gap : number_step (ExpUnderscore minus m places below n) b ≡ ExpDigit minus m places below (n * 10 + digit_value b)
      gap = rw e

  exponent_fed : (sg s : List ℕ) (below : Bool) (n : ℕ) → OptionalSign sg below → Digits 10 s n
      → feed number_step (ExpLetter minus m places) (sg ++ s) ≡ ExpDigit minus m places below n
  unfolding feed
  exponent_fed sg s below n none d =
      digits_fed 10 (ExpLetter minus m places) (ExpDigit minus m places false) mark_digit (exponent_digit false) (exponent_gap false) s n d
  exponent_fed sg s below n (signed b e) d =
      ap (λ (x : Number). feed number_step x s) (mark_sign b e)
      ∙ digits_fed 10 (ExpSign minus m places (is "-" b)) (ExpDigit minus m places (is "-" b)) (sign_digit (is "-" b)) (exponent_digit (is "-" b))
      (exponent_gap (is "-" b)) s n d

-- what a decimal with an exponent means
pub exponent_meant : (front : List ℕ) (minus : Bool) (m places : ℕ) → UpToE front minus m places
    → (sg s : List ℕ) (below : Bool) (n : ℕ) → OptionalSign sg below → Digits 10 s n
    → number (front ++ (sg ++ s)) ≡ meaning (ExpDigit minus m places below n)
unfolding number
exponent_meant front minus m places u sg s below n o d =
    ap meaning
    (feed_append number_step Start front (sg ++ s)
    ∙ ap (λ (x : Number). feed number_step x (sg ++ s)) (up_to_e_fed front minus m places u)
    ∙ exponent_fed minus m places sg s below n o d)

-- ---- another base

prefix_digit : (base b : ℕ) → is_digit_in base b ≡ true → number_step (Prefix base) b ≡ Based base (digit_value b)
unfolding number_step
prefix_digit base b e = rw e

based_digit : (base m count b : ℕ) → is_digit_in base b ≡ true → number_step (Based base m) b ≡ Based base (m * base + digit_value b)
unfolding number_step
based_digit base m count b e = rw e

gap_digit : (base m b : ℕ) → is_digit_in base b ≡ true → number_step (BasedUnderscore base m) b ≡ Based base (m * base + digit_value b)
unfolding number_step
gap_digit base m b e = rw e

-- the letter and an underscore, of each base
letter_fed : (b base : ℕ) → BaseLetter b base → number_step (Zero false false) b ≡ Prefix base
unfolding number_step base_of
letter_fed b base hex = refl
letter_fed b base octal = refl
letter_fed b base binary = refl

based_gap : (b base : ℕ) → BaseLetter b base → (m : ℕ) → number_step (Based base m) (code "_") ≡ BasedUnderscore base m
unfolding number_step digit_value
based_gap b base hex m = refl
based_gap b base octal m = refl
based_gap b base binary m = refl

based_fed : (b base : ℕ) (s : List ℕ) (n : ℕ) → BaseLetter b base → Digits base s n → feed number_step Start (code "0" ∷ b ∷ s) ≡ Based base n
unfolding feed number_step
based_fed b base s n l d =
    ap (λ (x : Number). feed number_step x s) (letter_fed b base l)
    ∙ digits_fed base (Prefix base) (Based base) (prefix_digit base) (based_digit base)
    (λ m count c e. ap (λ (x : Number). number_step x c) (based_gap b base l m) ∙ gap_digit base m c e) s n d

-- ---- every number of the grammar

pub numeral_meant : (s : List ℕ) (x : Meaning) → Numeral s x → number s ≡ x
unfolding number meaning
numeral_meant s x (integer sg t minus n o w) =
    ap meaning (feed_append number_step Start sg t) ∙ (whole_fed minus (feed number_step Start sg) (sign_fed sg minus o) t n w).there
numeral_meant s x (based b base t n l d) = ap meaning (based_fed b base t n l d)
numeral_meant s x (without_exponent sg t minus m places o w) =
    ap meaning (feed_append number_step Start sg t ∙ fraction_fed minus (feed number_step Start sg) (sign_fed sg minus o) t m places w)
numeral_meant s x (with_exponent front t minus m places value u (exponent sg r below n o d)) =
    exponent_meant front minus m places u sg r below n o d
