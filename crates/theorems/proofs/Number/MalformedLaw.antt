-- What is no number of the grammar is malformed: what has been read, by where the machine that reads numbers stands.
-- Assumes nothing.
use mathlib.Core.Path.{◌≡◌, refl, sym, ap, ◌∙◌, subst}
use Prim.Native.Nat.{ℕ, suc, ◌+◌, ◌*◌}
use Prim.Native.Char.{code}
use mathlib.Core.Bool.{Bool, true, false, cond}
use mathlib.Core.List.{List, [], ◌∷◌, ◌++◌, append_assoc, append-nil}
use lib.Dec.{T, ltb}
use lib.IntN.{pos, neg_ℤ, ◌+ℤ◌}
use Rattle.text.specs.Bytes.{feed, is, is_digit_in, digit_value}
use Rattle.text.proofs.Choice.{cond_both, is_true}
use Rattle.literals.specs.declared.number.Number.{Number}
use Rattle.literals.specs.declared.number.Number.TheVariants.{Start, Bad, Sign, Zero, Digit, Underscore, Dot, Prefix, Based, BasedUnderscore, Fraction, FractionUnderscore, ExpLetter, ExpSign, ExpDigit, ExpUnderscore}
use Rattle.literals.specs.Number.{Meaning}
use Rattle.std.specs.declared.result.Result.TheVariants.{Err}
use Rattle.literals.specs.declared.number.NumberError.TheVariants.{Malformed}
use Rattle.literals.specs.Number.{is_sign, is_zero, is_one_to_nine, is_e, base_of, number_step, signed_by, as_integer, as_decimal, meaning, number}
use Rattle.theorems.specs.Number.{OptionalSign, none, signed, no_underscore, underscore, Followed, by_none, by_digit, Digits, IntegerPart, one_digit, more_digits, BaseLetter, hex, octal, binary, WithFraction, with_fraction, Mantissa, no_fraction, fraction, UpToE, up_to_e, exponent, Numeral, integer, based, without_exponent, with_exponent, NumbersRead}
use Rattle.theorems.proofs.Number.DigitLaws.{from_byte, digit_alone, digit_more, fraction_more}
use Rattle.theorems.proofs.Number.MeantLaw.{numeral_meant}

-- whether a sign stands there
abbrev has_sign : List ℕ → Bool
has_sign [] = false
has_sign (b ∷ s) = true

-- the bytes that have been read, and the machine's state
data Read : List ℕ → Number → Type 0 where
  at_start : Read [] Start
  at_sign : (b : ℕ) → is_sign b ≡ true → Read (b ∷ []) (Sign (is "-" b))
  at_zero : (sg : List ℕ) (minus : Bool) → OptionalSign sg minus → Read (sg ++ (code "0" ∷ [])) (Zero (has_sign sg) minus)
  at_digit : (sg s : List ℕ) (minus : Bool) (c m count : ℕ) → OptionalSign sg minus → is_one_to_nine c ≡ true
      → Followed 10 (c ∷ []) (digit_value c) s m count → Read (sg ++ s) (Digit minus m)
  at_gap : (sg s : List ℕ) (minus : Bool) (c m count : ℕ) → OptionalSign sg minus → is_one_to_nine c ≡ true
      → Followed 10 (c ∷ []) (digit_value c) s m count → Read ((sg ++ s) ++ (code "_" ∷ [])) (Underscore minus m)
  at_dot : (sg s : List ℕ) (minus : Bool) (m : ℕ) → OptionalSign sg minus → IntegerPart s m → Read ((sg ++ s) ++ (code "." ∷ [])) (Dot minus m)
  at_fraction : (sg s : List ℕ) (minus : Bool) (m places : ℕ) → OptionalSign sg minus → WithFraction s m places
      → Read (sg ++ s) (Fraction minus m places)
  at_fraction_gap : (sg s : List ℕ) (minus : Bool) (m places : ℕ) → OptionalSign sg minus → WithFraction s m places
      → Read ((sg ++ s) ++ (code "_" ∷ [])) (FractionUnderscore minus m places)
  at_prefix : (c base : ℕ) → BaseLetter c base → Read (code "0" ∷ c ∷ []) (Prefix base)
  at_based : (c base : ℕ) (s : List ℕ) (n : ℕ) → BaseLetter c base → Digits base s n → Read (code "0" ∷ c ∷ s) (Based base n)
  at_based_gap : (c base : ℕ) (s : List ℕ) (n : ℕ) → BaseLetter c base → Digits base s n
      → Read (code "0" ∷ c ∷ (s ++ (code "_" ∷ []))) (BasedUnderscore base n)
  at_mark : (front : List ℕ) (minus : Bool) (m places : ℕ) → UpToE front minus m places → Read front (ExpLetter minus m places)
  at_exponent_sign : (front : List ℕ) (minus : Bool) (m places c : ℕ) → UpToE front minus m places → is_sign c ≡ true
      → Read (front ++ (c ∷ [])) (ExpSign minus m places (is "-" c))
  at_exponent : (front sg s : List ℕ) (minus : Bool) (m places : ℕ) (below : Bool) (n : ℕ) → UpToE front minus m places → OptionalSign sg below
      → Digits 10 s n → Read (front ++ (sg ++ s)) (ExpDigit minus m places below n)
  at_exponent_gap : (front sg s : List ℕ) (minus : Bool) (m places : ℕ) (below : Bool) (n : ℕ) → UpToE front minus m places
      → OptionalSign sg below → Digits 10 s n → Read ((front ++ (sg ++ s)) ++ (code "_" ∷ [])) (ExpUnderscore minus m places below n)
  at_bad : (s : List ℕ) → Read s Bad

-- ---- the next byte

-- a choice by a test of it
either : {t : List ℕ} {x y : Number} (c : Bool) → (T c → Read t x) → Read t y → Read t (cond c x y)
either {t} c f r = cond_both (Read t) c f (λ u. r)

-- a digit or not; the bytes with the digit are put together in two ways
digit_else : {s t : List ℕ} {x y : Number} (base b : ℕ) → s ≡ t → (is_digit_in base b ≡ true → Read s x) → Read t y
    → Read t (cond (is_digit_in base b) x y)
digit_else {s} {t} {x} base b e f r =
    either (is_digit_in base b) (λ u. subst (λ (l : List ℕ). Read l x) e (f (is_true (is_digit_in base b) u))) r

-- one byte behind two parts, behind two parts and an underscore, and bytes behind three parts
behind : (a s : List ℕ) (b : ℕ) → a ++ (s ++ (b ∷ [])) ≡ (a ++ s) ++ (b ∷ [])
behind a s b = sym (append_assoc a s (b ∷ []))

behind_gap : (a s : List ℕ) (c b : ℕ) → a ++ (s ++ (c ∷ b ∷ [])) ≡ ((a ++ s) ++ (c ∷ [])) ++ (b ∷ [])
behind_gap a s c b = sym (append_assoc (a ++ s) (c ∷ []) (b ∷ []) ∙ append_assoc a s (c ∷ b ∷ []))

behind_three : (a s t u : List ℕ) → a ++ (s ++ (t ++ u)) ≡ (a ++ (s ++ t)) ++ u
behind_three a s t u = sym (append_assoc a (s ++ t) u ∙ ap (λ (l : List ℕ). a ++ l) (append_assoc s t u))

-- the first digit of an integer part
begun : (sg : List ℕ) (minus : Bool) (b : ℕ) → OptionalSign sg minus
    → Read (sg ++ (b ∷ [])) (cond (is_zero b) (Zero (has_sign sg) minus) (cond (is_one_to_nine b) (Digit minus (digit_value b)) Bad))
begun sg minus b o =
    either (is_zero b) (λ t. from_byte (λ (c : ℕ). Read (sg ++ (c ∷ [])) (Zero (has_sign sg) minus)) 48 b t (at_zero sg minus o))
    (either (is_one_to_nine b) (λ t. at_digit sg (b ∷ []) minus b (digit_value b) 0 o (is_true (is_one_to_nine b) t) by_none) (at_bad (sg ++ (b ∷ []))))

-- a point behind an integer part
dotted : (sg s : List ℕ) (minus : Bool) (m b : ℕ) → OptionalSign sg minus → IntegerPart s m → T (is "." b)
    → Read ((sg ++ s) ++ (b ∷ [])) (Dot minus m)
dotted sg s minus m b o w t = from_byte (λ (c : ℕ). Read ((sg ++ s) ++ (c ∷ [])) (Dot minus m)) 46 b t (at_dot sg s minus m o w)

-- an `e`
marked : (sg s : List ℕ) (minus : Bool) (m places b : ℕ) → OptionalSign sg minus → Mantissa s m places → T (is_e b)
    → Read ((sg ++ s) ++ (b ∷ [])) (ExpLetter minus m places)
marked sg s minus m places b o w t =
    subst (λ (l : List ℕ). Read l (ExpLetter minus m places)) (behind sg s b)
    (at_mark (sg ++ (s ++ (b ∷ []))) minus m places (up_to_e sg s minus m places b o w (is_true (is_e b) t)))

-- the letter of a base
letter : (b : ℕ) → T (ltb 0 (base_of b)) → BaseLetter b (base_of b)
unfolding base_of
letter b =
    cond_both Named (is "x" b) (λ t u. from_byte (λ (c : ℕ). BaseLetter c 16) 120 b t hex)
    (λ t.
    cond_both Named (is "o" b) (λ u v. from_byte (λ (c : ℕ). BaseLetter c 8) 111 b u octal)
    (λ u. cond_both Named (is "b" b) (λ v w. from_byte (λ (c : ℕ). BaseLetter c 2) 98 b v binary) (λ v w. absurd w)))
  where
    Named : ℕ → Type 0
    Named base = T (ltb 0 base) → BaseLetter b base

-- 0 as an integer part
nought : IntegerPart (code "0" ∷ []) 0
unfolding digit_value
nought = one_digit 48 refl

step_read : (s : List ℕ) (x : Number) (b : ℕ) → Read s x → Read (s ++ (b ∷ [])) (number_step x b)
unfolding number_step
step_read s x b at_start = either (is_sign b) (λ t. at_sign b (is_true (is_sign b) t)) (begun [] false b none)
step_read s x b (at_sign c e) = begun (c ∷ []) (is "-" c) b (signed c e)
step_read s x b (at_zero sg minus none) =
    either (is "." b) (dotted [] (48 ∷ []) false 0 b none nought)
    (either (is_e b) (marked [] (48 ∷ []) false 0 0 b none (no_fraction (48 ∷ []) 0 nought))
    (either (ltb 0 (base_of b)) (λ t. at_prefix b (base_of b) (letter b t)) (at_bad (48 ∷ b ∷ []))))
step_read s x b (at_zero sg minus (signed c e)) =
    either (is "." b) (dotted (c ∷ []) (48 ∷ []) (is "-" c) 0 b (signed c e) nought)
    (either (is_e b) (marked (c ∷ []) (48 ∷ []) (is "-" c) 0 0 b (signed c e) (no_fraction (48 ∷ []) 0 nought)) (at_bad (c ∷ 48 ∷ b ∷ [])))
step_read s x b (at_digit sg r minus c m count o e f) =
    digit_else 10 b (behind sg r b)
    (λ d. at_digit sg (r ++ (b ∷ [])) minus c (m * 10 + digit_value b) (suc count) o e (by_digit r [] m count b f no_underscore d))
    (either (is "_" b) (λ t. from_byte (λ (y : ℕ). Read ((sg ++ r) ++ (y ∷ [])) (Underscore minus m)) 95 b t (at_gap sg r minus c m count o e f))
    (either (is "." b) (dotted sg r minus m b o (more_digits c r m count e f))
    (either (is_e b) (marked sg r minus m 0 b o (no_fraction r m (more_digits c r m count e f))) (at_bad ((sg ++ r) ++ (b ∷ []))))))
step_read s x b (at_gap sg r minus c m count o e f) =
    digit_else 10 b (behind_gap sg r 95 b)
    (λ d. at_digit sg (r ++ (95 ∷ b ∷ [])) minus c (m * 10 + digit_value b) (suc count) o e (by_digit r (95 ∷ []) m count b f underscore d))
    (at_bad (((sg ++ r) ++ (95 ∷ [])) ++ (b ∷ [])))
step_read s x b (at_dot sg r minus m o w) =
    digit_else 10 b (behind_gap sg r 46 b)
    (λ d.
    at_fraction sg (r ++ (46 ∷ b ∷ [])) minus (m * 10 + digit_value b) 1 o
    (with_fraction r (r ++ (46 ∷ b ∷ [])) m (m * 10 + digit_value b) b 0 w d by_none))
    (at_bad (((sg ++ r) ++ (46 ∷ [])) ++ (b ∷ [])))
step_read s x b (at_fraction sg r minus m places o w) =
    digit_else 10 b (behind sg r b)
    (λ d. at_fraction sg (r ++ (b ∷ [])) minus (m * 10 + digit_value b) (suc places) o (fraction_more r [] m places b w no_underscore d))
    (either (is "_" b)
    (λ t. from_byte (λ (y : ℕ). Read ((sg ++ r) ++ (y ∷ [])) (FractionUnderscore minus m places)) 95 b t (at_fraction_gap sg r minus m places o w))
    (either (is_e b) (marked sg r minus m places b o (fraction r m places w)) (at_bad ((sg ++ r) ++ (b ∷ [])))))
step_read s x b (at_fraction_gap sg r minus m places o w) =
    digit_else 10 b (behind_gap sg r 95 b)
    (λ d. at_fraction sg (r ++ (95 ∷ b ∷ [])) minus (m * 10 + digit_value b) (suc places) o (fraction_more r (95 ∷ []) m places b w underscore d))
    (at_bad (((sg ++ r) ++ (95 ∷ [])) ++ (b ∷ [])))
step_read s x b (at_prefix c base l) =
    digit_else base b refl (λ d. at_based c base (b ∷ []) (digit_value b) l (digit_alone base b d)) (at_bad (48 ∷ c ∷ b ∷ []))
step_read s x b (at_based c base r n l d) =
    digit_else base b refl (λ e. at_based c base (r ++ (b ∷ [])) (n * base + digit_value b) l (digit_more base r [] n b d no_underscore e))
    (either (is "_" b) (λ t. from_byte (λ (y : ℕ). Read (48 ∷ c ∷ (r ++ (y ∷ []))) (BasedUnderscore base n)) 95 b t (at_based_gap c base r n l d))
    (at_bad (48 ∷ c ∷ (r ++ (b ∷ [])))))
step_read s x b (at_based_gap c base r n l d) =
    digit_else base b (behind_gap (48 ∷ c ∷ []) r 95 b)
    (λ e. at_based c base (r ++ (95 ∷ b ∷ [])) (n * base + digit_value b) l (digit_more base r (95 ∷ []) n b d underscore e))
    (at_bad (48 ∷ c ∷ ((r ++ (95 ∷ [])) ++ (b ∷ []))))
step_read s x b (at_mark front minus m places u) =
    either (is_sign b) (λ t. at_exponent_sign front minus m places b u (is_true (is_sign b) t))
    (digit_else 10 b refl (λ d. at_exponent front [] (b ∷ []) minus m places false (digit_value b) u none (digit_alone 10 b d))
    (at_bad (front ++ (b ∷ []))))
step_read s x b (at_exponent_sign front minus m places c u e) =
    digit_else 10 b (behind front (c ∷ []) b)
    (λ d. at_exponent front (c ∷ []) (b ∷ []) minus m places (is "-" c) (digit_value b) u (signed c e) (digit_alone 10 b d))
    (at_bad ((front ++ (c ∷ [])) ++ (b ∷ [])))
step_read s x b (at_exponent front sg r minus m places below n u o d) =
    digit_else 10 b (behind_three front sg r (b ∷ []))
    (λ e. at_exponent front sg (r ++ (b ∷ [])) minus m places below (n * 10 + digit_value b) u o (digit_more 10 r [] n b d no_underscore e))
    (either (is "_" b)
    (λ t.
    from_byte (λ (y : ℕ). Read ((front ++ (sg ++ r)) ++ (y ∷ [])) (ExpUnderscore minus m places below n)) 95 b t
    (at_exponent_gap front sg r minus m places below n u o d))
    (at_bad ((front ++ (sg ++ r)) ++ (b ∷ []))))
step_read s x b (at_exponent_gap front sg r minus m places below n u o d) =
    digit_else 10 b (behind_three front sg r (95 ∷ b ∷ []) ∙ sym (append_assoc (front ++ (sg ++ r)) (95 ∷ []) (b ∷ [])))
    (λ e. at_exponent front sg (r ++ (95 ∷ b ∷ [])) minus m places below (n * 10 + digit_value b) u o (digit_more 10 r (95 ∷ []) n b d underscore e))
    (at_bad (((front ++ (sg ++ r)) ++ (95 ∷ [])) ++ (b ∷ [])))
step_read s x b (at_bad t) = at_bad (t ++ (b ∷ []))

feed_read : (t s : List ℕ) (x : Number) → Read s x → Read (s ++ t) (feed number_step x t)
unfolding feed
feed_read [] s x r = subst (λ (l : List ℕ). Read l x) (sym (append-nil s)) r
feed_read (b ∷ t) s x r =
    subst (λ (l : List ℕ). Read l (feed number_step (number_step x b) t)) (append_assoc s (b ∷ []) t)
    (feed_read t (s ++ (b ∷ [])) (number_step x b) (step_read s x b r))

-- ---- at the end

-- where what has been read is no number, the machine's state means none
read_malformed : (s : List ℕ) (x : Number) → Read s x → ((y : Meaning) → Numeral s y → ⊥) → meaning x ≡ Err Malformed
unfolding meaning
read_malformed s x at_start f = refl
read_malformed s x (at_sign b e) f = refl
read_malformed s x (at_zero sg minus o) f = absurd (f (as_integer minus 0) (integer sg (48 ∷ []) minus 0 o nought))
read_malformed s x (at_digit sg r minus c m count o e h) f =
    absurd (f (as_integer minus m) (integer sg r minus m o (more_digits c r m count e h)))
read_malformed s x (at_gap sg r minus c m count o e h) f = refl
read_malformed s x (at_dot sg r minus m o w) f = refl
read_malformed s x (at_fraction sg r minus m places o w) f =
    absurd (f (as_decimal minus m (neg_ℤ (pos places))) (without_exponent sg r minus m places o w))
read_malformed s x (at_fraction_gap sg r minus m places o w) f = refl
read_malformed s x (at_prefix c base l) f = refl
read_malformed s x (at_based c base r n l d) f = absurd (f (as_integer false n) (based c base r n l d))
read_malformed s x (at_based_gap c base r n l d) f = refl
read_malformed s x (at_mark front minus m places u) f = refl
read_malformed s x (at_exponent_sign front minus m places c u e) f = refl
read_malformed s x (at_exponent front sg r minus m places below n u o d) f =
    absurd
    (f (as_decimal minus m (signed_by below n +ℤ neg_ℤ (pos places)))
    (with_exponent front (sg ++ r) minus m places (signed_by below n) u (exponent sg r below n o d)))
read_malformed s x (at_exponent_gap front sg r minus m places below n u o d) f = refl
read_malformed s x (at_bad t) f = refl

pub numbers_read : NumbersRead
unfolding NumbersRead number
numbers_read s =
    record {
      means = numeral_meant s;
      malformed = λ f. read_malformed s (feed number_step Start s) (feed_read s [] Start at_start) f;
    }
