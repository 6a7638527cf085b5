-- The examples of numbers with exponents, by computation; those of any count of zeros by the law of leading zeros.
-- Assumes nothing.
use mathlib.Core.Path.{refl}
use mathlib.Core.Bool.{true, false}
use mathlib.Core.List.{[]}
use Rattle.text.specs.Bytes.{ascii, digit_value}
use Rattle.reader.proofs.Computing.{readings}
use Rattle.theorems.specs.Number.{none, signed, by_none, one_digit, no_fraction, UpToE, up_to_e, Digits, digits, LeadingZeros, ExponentsByHand}
use Rattle.theorems.proofs.Number.ZerosLaw.{leading_zeros}

-- `1e`, and a digit behind it
one_e : UpToE (ascii "1e") false 1 0
unfolding digit_value
one_e = up_to_e [] (ascii "1") false 1 0 101 none (no_fraction (ascii "1") 1 (one_digit 49 refl)) refl

six : Digits 10 (ascii "6") 6
unfolding digit_value
six = digits 54 (ascii "6") 6 0 refl by_none

nought : Digits 10 (ascii "0") 0
unfolding digit_value
nought = digits 48 (ascii "0") 0 0 refl by_none

pub exponents_by_hand : ExponentsByHand
unfolding readings LeadingZeros
exponents_by_hand =
    record {
      request = refl;
      integer_part = refl;
      signed_integer_part = refl;
      underscore_before_e = refl;
      point_before_e = refl;
      hex_digits = refl;
      after_zero = refl;
      after_capital = refl;
      after_plus = refl;
      after_minus = refl;
      zeros_alone = refl;
      between_digits = refl;
      first_underscore = refl;
      last_underscore = refl;
      two_underscores = refl;
      signed_underscore = refl;
      one_zero = refl;
      no_digit = refl;
      sign_alone = refl;
      letter = refl;
      point = refl;
      point_first = refl;
      very_many = λ count. leading_zeros (ascii "1e") false 1 0 one_e [] (ascii "6") false 6 count none six;
      very_many_alone = λ count. leading_zeros (ascii "1e") false 1 0 one_e (ascii "-") (ascii "0") true 0 count (signed 45 refl) nought;
      highest = refl;
      too_high = refl;
      lowest = refl;
      too_low = refl;
      zero_highest = refl;
      zero_too_high = refl;
      zero_lowest = refl;
      zero_too_low = refl;
      widest = refl;
      too_wide = refl;
      minus_too_wide = refl;
      malformed_first = refl;
    }
