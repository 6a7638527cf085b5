-- Numbers, "000's grammar" with document 01's ranges and Req 02's exponents: a machine over the bytes of a number token, and the
-- meaning at its end. The machine's states and the meanings are the code's own enums, src/number.rt; here their numbers are unbounded.
-- Assumes nothing.
use Rattle.std.specs.Prelude.{ℕ, suc, ◌+◌, ◌*◌, Bool, true, false, not, cond, ◌&&◌, ◌||◌, List, leb, ltb, ℤ, pos, negsuc, neg_ℤ, ◌+ℤ◌}
use Rattle.std.specs.Int.Signed.{le_z}
use Rattle.text.specs.Bytes.{feed, is, between, is_digit_in, digit_value}
use Rattle.literals.specs.declared.number.Number.{Number}
use Rattle.literals.specs.declared.number.Number.TheVariants.{Start, Bad, Sign, Zero, Digit, Underscore, Dot, Prefix, Based, BasedUnderscore, Fraction, FractionUnderscore, ExpLetter, ExpSign, ExpDigit, ExpUnderscore}
use Rattle.std.specs.declared.result.Result.{Result}
use Rattle.std.specs.declared.result.Result.TheVariants.{Ok, Err}
use Rattle.literals.specs.declared.number.NumberValue.{NumberValue}
use Rattle.literals.specs.declared.number.NumberValue.TheVariants.{Integer, Decimal}
use Rattle.literals.specs.declared.number.NumberError.{NumberError}
use Rattle.literals.specs.declared.number.NumberError.TheVariants.{Malformed, TooWide}

-- a "sign": `+` or `-`
abbrev pub is_sign : ℕ → Bool
is_sign b = is "+" b || is "-" b

-- the digit 0
abbrev pub is_zero : ℕ → Bool
is_zero b = is "0" b

-- "a nonzero digit"
abbrev pub is_one_to_nine : ℕ → Bool
is_one_to_nine b = between "1" "9" b

-- "`e`/`E`"
abbrev pub is_e : ℕ → Bool
is_e b = is "e" b || is "E" b

-- m with one more digit
abbrev pub and_digit : (base m b : ℕ) → ℕ
and_digit base m b = m * base + digit_value b

-- the base that a letter after a first 0 names: "`0x` `0o` `0b` in small letters"; 0 for any other byte
unfoldable pub base_of : ℕ → ℕ
base_of b = cond (is "x" b) 16 (cond (is "o" b) 8 (cond (is "b" b) 2 0))

-- one byte more of a number token: each sentence stands above the clauses that state it. `places` is the "count of fraction digits",
-- `below` the exponent's minus.
unfoldable pub number_step : Number → ℕ → Number
-- "optional sign, then one digit, or a nonzero digit followed by more"
number_step Start b = cond (is_sign b) (Sign (is "-" b)) (cond (is_zero b) (Zero false false) (cond (is_one_to_nine b) (Digit false (digit_value b)) Bad))
number_step (Sign minus) b = cond (is_zero b) (Zero true minus) (cond (is_one_to_nine b) (Digit minus (digit_value b)) Bad)
-- "`0x` `0o` `0b` in small letters .. no sign"
number_step (Zero signed minus) b =
    cond (is "." b) (Dot minus 0)
    (cond (is_e b) (ExpLetter minus 0 0)
    (cond (not signed && ltb 0 (base_of b)) (Prefix (base_of b)) Bad))
-- "a single `_` allowed between two digits"
number_step (Digit minus m) b =
    cond (is_digit_in 10 b) (Digit minus (and_digit 10 m b))
    (cond (is "_" b) (Underscore minus m)
    (cond (is "." b) (Dot minus m)
    (cond (is_e b) (ExpLetter minus m 0) Bad)))
number_step (Underscore minus m) b = cond (is_digit_in 10 b) (Digit minus (and_digit 10 m b)) Bad
-- "leading zeros allowed, `_` only between digits"
number_step (Prefix base) b = cond (is_digit_in base b) (Based base (digit_value b)) Bad
number_step (Based base m) b = cond (is_digit_in base b) (Based base (and_digit base m b)) (cond (is "_" b) (BasedUnderscore base m) Bad)
number_step (BasedUnderscore base m) b = cond (is_digit_in base b) (Based base (and_digit base m b)) Bad
-- "then a fraction (digits, `_` between digits), or `e`/`E` and an exponent .. or both"
number_step (Dot minus m) b = cond (is_digit_in 10 b) (Fraction minus (and_digit 10 m b) 1) Bad
number_step (Fraction minus m places) b =
    cond (is_digit_in 10 b) (Fraction minus (and_digit 10 m b) (suc places))
    (cond (is "_" b) (FractionUnderscore minus m places)
    (cond (is_e b) (ExpLetter minus m places) Bad))
number_step (FractionUnderscore minus m places) b = cond (is_digit_in 10 b) (Fraction minus (and_digit 10 m b) (suc places)) Bad
-- Req 02: "an exponent is an optional sign and one or more digits, with a single underscore allowed between digits, and leading zeros
-- allowed"
number_step (ExpLetter minus m places) b =
    cond (is_sign b) (ExpSign minus m places (is "-" b))
    (cond (is_digit_in 10 b) (ExpDigit minus m places false (digit_value b)) Bad)
number_step (ExpSign minus m places below) b = cond (is_digit_in 10 b) (ExpDigit minus m places below (digit_value b)) Bad
number_step (ExpDigit minus m places below exp) b =
    cond (is_digit_in 10 b) (ExpDigit minus m places below (and_digit 10 exp b))
    (cond (is "_" b) (ExpUnderscore minus m places below exp) Bad)
number_step (ExpUnderscore minus m places below exp) b = cond (is_digit_in 10 b) (ExpDigit minus m places below (and_digit 10 exp b)) Bad
number_step Bad b = Bad

-- the greatest signed 64-bit integer
abbrev pub most : ℕ
most = 9223372036854775807

-- n, or -n after a minus
abbrev pub signed_by : (minus : Bool) → ℕ → ℤ
signed_by minus n = cond minus (neg_ℤ (pos n)) (pos n)

-- what a number token means, or why nothing
abbrev pub Meaning : Type 0
Meaning = Result NumberValue NumberError

-- "Range of a signed 64-bit integer .. -0 is 0"
unfoldable pub as_integer : (minus : Bool) (m : ℕ) → Meaning
as_integer minus m = cond (leb m (cond minus (suc most) most)) (Ok (Integer (signed_by minus m))) (Err TooWide)

-- "m over 9223372036854775807, or p outside -400..400, is refused with 5" (`negsuc 399` is -400)
unfoldable pub as_decimal : (minus : Bool) (m : ℕ) (p : ℤ) → Meaning
as_decimal minus m p = cond (leb m most && le_z (negsuc 399) p && le_z p (pos 400)) (Ok (Decimal minus m p)) (Err TooWide)

-- "sign, whole number m of all its digits, and power of ten p = exponent minus count of fraction digits"; a machine that stops
-- where no number ends is malformed
unfoldable pub meaning : Number → Meaning
meaning Start = Err Malformed
meaning Bad = Err Malformed
meaning (Sign minus) = Err Malformed
meaning (Zero signed minus) = as_integer minus 0
meaning (Digit minus m) = as_integer minus m
meaning (Underscore minus m) = Err Malformed
meaning (Dot minus m) = Err Malformed
meaning (Prefix base) = Err Malformed
meaning (Based base m) = as_integer false m
meaning (BasedUnderscore base m) = Err Malformed
meaning (Fraction minus m places) = as_decimal minus m (neg_ℤ (pos places))
meaning (FractionUnderscore minus m places) = Err Malformed
meaning (ExpLetter minus m places) = Err Malformed
meaning (ExpSign minus m places below) = Err Malformed
meaning (ExpDigit minus m places below exp) = as_decimal minus m (signed_by below exp +ℤ neg_ℤ (pos places))
meaning (ExpUnderscore minus m places below exp) = Err Malformed

-- the meaning of a number token's bytes
unfoldable pub number : List ℕ → Meaning
number s = meaning (feed number_step Start s)
