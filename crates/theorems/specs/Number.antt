-- Numbers by their grammar, in the papers' own words and apart from the machine that reads them: which bytes are a number and what it means,
-- with the exponents of Req 02; that leading zeros of an exponent change nothing; and both on numbers that are worked out by hand.
-- Shared with the machine are the tests of a byte and the value of a digit (`is_sign`, `is_e`, `is`, `between`, `is_digit_in`, `digit_value`),
-- `signed_by`, and the ranges (`as_integer`, `as_decimal`).
-- By its contract `number_of` (literals/src/number.rt) answers `number`, and a number in a text means `number` of its bytes (`number_item`
-- in lexer/specs/Token.antt).
-- Assumes nothing.
use Rattle.std.specs.Prelude.{◌≡◌, ℕ, suc, ◌+◌, ◌*◌, Bool, true, false, List, [], ◌∷◌, ◌++◌, replicate, ℤ, pos, negsuc, neg_ℤ, ◌+ℤ◌}
use Prim.Native.Char.{code}
use Prim.Native.String.{String}
use Rattle.text.specs.Switches.{present_edition}
use Rattle.text.specs.Bytes.{ascii, is, between, is_digit_in, digit_value}
use Rattle.literals.specs.Number.{Meaning}
use Rattle.std.specs.declared.result.Result.TheVariants.{Ok, Err}
use Rattle.literals.specs.declared.number.NumberValue.TheVariants.{Integer, Decimal}
use Rattle.literals.specs.declared.number.NumberError.TheVariants.{Malformed, TooWide}
use Rattle.literals.specs.Number.{is_sign, is_e, signed_by, as_integer, as_decimal, number}
use Rattle.reader.specs.Syntax.{Outcome, refused}
use Rattle.reader.specs.Reading.{reading, table_of}

-- ---- signs and digits

-- "optional sign", and whether it is a minus
pub data OptionalSign : (s : List ℕ) (minus : Bool) → Type 0 where
  none : OptionalSign [] false
  signed : (b : ℕ) → is_sign b ≡ true → OptionalSign (b ∷ []) (is "-" b)

-- "a single `_` allowed between two digits"
pub data OptionalUnderscore : (s : List ℕ) → Type 0 where
  no_underscore : OptionalUnderscore []
  underscore : OptionalUnderscore (code "_" ∷ [])

-- "followed by more": the bytes s, which end with a digit of this base, and then `count` digits more, are the bytes t. The digits of s make the
-- whole number n, and those of t make m
pub data Followed (base : ℕ) (s : List ℕ) (n : ℕ) : (t : List ℕ) (m count : ℕ) → Type 0 where
  by_none : Followed base s n s n 0
  by_digit : (t gap : List ℕ) (m count b : ℕ) → Followed base s n t m count → OptionalUnderscore gap → is_digit_in base b ≡ true
      → Followed base s n (t ++ (gap ++ (b ∷ []))) (m * base + digit_value b) (suc count)

-- "one or more digits, with a single underscore allowed between digits, and leading zeros allowed", of any base, and the number that they make
pub data Digits (base : ℕ) : (s : List ℕ) (n : ℕ) → Type 0 where
  digits : (b : ℕ) (s : List ℕ) (n count : ℕ) → is_digit_in base b ≡ true → Followed base (b ∷ []) (digit_value b) s n count → Digits base s n

-- ---- integers

-- a decimal integer without its sign: "one digit, or a nonzero digit followed by more"
pub data IntegerPart : (s : List ℕ) (n : ℕ) → Type 0 where
  one_digit : (b : ℕ) → is_digit_in 10 b ≡ true → IntegerPart (b ∷ []) (digit_value b)
  more_digits : (b : ℕ) (s : List ℕ) (n count : ℕ) → between "1" "9" b ≡ true → Followed 10 (b ∷ []) (digit_value b) s n count → IntegerPart s n

-- "`0x` `0o` `0b` in small letters": the letter and the base that it names
pub data BaseLetter : (b base : ℕ) → Type 0 where
  hex : BaseLetter (code "x") 16
  octal : BaseLetter (code "o") 8
  binary : BaseLetter (code "b") 2

-- ---- decimals

-- "an integer part as above, then a fraction (digits, `_` between digits)": the "whole number m of all its digits", and the "count of fraction
-- digits"
pub data WithFraction : (s : List ℕ) (m places : ℕ) → Type 0 where
  with_fraction : (s t : List ℕ) (n m b count : ℕ) → IntegerPart s n → is_digit_in 10 b ≡ true
      → Followed 10 (s ++ (code "." ∷ b ∷ [])) (n * 10 + digit_value b) t m count → WithFraction t m (suc count)

-- what stands before an exponent: an integer part, with a fraction or without
pub data Mantissa : (s : List ℕ) (m places : ℕ) → Type 0 where
  no_fraction : (s : List ℕ) (n : ℕ) → IntegerPart s n → Mantissa s n 0
  fraction : (s : List ℕ) (m places : ℕ) → WithFraction s m places → Mantissa s m places

-- all of a decimal up to and with its "`e`/`E`"
pub data UpToE : (front : List ℕ) (minus : Bool) (m places : ℕ) → Type 0 where
  up_to_e : (sign s : List ℕ) (minus : Bool) (m places b : ℕ) → OptionalSign sign minus → Mantissa s m places → is_e b ≡ true
      → UpToE (sign ++ (s ++ (b ∷ []))) minus m places

-- "an exponent is an optional sign and one or more digits", and its value; `below` is its minus
pub data Exponent : (s : List ℕ) (value : ℤ) → Type 0 where
  exponent : (sign s : List ℕ) (below : Bool) (n : ℕ) → OptionalSign sign below → Digits 10 s n → Exponent (sign ++ s) (signed_by below n)

-- ---- numbers

-- the bytes of a number, and what it means
pub data Numeral : (s : List ℕ) (x : Meaning) → Type 0 where
  -- "Decimal integer: optional sign, then one digit, or a nonzero digit followed by more"
  integer : (sign s : List ℕ) (minus : Bool) (n : ℕ) → OptionalSign sign minus → IntegerPart s n → Numeral (sign ++ s) (as_integer minus n)
  -- "`0x` `0o` `0b` ..: no sign, leading zeros allowed, `_` only between digits"
  based : (b base : ℕ) (s : List ℕ) (n : ℕ) → BaseLetter b base → Digits base s n → Numeral (code "0" ∷ b ∷ s) (as_integer false n)
  -- "A decimal has an integer part as above, then a fraction .., or `e`/`E` and an exponent .., or both"; "power of ten p = exponent minus count
  -- of fraction digits"
  without_exponent : (sign s : List ℕ) (minus : Bool) (m places : ℕ) → OptionalSign sign minus → WithFraction s m places
      → Numeral (sign ++ s) (as_decimal minus m (neg_ℤ (pos places)))
  with_exponent : (front s : List ℕ) (minus : Bool) (m places : ℕ) (value : ℤ) → UpToE front minus m places → Exponent s value
      → Numeral (front ++ s) (as_decimal minus m (value +ℤ neg_ℤ (pos places)))

-- ---- what is claimed

-- these bytes, read as a number token, mean what the grammar says; where it has no such number, they are malformed
pub record ByTheGrammar (s : List ℕ) : Type 0 where
  pub means : (x : Meaning) → Numeral s x → number s ≡ x
  pub malformed : ((x : Meaning) → Numeral s x → ⊥) → number s ≡ Err Malformed

-- "Numbers (000's grammar)", with "From now an exponent is an optional sign and one or more digits .."
unfoldable pub NumbersRead : Type 0
NumbersRead = (s : List ℕ) → ByTheGrammar s

-- "an exponent of very many zeros must not trip 5": with any count of zeros put before the digits of its exponent, a number means what it
-- means without them. So an exponent of zeros alone means what `0` does
unfoldable pub LeadingZeros : Type 0
LeadingZeros =
    (front : List ℕ) (minus : Bool) (m places : ℕ) → UpToE front minus m places
    → (sign s : List ℕ) (below : Bool) (n count : ℕ) → OptionalSign sign below → Digits 10 s n
    → number (front ++ (sign ++ (replicate count (code "0") ++ s))) ≡ number (front ++ (sign ++ s))

-- ---- examples

-- what a number token means
abbrev pub meant : String → Meaning
meant s = number (ascii s)

-- a reading with room for two nodes
abbrev pub read : String → Outcome
read s = reading present_edition 24 (ascii s)

-- an array, and the decimal with m 1 and p 6 in it
abbrev pub rows_of_request : List ℕ
rows_of_request =
    2 ∷ 4294967295 ∷ 0 ∷ 6 ∷ 0 ∷ 0 ∷ 0 ∷ 0 ∷ 2 ∷ 1 ∷ 0 ∷ 0
    ∷ 7 ∷ 0 ∷ 1 ∷ 5 ∷ 0 ∷ 0 ∷ 0 ∷ 0 ∷ 2 ∷ 1 ∷ 0 ∷ 1006 ∷ []

-- the request, and what it leaves as document 01 has it, on some numbers that are worked out by hand
pub record ExponentsByHand : Type 0 where
  -- "`[1e06]` gives m 1 and word 11 at 1006. `[01e6]` stays refused with 3 at 1"
  pub request : table_of 24 (read "[1e06]") ≡ rows_of_request
  pub integer_part : read "[01e6]" ≡ refused 3 1
  pub signed_integer_part : meant "-01e6" ≡ Err Malformed
  pub underscore_before_e : meant "1_e06" ≡ Err Malformed
  pub point_before_e : meant "1.e06" ≡ Err Malformed
  pub hex_digits : meant "0x1e06" ≡ Ok (Integer (pos 7686))
  -- "leading zeros allowed"
  pub after_zero : meant "0e06" ≡ Ok (Decimal false 0 (pos 6))
  pub after_capital : meant "-12E06" ≡ Ok (Decimal true 12 (pos 6))
  pub after_plus : meant "+1e+06" ≡ Ok (Decimal false 1 (pos 6))
  pub after_minus : meant "-1.50e-007" ≡ Ok (Decimal true 150 (negsuc 8))
  pub zeros_alone : meant "1e-00" ≡ Ok (Decimal false 1 (pos 0))
  -- "a single underscore allowed between digits"
  pub between_digits : meant "1e0_6" ≡ Ok (Decimal false 1 (pos 6))
  pub first_underscore : meant "1e_5" ≡ Err Malformed
  pub last_underscore : meant "1e5_" ≡ Err Malformed
  pub two_underscores : meant "1e5__0" ≡ Err Malformed
  pub signed_underscore : meant "1e+_1" ≡ Err Malformed
  -- "one or more digits", and nothing else
  pub one_zero : meant "0e0" ≡ Ok (Decimal false 0 (pos 0))
  pub no_digit : meant "1e" ≡ Err Malformed
  pub sign_alone : meant "1e+" ≡ Err Malformed
  pub letter : meant "1e0x" ≡ Err Malformed
  pub point : meant "1e0.5" ≡ Err Malformed
  pub point_first : meant "1e.5" ≡ Err Malformed
  -- "an exponent of very many zeros must not trip 5": any count of them
  pub very_many : (count : ℕ) → number (ascii "1e" ++ (replicate count (code "0") ++ ascii "6")) ≡ Ok (Decimal false 1 (pos 6))
  pub very_many_alone : (count : ℕ) → number (ascii "1e-" ++ (replicate count (code "0") ++ ascii "0")) ≡ Ok (Decimal false 1 (pos 0))
  -- "m over 9223372036854775807, or p outside -400..400, is refused with 5": p, and not the exponent
  pub highest : meant "1.0e0401" ≡ Ok (Decimal false 10 (pos 400))
  pub too_high : meant "1e0401" ≡ Err TooWide
  pub lowest : meant "1e-0400" ≡ Ok (Decimal false 1 (negsuc 399))
  pub too_low : meant "1.0e-0400" ≡ Err TooWide
  pub zero_highest : meant "-0e0400" ≡ Ok (Decimal true 0 (pos 400))
  pub zero_too_high : meant "-0e0401" ≡ Err TooWide
  pub zero_lowest : meant "0e-0400" ≡ Ok (Decimal false 0 (negsuc 399))
  pub zero_too_low : meant "0e-0401" ≡ Err TooWide
  pub widest : meant "9223372036854775807e09" ≡ Ok (Decimal false 9223372036854775807 (pos 9))
  pub too_wide : meant "9223372036854775808e09" ≡ Err TooWide
  pub minus_too_wide : meant "-9223372036854775808e09" ≡ Err TooWide
  -- 3 goes before 5
  pub malformed_first : meant "1e0999_" ≡ Err Malformed
