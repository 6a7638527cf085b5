-- What only the contracts of this crate's own functions cite: nothing here has to be believed by a reader of the others.
-- The code keeps a number's digits and its exponent exact up to a cap; `capped` is what two states have in common where the code
-- takes one for the other.
-- Assumes nothing.
use Rattle.std.specs.Prelude.{ℕ, cond, leb}
use Rattle.literals.specs.declared.number.Number.{Number}
use Rattle.literals.specs.declared.number.Number.TheVariants.{Start, Bad, Sign, Zero, Digit, Underscore, Dot, Prefix, Based, BasedUnderscore, Fraction, FractionUnderscore, ExpLetter, ExpSign, ExpDigit, ExpUnderscore}

-- below 2 ^ 64, and above 2 ^ 63 by more than 400: an exponent at the cap is out of range at any count of fraction digits
unfoldable pub cap : ℕ → ℕ
cap n = cond (leb n 10000000000000000000) n 10000000000000000000

-- a state with its digits and its exponent capped
unfoldable pub capped : Number → Number
capped Start = Start
capped Bad = Bad
capped (Sign minus) = Sign minus
capped (Zero signed minus) = Zero signed minus
capped (Digit minus m) = Digit minus (cap m)
capped (Underscore minus m) = Underscore minus (cap m)
capped (Dot minus m) = Dot minus (cap m)
capped (Prefix base) = Prefix base
capped (Based base m) = Based base (cap m)
capped (BasedUnderscore base m) = BasedUnderscore base (cap m)
capped (Fraction minus m places) = Fraction minus (cap m) places
capped (FractionUnderscore minus m places) = FractionUnderscore minus (cap m) places
capped (ExpLetter minus m places) = ExpLetter minus (cap m) places
capped (ExpSign minus m places below) = ExpSign minus (cap m) places below
capped (ExpDigit minus m places below exp) = ExpDigit minus (cap m) places below (cap exp)
capped (ExpUnderscore minus m places below exp) = ExpUnderscore minus (cap m) places below (cap exp)

-- the count of fraction digits so far
unfoldable pub places_of : Number → ℕ
places_of Start = 0
places_of Bad = 0
places_of (Sign minus) = 0
places_of (Zero signed minus) = 0
places_of (Digit minus m) = 0
places_of (Underscore minus m) = 0
places_of (Dot minus m) = 0
places_of (Prefix base) = 0
places_of (Based base m) = 0
places_of (BasedUnderscore base m) = 0
places_of (Fraction minus m places) = places
places_of (FractionUnderscore minus m places) = places
places_of (ExpLetter minus m places) = places
places_of (ExpSign minus m places below) = places
places_of (ExpDigit minus m places below exp) = places
places_of (ExpUnderscore minus m places below exp) = places
