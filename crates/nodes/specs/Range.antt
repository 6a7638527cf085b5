-- What the numbers of a text that was taken keep to.
-- Assumes nothing.
use Rattle.std.specs.Prelude.{◌<◌, ◌≤◌, ℤ, pos, negsuc}
use Rattle.reader.specs.Tree as T
use Rattle.reader.specs.Tree.{Scalar}

-- "Range of a signed 64-bit integer"
unfoldable pub IntegerInRange : ℤ → Type 0
IntegerInRange (pos n) = n < 9223372036854775808
IntegerInRange (negsuc n) = n < 9223372036854775808

-- "p outside -400..400, is refused with 5"
unfoldable pub PowerInRange : ℤ → Type 0
PowerInRange (pos n) = n ≤ 400
PowerInRange (negsuc n) = n < 400

-- every number is in its range: "m over 9223372036854775807 .. is refused with 5"
unfoldable pub InRange : Scalar → Type 0
InRange (T.text token content) = Unit {0}
InRange (T.bytes token content) = Unit {0}
InRange (T.integer z) = IntegerInRange z
InRange (T.decimal minus m p) = (m ≤ 9223372036854775807) × PowerInRange p
InRange T.false_value = Unit {0}
InRange T.true_value = Unit {0}
InRange T.null_value = Unit {0}
