-- The shape of words (document 01, "Bytes and tokens"). The machine's states are the code's own enum, src/word.rt.
-- Assumes nothing.
use Rattle.std.specs.Prelude.{ℕ, Bool, true, false, cond, ◌||◌, List}
use Rattle.text.specs.Bytes.{feed, is, is_capital, is_small, is_letter_or_digit, is_joiner}
use Rattle.literals.specs.declared.word.Shape.{Shape}
use Rattle.literals.specs.declared.word.Shape.TheVariants.{Start, Lead, Good, Joined, Bad}

-- "a letter, or `_` and a letter or digit; then any number of groups of at most one joiner and one letter or digit"
unfoldable pub shape_step : Shape → ℕ → Shape
shape_step Start b = cond (is "_" b) Lead (cond (is_capital b || is_small b) Good Bad)
shape_step Lead b = cond (is_letter_or_digit b) Good Bad
shape_step Good b = cond (is_letter_or_digit b) Good (cond (is_joiner b) Joined Bad)
shape_step Joined b = cond (is_letter_or_digit b) Good Bad
shape_step Bad b = Bad

-- the bytes so far have the shape
unfoldable pub is_good : Shape → Bool
is_good Start = false
is_good Lead = false
is_good Good = true
is_good Joined = false
is_good Bad = false

-- the bytes are a "word of the shape"
unfoldable pub has_shape : List ℕ → Bool
has_shape s = is_good (feed shape_step Start s)
