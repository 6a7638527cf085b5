-- What is cited only by the contracts of private functions, or of functions that are public for the crates above alone. Nothing here has
-- to be believed: the other public contracts don't name it.
-- Assumes nothing.
use Rattle.std.specs.Prelude.{◌≡◌, ℕ, ◌+◌, ◌<◌, Bool, true, false, cond, List, [], ◌∷◌, get_or}
use Rattle.text.specs.Bytes.{class_of, class_number}
use Rattle.text.specs.declared.utf8.Utf8.{Utf8}
use Rattle.text.specs.declared.utf8.Utf8.TheVariants.{Whole, Part, Broken}
use Rattle.text.specs.Utf8.{utf8_step, whole_front}

-- how many bytes the machine has certainly read: what its code may count without wrapping
unfoldable pub bytes_read : Utf8 → ℕ
bytes_read (Whole n) = n
bytes_read (Part n read more low high) = n + read
bytes_read (Broken n) = n

-- the machine is inside a character
unfoldable pub is_part : Utf8 → Bool
is_part (Whole n) = false
is_part (Part n read more low high) = true
is_part (Broken n) = false

-- the machine is fed the bytes until it is inside no character, or there are no more: the front of whole characters then
unfoldable pub character_end : Utf8 → List ℕ → ℕ
character_end u [] = whole_front u
character_end u (b ∷ s) = cond (is_part u) (character_end (utf8_step u b) s) (whole_front u)

-- the table holds the class of each of the 256 bytes, by its number
pub record ClassTable (t : List ℕ) : Type 0 where
  pub each : (b : ℕ) → b < 256 → get_or t b 0 ≡ class_number (class_of b)
