-- The UTF-8 check: what it answers is the longest valid front; its answer and its count of eights are those of the walk that Req 06 speaks
-- of; and both on bytes that are worked out by hand. By its contract `check_utf8` (text/src/utf8.rt) answers these two numbers. What is UTF-8
-- is `is_utf8` throughout.
-- Assumes nothing.
use Rattle.std.specs.Prelude.{◌≡◌, ℕ, ◌+◌, ◌<◌, ◌≤◌, true, false, List, [], ◌∷◌, ◌++◌, length, take, drop, replicate}
use Rattle.text.specs.Utf8.{utf8, is_utf8, whole_front, plain_eight, plain_eights}

-- ---- the longest valid front

-- the front of n bytes is there, it is UTF-8, and no longer front is
pub record Longest (s : List ℕ) (n : ℕ) : Type 0 where
  pub there : n ≤ length s
  pub valid : is_utf8 (take n s) ≡ true
  pub no_longer : (m : ℕ) → m ≤ length s → is_utf8 (take m s) ≡ true → m ≤ n

-- document 01 on refusal 2, whose place is what the check answers: "length of the longest valid front". Of any bytes
unfoldable pub LongestFront : Type 0
LongestFront = (s : List ℕ) → Longest s (whole_front (utf8 s))

-- ---- the walk that Req 06 speaks of

-- the first n bytes are one character: they are UTF-8, and no shorter front but the empty one is
pub record Character (s : List ℕ) (n : ℕ) : Type 0 where
  pub some : 0 < n
  pub there : n ≤ length s
  pub valid : is_utf8 (take n s) ≡ true
  pub no_shorter : (m : ℕ) → 0 < m → m < n → is_utf8 (take m s) ≡ false

-- the check stands at the place, and has passed over so many eights: "Wherever the UTF-8 check stands at a character's start and the next eight
-- bytes are all below 80 hex, it shall pass over them in one step, else over one character."
pub data Walked (s : List ℕ) : (place count : ℕ) → Type 0 where
  at_start : Walked s 0 0
  over_eight : (place count : ℕ) → Walked s place count → plain_eight (drop place s) ≡ true → Walked s (place + 8) (count + 1)
  over_character : (place count n : ℕ) → Walked s place count → plain_eight (drop place s) ≡ false → Character (drop place s) n
      → Walked s (place + n) count

-- "where it stops": no eight and no character stands there
pub record Stops (s : List ℕ) (place : ℕ) : Type 0 where
  pub no_eight : plain_eight (drop place s) ≡ false
  pub no_character : (n : ℕ) → Character (drop place s) n → ⊥

-- the walk comes to the front with so many eights and stops there; no walk stops elsewhere or with another count
pub record Walk (s : List ℕ) (front count : ℕ) : Type 0 where
  pub walked : Walked s front count
  pub stops : Stops s front
  pub only : (place others : ℕ) → Walked s place others → Stops s place → (place ≡ front) × (others ≡ count)

-- "Beside its answer it gives the exact number of such eights up to where it stops": of any bytes
unfoldable pub EightsWalked : Type 0
EightsWalked = (s : List ℕ) → Walk s (whole_front (utf8 s)) (plain_eights s)

-- ---- examples

-- so many letters
abbrev pub letters : ℕ → List ℕ
letters n = replicate n 0x61

-- the two bytes of U+00E9
abbrev pub e_acute : List ℕ
e_acute = 0xC3 ∷ 0xA9 ∷ []

-- the check's two numbers are these: its answer, and "the exact number of such eights up to where it stops"
abbrev pub Gives : (s : List ℕ) (front count : ℕ) → Type 0
Gives s front count = (whole_front (utf8 s) ≡ front) × (plain_eights s ≡ count)

-- the sentences of the request on some bytes, with both numbers worked out by hand
pub record EightsByHand : Type 0 where
  -- "the next eight bytes", else "one character"
  pub none : Gives [] 0 0
  pub seven : Gives (letters 7) 7 0
  pub eight : Gives (letters 8) 8 1
  pub nine : Gives (letters 9) 9 1
  pub seventeen : Gives (letters 17) 17 2
  -- "Wherever the UTF-8 check stands at a character's start", at a multiple of eight or not
  pub behind_a_character : Gives (e_acute ++ letters 8) 10 1
  pub broken_up : Gives (letters 7 ++ (e_acute ++ letters 8)) 17 1
  pub around : Gives (letters 9 ++ (e_acute ++ letters 16)) 27 3
  pub apart : Gives (letters 4 ++ (e_acute ++ letters 4)) 10 0
  -- U+20AC and U+1F600
  pub behind_three : Gives (0xE2 ∷ 0x82 ∷ 0xAC ∷ letters 8) 11 1
  pub behind_four : Gives (0xF0 ∷ 0x9F ∷ 0x98 ∷ 0x80 ∷ letters 8) 12 1
  -- "all below 80 hex"
  pub ends_of_range : Gives (0x00 ∷ (letters 6 ++ (0x7F ∷ []))) 8 1
  pub last_above : Gives (letters 7 ++ (0x80 ∷ letters 8)) 7 0
  -- "up to where it stops": at a fault, and at a character that the end cuts off
  pub fault : Gives (letters 8 ++ (0x80 ∷ letters 8)) 8 1
  pub fault_inside : Gives (letters 8 ++ (0xE2 ∷ letters 8)) 8 1
  pub surrogate : Gives (letters 8 ++ (0xED ∷ 0xA0 ∷ 0x80 ∷ letters 8)) 8 1
  pub cut_off : Gives (letters 8 ++ (0xE2 ∷ 0x82 ∷ [])) 8 1
