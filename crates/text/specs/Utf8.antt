-- UTF-8 by RFC 3629, section 4, as a machine: "no surrogates, no overlong forms, nothing above U+10FFFF"; and Req 06, "Eight plain bytes
-- at a time".
-- The machine's states are the code's own enum, src/utf8.rt.
-- Assumes nothing.
use Rattle.std.specs.Prelude.{ℕ, zero, suc, ◌+◌, ◌/◌, ◌%◌, Bool, true, false, cond, ◌&&◌, ◌||◌, List, [], ◌∷◌, leb, ltb, eqb}
use Rattle.text.specs.Bytes.{feed, within}
use Rattle.text.specs.declared.utf8.Utf8.{Utf8}
use Rattle.text.specs.declared.utf8.Utf8.TheVariants.{Whole, Part, Broken}
use Rattle.text.specs.declared.few.Few.{Few}
use Rattle.text.specs.declared.few.Few.TheVariants.{Zero, One, Two, Three, Four}

-- a character's first byte, after n bytes: the rows of RFC 3629's UTF8-1 to UTF8-4, in its order
unfoldable pub lead : ℕ → ℕ → Utf8
lead n b =
    cond (leb b 0x7F) (Whole (n + 1))
    (cond (ltb b 0xC2) (Broken n)
    (cond (leb b 0xDF) (Part n 1 0 0x80 0xBF)
    (cond (eqb b 0xE0) (Part n 1 1 0xA0 0xBF)
    (cond (leb b 0xEC) (Part n 1 1 0x80 0xBF)
    (cond (eqb b 0xED) (Part n 1 1 0x80 0x9F)
    (cond (leb b 0xEF) (Part n 1 1 0x80 0xBF)
    (cond (eqb b 0xF0) (Part n 1 2 0x90 0xBF)
    (cond (leb b 0xF3) (Part n 1 2 0x80 0xBF)
    (cond (eqb b 0xF4) (Part n 1 2 0x80 0x8F)
    (Broken n))))))))))

-- a later byte, if it lies in the range that is due: the character ends, or one byte fewer is due, of which any is 80 to BF
unfoldable pub later : (n read more : ℕ) → Utf8
later n read zero = Whole (n + read + 1)
later n read (suc more) = Part n (read + 1) more 0x80 0xBF

-- one byte more: a character's first, or a later one, which must lie in the range that is due; once broken, it stays so
unfoldable pub utf8_step : Utf8 → ℕ → Utf8
utf8_step (Whole n) b = lead n b
utf8_step (Part n read more low high) b = cond (ltb b low) (Broken n) (cond (leb b high) (later n read more) (Broken n))
utf8_step (Broken n) b = Broken n

-- the machine at a text's end
unfoldable pub utf8 : List ℕ → Utf8
utf8 s = feed utf8_step (Whole 0) s

-- all that was read is whole characters
unfoldable pub is_whole : Utf8 → Bool
is_whole (Whole n) = true
is_whole (Part n read more low high) = false
is_whole (Broken n) = false

-- "length of the longest valid front": that it is just that is `LongestFront` in theorems/specs/Utf8.antt
unfoldable pub whole_front : Utf8 → ℕ
whole_front (Whole n) = n
whole_front (Part n read more low high) = n
whole_front (Broken n) = n

-- "UTF-8 (RFC 3629: no surrogates, no overlong forms, nothing above U+10FFFF)"
unfoldable pub is_utf8 : List ℕ → Bool
is_utf8 s = is_whole (utf8 s)

-- ---- eight plain bytes at a time (document 02, Req 06)

-- the first k bytes are there, and they are "all below 80 hex"
unfoldable pub plain : (k : ℕ) → List ℕ → Bool
plain zero s = true
plain (suc k) [] = false
plain (suc k) (b ∷ s) = ltb b 0x80 && plain k s

-- "the next eight bytes are all below 80 hex"
unfoldable pub plain_eight : List ℕ → Bool
plain_eight s = plain 8 s

-- "Wherever the UTF-8 check stands at a character's start and the next eight bytes are all below 80 hex"
unfoldable pub eight_here : Utf8 → List ℕ → Bool
eight_here u s = is_whole u && plain_eight s

-- "it shall pass over them in one step, else over one character": the number of eights from here on. The first `left` bytes belong to an
-- eight that is counted already, and none begins there. Then, if an eight begins here, it counts one, and its other seven bytes are `left`;
-- if not, it goes on by one byte. Inside a character and after a fault the machine is not whole, so no eight begins there.
unfoldable pub eights : (left : ℕ) → Utf8 → List ℕ → ℕ
eights left u [] = 0
eights (suc left) u (b ∷ s) = eights left (utf8_step u b) s
eights zero u (b ∷ s) = let here = eight_here u (b ∷ s) in cond here 1 0 + eights (cond here 7 0) (utf8_step u b) s

-- "the exact number of such eights up to where it stops"
unfoldable pub plain_eights : List ℕ → ℕ
plain_eights s = eights 0 (Whole 0) s

-- ---- the bytes of a character

-- "scalar values": 0 to U+D7FF, and U+E000 to U+10FFFF
unfoldable pub is_scalar : ℕ → Bool
is_scalar v = ltb v 0xD800 || within 0xE000 0x10FFFF v

-- "give their UTF-8": the bytes of a scalar value
unfoldable pub encode : ℕ → Few
encode v =
    cond (leb v 0x7F) (One v)
    (cond (leb v 0x7FF) (Two (0xC0 + v / 0x40) (0x80 + v % 0x40))
    (cond (leb v 0xFFFF) (Three (0xE0 + v / 0x1000) (0x80 + v / 0x40 % 0x40) (0x80 + v % 0x40))
    (Four (0xF0 + v / 0x40000) (0x80 + v / 0x1000 % 0x40) (0x80 + v / 0x40 % 0x40) (0x80 + v % 0x40))))

-- the bytes of a `Few` as a list
unfoldable pub listed : Few → List ℕ
listed Zero = []
listed (One a) = a ∷ []
listed (Two a b) = a ∷ b ∷ []
listed (Three a b c) = a ∷ b ∷ c ∷ []
listed (Four a b c d) = a ∷ b ∷ c ∷ d ∷ []
