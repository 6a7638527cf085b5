-- Where a string token and a block comment end (document 01, "Bytes and tokens").
-- The machines' states are the code's own enums, src/closing.rt.
-- Assumes nothing.
use Rattle.std.specs.Prelude.{ℕ, suc, Bool, not, cond, ◌&&◌, ◌||◌, List, eqb}
use Rattle.text.specs.Bytes.{feed, is}
use Rattle.lexer.specs.declared.closing.Closing.{Closing}
use Rattle.lexer.specs.declared.closing.Closing.TheVariants as C
use Rattle.lexer.specs.declared.closing.Block.{Block}
use Rattle.lexer.specs.declared.closing.Block.TheVariants as B

-- ---- strings

-- `k`: the hashes that follow the closing quote (0 but in raw strings). A quote and j hashes have been read: "ends at the first quote
-- followed by k hashes"
unfoldable pub after_quote : (k j n : ℕ) → Closing
after_quote k j n = cond (eqb j k) (C.Closed n) (C.Hashes j n)

-- `escapes`: "a backslash takes the next byte with it" (in `"` and `b"`)
module _ (escapes : Bool) (k : ℕ) where
  -- a byte that goes on with no begun closing: "the next free quote ends the token"
  unfoldable pub after_other : (n b : ℕ) → Closing
  after_other n b = cond (is "\"" b) (after_quote k 0 (suc n)) (cond (is "\\" b && escapes) (C.Escaped (suc n)) (C.Inside (suc n)))

  -- one byte more: "a backslash takes the next byte with it"; after a quote hashes count, and any other byte goes on as if no closing had
  -- begun
  unfoldable pub closing_step : Closing → ℕ → Closing
  closing_step (C.Inside n) b = after_other n b
  closing_step (C.Escaped n) b = C.Inside (suc n)
  closing_step (C.Hashes j n) b = cond (is "#" b) (after_quote k (suc j) (suc n)) (after_other n b)
  closing_step (C.Closed n) b = C.Closed n

  -- the bytes after the opening quote, up to the end of the token
  unfoldable pub closing : List ℕ → Closing
  closing s = feed closing_step (C.Inside 0) s

-- ---- comments

-- "`/*` runs to the first `*/` after it; `/*/` isn't closed"
unfoldable pub block_step : Block → ℕ → Block
block_step (B.Inside n) b = cond (is "*" b) (B.Starred (suc n)) (B.Inside (suc n))
block_step (B.Starred n) b = cond (is "/" b) (B.Closed (suc n)) (cond (is "*" b) (B.Starred (suc n)) (B.Inside (suc n)))
block_step (B.Closed n) b = B.Closed n

-- the bytes after `/*`, up to the end of the comment
unfoldable pub block : List ℕ → Block
block s = feed block_step (B.Inside 0) s

-- "`//` runs to before the next 0A or 0D, or to the end"
unfoldable pub not_newline : ℕ → Bool
not_newline b = not (eqb b 0x0A || eqb b 0x0D)
