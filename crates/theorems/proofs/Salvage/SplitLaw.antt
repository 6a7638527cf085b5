-- "Split at 0A; a last line without one counts, an empty last piece does not": a log's lines are so, and no others are. "Keep each line that
-- reads by itself": those are kept.
-- Assumes nothing.
use mathlib.Core.Path.{◌≡◌, refl, sym, ap, ◌∙◌, subst}
use Prim.Native.Nat.{ℕ, ◌<◌}
use native.Mathlib.Omega.{arith}
use mathlib.Core.Bool.{Bool, true, false, not, cond}
use mathlib.Core.List.{List, [], ◌∷◌, ◌++◌}
use lib.Dec.{eqb}
use lib.ListN.{length}
use borrow.Author.Tests.{eqb-true, not-true}
use Rattle.text.proofs.Choice.{and_left, and_right, cond-false}
use Rattle.reader.specs.Reading.{is_taken}
use Rattle.salvage.specs.Salvage.{with_first, lines_of, line_reading, kept_of}
use Rattle.theorems.specs.Insertion.{every}
use Rattle.theorems.specs.Salvage.{NoEnd, SplitLines, none_left, last_line, one_line, LinesRead, KeepsLines, no_more, one_kept, one_lost, LinesKept}

-- ---- the lines are so

end_more : (b : ℕ) (line : List ℕ) → eqb b 0x0A ≡ false → NoEnd line → NoEnd (b ∷ line)
unfolding every
end_more b line e h = rw e h

-- a byte other than 0A belongs to the first line
with_first_law : (b : ℕ) (log : List ℕ) (lines : List (List ℕ)) → eqb b 0x0A ≡ false → SplitLines log lines → SplitLines (b ∷ log) (with_first b lines)
unfolding with_first every
with_first_law b log lines e none_left = last_line (b ∷ []) (omega arith) (end_more b [] e refl)
with_first_law b log lines e (last_line line h n) = last_line (b ∷ line) (omega arith) (end_more b line e n)
with_first_law b log lines e (one_line line rest others n s) = one_line (b ∷ line) rest others (end_more b line e n) s

lines_split : (log : List ℕ) → SplitLines log (lines_of log)
unfolding lines_of every
lines_split [] = none_left
lines_split (b ∷ log) = by (eqb b 0x0A) refl (lines_split log)
  where
    by : (t : Bool) → eqb b 0x0A ≡ t → SplitLines log (lines_of log) → SplitLines (b ∷ log) (cond t ([] ∷ lines_of log) (with_first b (lines_of log)))
    by true e s =
        subst (λ (c : ℕ). SplitLines (c ∷ log) ([] ∷ lines_of log)) (sym (eqb-true b 0x0A e)) (one_line [] log (lines_of log) refl s)
    by false e s = with_first_law b log (lines_of log) e s

-- ---- and no others are

-- a line that has a byte
module _ (b : ℕ) (line : List ℕ) (n : NoEnd (b ∷ line)) where
  no_end : eqb b 0x0A ≡ false
  unfolding every
  no_end = not-true (eqb b 0x0A) (and_left (not (eqb b 0x0A)) (every (λ c. not (eqb c 0x0A)) line) n)

  no_more_ends : NoEnd line
  unfolding every
  no_more_ends = and_right (not (eqb b 0x0A)) (every (λ c. not (eqb c 0x0A)) line) n

  -- its first byte is that of the first line of all that stands behind it
  first_byte : (rest : List ℕ) → lines_of (b ∷ rest) ≡ with_first b (lines_of rest)
  unfolding lines_of
  first_byte rest = cond-false (eqb b 0x0A) ([] ∷ lines_of rest) (with_first b (lines_of rest)) no_end

-- bytes that no 0A follows are one line
last_alone : (line : List ℕ) → 0 < length line → NoEnd line → lines_of line ≡ line ∷ []
unfolding with_first lines_of
last_alone [] h n = absurd (omega arith)
last_alone (b ∷ []) h n = first_byte b [] n []
last_alone (b ∷ c ∷ line) h n =
    first_byte b (c ∷ line) n (c ∷ line) ∙ ap (with_first b) (last_alone (c ∷ line) (omega arith) (no_more_ends b (c ∷ line) n))

-- the first 0A ends the first line
ended_first : (line log : List ℕ) → NoEnd line → lines_of (line ++ (0x0A ∷ log)) ≡ line ∷ lines_of log
unfolding with_first lines_of
ended_first [] log n = refl
ended_first (b ∷ line) log n =
    first_byte b line n (line ++ (0x0A ∷ log)) ∙ ap (with_first b) (ended_first line log (no_more_ends b line n))

split_only : (log : List ℕ) (lines : List (List ℕ)) → SplitLines log lines → lines ≡ lines_of log
unfolding lines_of
split_only log lines none_left = refl
split_only log lines (last_line line h n) = sym (last_alone line (omega arith) n)
split_only log lines (one_line line rest others n s) =
    ap (λ (l : List (List ℕ)). line ∷ l) (split_only rest others s) ∙ sym (ended_first line rest n)

pub lines_read : LinesRead
unfolding LinesRead
lines_read log = record { split = lines_split log; only = split_only log }

-- ---- those that are kept

pub lines_kept : LinesKept
unfolding LinesKept kept_of
lines_kept sw words [] = no_more
lines_kept sw words (line ∷ lines) = by (is_taken (line_reading sw words line)) refl (lines_kept sw words lines)
  where
    by : (t : Bool) → is_taken (line_reading sw words line) ≡ t → KeepsLines sw words lines (kept_of sw words lines)
        → KeepsLines sw words (line ∷ lines) (cond t (line ∷ kept_of sw words lines) (kept_of sw words lines))
    by true e k = one_kept line lines (kept_of sw words lines) e k
    by false e k = one_lost line lines (kept_of sw words lines) e k
