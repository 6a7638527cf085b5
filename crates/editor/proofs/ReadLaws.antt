-- What a text that reads promises, by one name each.
-- Assumes nothing.
use mathlib.Core.Path.{◌≡◌, refl, sym, ◌∙◌}
use Prim.Native.Nat.{ℕ, ◌≤◌}
use mathlib.Core.Bool.{Bool, true, false, cond, false≢true}
use mathlib.Core.List.{List}
use lib.Dec.{leb}
use lib.ListN.{length}
use borrow.Author.Tests.{leb-true}
use Rattle.text.specs.declared.switches.Switches.{Switches}
use Rattle.text.specs.Utf8.{utf8, is_whole, whole_front}
use Rattle.lexer.specs.Token.{tokens}
use Rattle.reader.specs.declared.tree.Limits.{Limits}
use Rattle.reader.specs.Syntax.{Outcome, refused, run, before}
use Rattle.reader.specs.Reading.{reading, reads, is_taken, outcome, limits_of, max_text}

-- a text over 65,536 bytes is refused, whatever is asked
short_or : (sw : Switches) (any : Bool) (limits : Limits) (t : List ℕ) (P : Outcome → Bool) → P (refused 1 max_text) ≡ false
    → P (outcome sw any limits t) ≡ true → length t ≤ max_text
unfolding outcome
short_or sw any limits t P over e = go (leb (length t) max_text) refl e
  where
    go : (z : Bool) → leb (length t) max_text ≡ z
        → P (cond z (cond (is_whole (utf8 t)) (run sw limits (tokens sw t) (before any)) (refused 2 (whole_front (utf8 t)))) (refused 1 max_text)) ≡ true
        → length t ≤ max_text
    go true e k = leb-true (length t) max_text e
    go false e k = absurd (false≢true (sym over ∙ k))

pub reads_short : (sw : Switches) (words : ℕ) (t : List ℕ) → reads sw words t ≡ true → length t ≤ max_text
unfolding reads reading is_taken
reads_short sw words t e = short_or sw false (limits_of words) t is_taken refl e
