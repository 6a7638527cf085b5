-- The content call: what the token decoder answers and writes is what the call does, and what is refused before it.
-- Assumes nothing.
use Rattle.std.specs.Prelude.{Result, Ok, Err}
use mathlib.Core.Path.{◌≡◌, refl, sym, ap, ◌∙◌}
use mathlib.Core.Bool.{Bool, true, false, cond}
use mathlib.Core.Option.{Option, none, some}
use mathlib.Core.List.{List, ◌++◌}
use Prim.Native.Nat.{ℕ, ◌-◌, ◌<◌, ◌≤◌}
use native.Mathlib.Omega.{arith}
use lib.Dec.{leb}
use lib.ListN.{length, drop}
use borrow.Author.Tests.{le-leb, lt-leb}
use Rattle.text.specs.declared.switches.Switches.{Switches}
use Rattle.text.specs.Utf8.{utf8, is_whole, whole_front, is_utf8}
use Rattle.text.proofs.Utf8Laws.{utf8_whole, utf8_less}
use Rattle.literals.specs.declared.content.ContentError.{ContentError}
use Rattle.literals.specs.declared.content.ContentError.TheVariants.{NoContent, NoRoom}
use Rattle.literals.specs.Content.{fitted, placed}
use Rattle.lexer.specs.Token.{token_content}
use Rattle.reader.specs.Content.{part, is_span, content_alone, span_content, given, refused, fitting, content_call, written, content_given}

-- what the call makes of the decoder's answer
abbrev pub content_told : Result ℕ ContentError → Result ℕ ℕ
content_told (Ok n) = Ok n
content_told (Err NoContent) = Err 19
content_told (Err NoRoom) = Err 20

told_fitted : (room : ℕ) (o : Option (List ℕ)) → content_told (fitted room o) ≡ content_given (fitting room o)
unfolding fitted fitting content_given
told_fitted room none = refl
told_fitted room (some s) = choice (leb (length s) room)
  where
    choice : (b : Bool) → content_told (cond b (Ok (length s)) (Err NoRoom)) ≡ content_given (cond b (given s) (refused 20))
    choice true = refl
    choice false = refl

placed_written : (o : Option (List ℕ)) (out : List ℕ) → placed o out ≡ written (fitting (length out) o) out
unfolding placed fitting written
placed_written none out = refl
placed_written (some s) out = choice (leb (length s) (length out))
  where
    choice : (b : Bool) → cond b (s ++ drop (length s) out) out ≡ written (cond b (given s) (refused 20)) out
    choice true = refl
    choice false = refl

module _ (sw : Switches) (token out : List ℕ) where
  not_utf8 : (whole_front (utf8 token) ≡ length token → ⊥) → content_alone sw token ≡ none
  unfolding content_alone is_utf8
  not_utf8 h = choice (is_whole (utf8 token)) refl
    where
      choice : (b : Bool) → is_whole (utf8 token) ≡ b → cond (is_whole (utf8 token)) (token_content sw token) none ≡ none
      choice true e = absurd (h (utf8_whole token e))
      choice false e = rw e

  is_utf8_law : whole_front (utf8 token) ≡ length token → content_alone sw token ≡ token_content sw token
  unfolding content_alone is_utf8
  is_utf8_law h = choice (is_whole (utf8 token)) refl
    where
      choice : (b : Bool) → is_whole (utf8 token) ≡ b → cond (is_whole (utf8 token)) (token_content sw token) none ≡ token_content sw token
      choice true e = rw e
      choice false e = let l = utf8_less token e in let z : ⊥ = omega arith in absurd z

  -- bytes that are not UTF-8
  pub broken : (whole_front (utf8 token) ≡ length token → ⊥)
      → (Err 19 ≡ content_given (fitting (length out) (content_alone sw token))) × (out ≡ written (fitting (length out) (content_alone sw token)) out)
  unfolding fitting content_given written
  broken h = rw (not_utf8 h) (refl, refl)

  -- bytes that are, by the decoder's answer w
  pub decoded : (w : Result ℕ ContentError) (after : List ℕ) → whole_front (utf8 token) ≡ length token
      → fitted (length out) (token_content sw token) ≡ w → after ≡ placed (token_content sw token) out
      → (content_told w ≡ content_given (fitting (length out) (content_alone sw token))) × (after ≡ written (fitting (length out) (content_alone sw token)) out)
  decoded w after h e f =
      rw (is_utf8_law h) (ap content_told (sym e) ∙ told_fitted (length out) (token_content sw token), f ∙ placed_written (token_content sw token) out)

module _ (sw : Switches) (start stop : ℕ) (text out : List ℕ) where
  -- no span
  off : is_span start stop text ≡ false
      → (Err 19 ≡ content_given (content_call sw start stop text out)) × (out ≡ written (content_call sw start stop text out) out)
  unfolding content_call span_content fitting content_given written
  off e = rw e (refl, refl)

  pub backwards : stop < start
      → (Err 19 ≡ content_given (content_call sw start stop text out)) × (out ≡ written (content_call sw start stop text out) out)
  unfolding is_span
  backwards h = off (rw (lt-leb start stop h))

  pub past : start ≤ stop → length text < stop
      → (Err 19 ≡ content_given (content_call sw start stop text out)) × (out ≡ written (content_call sw start stop text out) out)
  unfolding is_span
  past h k = off (rw (le-leb start stop h, lt-leb stop (length text) k))

  pub long : start ≤ stop → stop ≤ length text → 65536 < stop - start
      → (Err 19 ≡ content_given (content_call sw start stop text out)) × (out ≡ written (content_call sw start stop text out) out)
  unfolding is_span
  long h k l = off (rw (le-leb start stop h, le-leb stop (length text) k, lt-leb (stop - start) 65536 l))

  pub spanned : start ≤ stop → stop ≤ length text → stop - start ≤ 65536
      → content_call sw start stop text out ≡ fitting (length out) (content_alone sw (part start stop text))
  unfolding content_call span_content is_span
  spanned h k l = rw (le-leb start stop h, le-leb stop (length text) k, le-leb (stop - start) 65536 l)
