-- Contents against given bytes: the ways out of the code, and a key that isn't there.
-- Assumes nothing.
use mathlib.Core.Path.{◌≡◌, refl, sym, ap, ◌∙◌}
use mathlib.Core.Bool.{Bool, true, false, cond}
use mathlib.Core.Option.{Option, none, some}
use mathlib.Core.List.{List, [], ◌∷◌}
use Prim.Native.Nat.{ℕ, ◌-◌, ◌<◌, ◌≤◌}
use native.Mathlib.Omega.{arith}
use lib.ListN.{length}
use borrow.Author.Tests.{le-leb, lt-leb}
use Rattle.text.specs.declared.switches.Switches.{Switches}
use Rattle.text.specs.Utf8.{utf8, is_whole, whole_front, is_utf8, listed}
use Rattle.text.proofs.Utf8Laws.{utf8_whole, utf8_less}
use Rattle.literals.specs.declared.decoder.Body.TheVariants.{Word}
use Rattle.literals.specs.Content.{content, decoded, start_of, decode_step, may_end, prepend, same_content}
use Rattle.literals.specs.declared.decoder.Decoder.TheVariants.{Letters}
use Rattle.lexer.specs.Token.{token_content}
use Rattle.lexer.specs.Internal.{has_content, Keyed}
use Rattle.reader.specs.Reading.{max_text}
use Rattle.reader.specs.Content.{part, is_span, content_alone, span_content}

-- a word is its own content, whatever its bytes
letters : (sw : Switches) (s : List ℕ) → decoded sw Letters s ≡ some s
unfolding decoded decode_step may_end prepend listed
letters sw [] = refl
letters sw (b ∷ s) = ap (λ (o : Option (List ℕ)). prepend (b ∷ []) o) (letters sw s)

word_content : (sw : Switches) (s : List ℕ) → content sw Word s ≡ some s
unfolding content start_of
word_content sw s = letters sw s

-- what is_keyed says
pub keyed : (sw : Switches) (s : List ℕ) → has_content (token_content sw s) ≡ true → Keyed sw s
unfolding has_content
keyed sw s h = by (token_content sw s) refl h
  where
    by : (o : Option (List ℕ)) → token_content sw s ≡ o → has_content o ≡ true → Keyed sw s
    by none e k = let v : ◌≡◌ {A = ℕ} 0 1 = cc in absurd (omega arith)
    by (some c) e k = record { content = c; is = e }

module _ (sw : Switches) (token bytes : List ℕ) where
  is_utf8_law : whole_front (utf8 token) ≡ length token → content_alone sw token ≡ token_content sw token
  unfolding content_alone is_utf8
  is_utf8_law h = choice (is_whole (utf8 token)) refl
    where
      choice : (b : Bool) → is_whole (utf8 token) ≡ b → cond (is_whole (utf8 token)) (token_content sw token) none ≡ token_content sw token
      choice true e = rw e
      choice false e = let l = utf8_less token e in let z : ⊥ = omega arith in absurd z

  pub token_broken : (whole_front (utf8 token) ≡ length token → ⊥) → false ≡ same_content (content_alone sw token) (some bytes)
  unfolding content_alone is_utf8 same_content
  token_broken h = choice (is_whole (utf8 token)) refl
    where
      choice : (b : Bool) → is_whole (utf8 token) ≡ b → false ≡ same_content (cond (is_whole (utf8 token)) (token_content sw token) none) (some bytes)
      choice true e = absurd (h (utf8_whole token e))
      choice false e = rw e

  pub token_none : whole_front (utf8 token) ≡ length token → has_content (token_content sw token) ≡ false → false ≡ same_content (content_alone sw token) (some bytes)
  unfolding has_content same_content
  token_none h k = rw (is_utf8_law h) (by (token_content sw token) k)
    where
      by : (o : Option (List ℕ)) → has_content o ≡ false → false ≡ same_content o (some bytes)
      by none e = refl
      by (some c) e = let v : ◌≡◌ {A = ℕ} 0 1 = cc in absurd (omega arith)

  pub token_compared : (r : Bool) → whole_front (utf8 token) ≡ length token → r ≡ same_content (token_content sw token) (content sw Word bytes)
      → r ≡ same_content (content_alone sw token) (some bytes)
  token_compared r h e = e ∙ (λ i. same_content (sym (is_utf8_law h) i) (word_content sw bytes i))

module _ (sw : Switches) (text : List ℕ) (start stop : ℕ) (bytes : List ℕ) where
  off : is_span start stop text ≡ false → false ≡ same_content (span_content sw start stop text) (some bytes)
  unfolding span_content same_content
  off e = rw e

  pub backwards : stop < start → false ≡ same_content (span_content sw start stop text) (some bytes)
  unfolding is_span
  backwards h = off (rw (lt-leb start stop h))

  pub past : start ≤ stop → length text < stop → false ≡ same_content (span_content sw start stop text) (some bytes)
  unfolding is_span
  past h k = off (rw (le-leb start stop h, lt-leb stop (length text) k))

  pub long : start ≤ stop → stop ≤ length text → max_text < stop - start → false ≡ same_content (span_content sw start stop text) (some bytes)
  unfolding is_span
  long h k l = off (rw (le-leb start stop h, le-leb stop (length text) k, lt-leb (stop - start) max_text l))

  pub spanned : start ≤ stop → stop ≤ length text → stop - start ≤ max_text
      → same_content (content_alone sw (part start stop text)) (some bytes) ≡ same_content (span_content sw start stop text) (some bytes)
  unfolding span_content is_span
  spanned h k l = rw (le-leb start stop h, le-leb stop (length text) k, le-leb (stop - start) max_text l)

-- 0, 0 has no content
pub nothing_there : (sw : Switches) (text bytes : List ℕ) → same_content (span_content sw 0 0 text) (some bytes) ≡ false
unfolding span_content content_alone token_content same_content
nothing_there sw text bytes = by (is_span 0 0 text) (is_utf8 [])
  where
    by : (a b : Bool) → same_content (cond a (cond b none none) none) (some bytes) ≡ false
    by true true = refl
    by true false = refl
    by false b = refl
