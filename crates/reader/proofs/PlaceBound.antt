-- A refusal's place lies within the text, or is 65536: so it can be packed with its number.
-- Assumes nothing.
use mathlib.Core.Path.{◌≡◌, refl}
use Prim.Native.Nat.{ℕ, ◌≤◌}
use native.Mathlib.Omega.{arith}
use mathlib.Core.Bool.{Bool, true, false}
use mathlib.Core.List.{List}
use lib.Dec.{leb, leb→le}
use lib.ListN.{length}
use Rattle.text.specs.declared.switches.Switches.{Switches}
use Rattle.text.specs.Utf8.{utf8, is_whole, whole_front}
use Rattle.text.proofs.Utf8Laws.{utf8_whole, utf8_less}
use Rattle.text.proofs.Choice.{cond_both}
use Rattle.lexer.specs.Token as L
use Rattle.lexer.specs.Token.{Tokens, tokens}
use Rattle.lexer.proofs.TokenLaws.{Within, tokens_within}
use Rattle.reader.specs.declared.tree.Limits.{Limits}
use Rattle.reader.specs.Syntax.{Mode, value, named, inner, close, inside, colon, done, Config, Step, go, refuse, step, Outcome, taken, refused, at_end, after_step, run, before}
use Rattle.reader.specs.Reading.{max_text, limits_of, outcome, reading}

unfoldable pub PlaceWithin : (n : ℕ) → Outcome → Type 0
PlaceWithin n (taken tree) = Unit {0}
PlaceWithin n (refused number place) = place ≤ n

end_within : (n place : ℕ) (m : Mode) → place ≡ n → PlaceWithin n (at_end place m)
unfolding PlaceWithin at_end
end_within n place (value any key) e = omega arith
end_within n place (named any l) e = omega arith
end_within n place (inner any l) e = omega arith
end_within n place (close tree) e = omega arith
end_within n place (inside slot) e = omega arith
end_within n place (colon key) e = omega arith
end_within n place (done tree) e = tt

step_within : (n place : ℕ) (s : Step) (rest : Config → Outcome) → place ≤ n → ((c : Config) → PlaceWithin n (rest c)) → PlaceWithin n (after_step place s rest)
unfolding PlaceWithin after_step
step_within n place (go c) rest h k = k c
step_within n place (refuse number) rest h k = h

module _ (sw : Switches) (limits : Limits) where
  run_within : (n at : ℕ) (ts : Tokens) (c : Config) → Within n at ts → PlaceWithin n (run sw limits ts c)
  unfolding run Within PlaceWithin
  run_within n at (L.next t ts) c w = step_within n t.start (step sw limits c t) (λ d. run sw limits ts d) (omega arith) (λ d. run_within n t.stop ts d w.3)
  run_within n at (L.end place) c w = end_within n place c.mode w
  run_within n at (Tokens.fault number place) c w = omega arith

front_within : (s : List ℕ) (t : Bool) → is_whole (utf8 s) ≡ t → whole_front (utf8 s) ≤ length s
front_within s true e = let h = utf8_whole s e in omega arith
front_within s false e = let h = utf8_less s e in omega arith

within_more : (n m : ℕ) (o : Outcome) → n ≤ m → PlaceWithin n o → PlaceWithin m o
unfolding PlaceWithin
within_more n m (taken tree) h p = tt
within_more n m (refused number place) h p = omega arith

outcome_within : (sw : Switches) (any : Bool) (limits : Limits) (s : List ℕ) → PlaceWithin 65536 (outcome sw any limits s)
unfolding outcome PlaceWithin
outcome_within sw any limits s =
    cond_both (PlaceWithin 65536) (leb (length s) max_text)
    (λ t.
    let h = leb→le (length s) max_text t in
    cond_both (PlaceWithin 65536) (is_whole (utf8 s))
    (λ _. within_more (length s) 65536 (run sw limits (tokens sw s) (before any)) h (run_within sw limits (length s) 0 (tokens sw s) (before any) (tokens_within sw s)))
    (λ _. let f = front_within s (is_whole (utf8 s)) refl in omega arith))
    (λ _. omega arith)

pub place_law : (sw : Switches) (words : ℕ) (s : List ℕ) → PlaceWithin 65536 (reading sw words s)
unfolding reading
place_law sw words s = outcome_within sw false (limits_of words) s
