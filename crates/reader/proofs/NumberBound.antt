-- A refused reading has one of document 01's numbers from 1 to 10 ("Numbers of refusal"): so none is 0, which stands for no refusal.
-- Assumes nothing.
use Prim.Native.Nat.{ℕ, ◌≤◌}
use native.Mathlib.Omega.{arith}
use mathlib.Core.Bool.{Bool, true, false, not, ◌&&◌}
use mathlib.Core.Option.{Option, none, some}
use mathlib.Core.List.{List, [], ◌∷◌}
use lib.Dec.{leb}
use lib.ListN.{length}
use Rattle.text.specs.declared.switches.Switches.{Switches}
use Rattle.text.specs.Utf8.{utf8, is_whole}
use Rattle.text.proofs.Choice.{cond_both}
use Rattle.lexer.specs.Token as L
use Rattle.lexer.specs.Token.{Token, Tokens, tokens}
use Rattle.lexer.proofs.FaultLaws.{TokensFault, tokens_fault}
use Rattle.reader.specs.declared.tree.Limits.{Limits}
use Rattle.reader.specs.Tree.{Span}
use Rattle.reader.specs.Syntax.{Label, Frame, Slot, first, lone, after, more, Mode, value, named, inner, close, inside, colon, done, Config, Step, go, refuse, span_of, is_mark, closer, is_object, key_of, Begins, container, scalar, identifier, nothing, begins, refuse_if, is_comma, holds, key_step, close_or, empty_by_comma, no_node, value_step, fresh_value, child_step, slot_step, mode_step, step, Outcome, taken, refused, at_end, after_step, run, before}
use Rattle.reader.specs.Reading.{max_text, limits_of, outcome, reading}

-- a step is refused with one of 7 to 10
unfoldable pub StepNumber : Step → Type 0
StepNumber (go c) = Unit {0}
StepNumber (refuse n) = (7 ≤ n) × (n ≤ 10)

refuse_number : (b : Bool) (n : ℕ) (s : Step) → 7 ≤ n → n ≤ 10 → StepNumber s → StepNumber (refuse_if b n s)
unfolding StepNumber refuse_if
refuse_number true n s h k p = (h, k)
refuse_number false n s h k p = p

seven : StepNumber (refuse 7)
unfolding StepNumber
seven = (omega arith, omega arith)

went : (c : Config) → StepNumber (go c)
unfolding StepNumber
went c = tt

key_number : (f : Frame) (fs : List Frame) (nodes : ℕ) (span : Span) (o : Option (List ℕ)) → StepNumber (key_step f fs nodes span o)
unfolding key_step
key_number f fs nodes span none = seven
key_number f fs nodes span (some key) = refuse_number (holds f.keys key) 8 _ (omega arith) (omega arith) (went _)

close_number : (c : Config) (f : Frame) (fs : List Frame) (t : Token) (other : Step) → StepNumber other → StepNumber (close_or c f fs t other)
unfolding close_or
close_number c f fs t other h = cond_both StepNumber (is_mark (closer f.kind) t.form) (λ _. went _) (λ _. h)

module _ (limits : Limits) where
  value_number : (c : Config) (fresh any : Bool) (l : Label) (t : Token) (b : Begins) → StepNumber (value_step limits c fresh any l t b)
  unfolding value_step
  value_number c fresh any l t (container kind) =
      refuse_number (leb limits.depth (length c.stack)) 9 _ (omega arith) (omega arith)
      (refuse_number (no_node limits fresh c) 10 _ (omega arith) (omega arith) (went _))
  value_number c fresh any l t (scalar s) =
      refuse_number (not any) 7 _ (omega arith) (omega arith) (refuse_number (no_node limits fresh c) 10 _ (omega arith) (omega arith) (went _))
  value_number c fresh any l t identifier =
      refuse_number (not fresh) 7 _ (omega arith) (omega arith) (refuse_number (no_node limits fresh c) 10 _ (omega arith) (omega arith) (went _))
  value_number c fresh any l t nothing = seven

  fresh_number : (c : Config) (any : Bool) (key : Option Span) (t : Token) → StepNumber (fresh_value limits c any key t)
  unfolding fresh_value
  fresh_number c any key t = value_number c true any _ t (begins (span_of t) t.form)

  child_number : (c : Config) (f : Frame) (fs : List Frame) (t : Token) → StepNumber (child_step limits c f fs t)
  unfolding child_step
  child_number c f fs t =
      cond_both StepNumber (is_object f.kind) (λ _. key_number f fs c.nodes (span_of t) (key_of t.form)) (λ _. fresh_number c true none t)

module _ (sw : Switches) (limits : Limits) where
  slot_number : (c : Config) (t : Token) (slot : Slot) (fs : List Frame) → StepNumber (slot_step sw limits c t slot fs)
  unfolding slot_step
  slot_number c t slot [] = seven
  slot_number c t first (f ∷ fs) =
      close_number c f fs t _
      (cond_both StepNumber (is_comma t.form && empty_by_comma sw f.kind) (λ _. went _) (λ _. child_number limits c f fs t))
  slot_number c t lone (f ∷ fs) = close_number c f fs t _ seven
  slot_number c t after (f ∷ fs) = close_number c f fs t _ (cond_both StepNumber (is_comma t.form) (λ _. went _) (λ _. seven))
  slot_number c t more (f ∷ fs) = close_number c f fs t _ (child_number limits c f fs t)

  mode_number : (c : Config) (t : Token) (m : Mode) → StepNumber (mode_step sw limits c t m)
  unfolding mode_step
  mode_number c t (value any key) = fresh_number limits c any key t
  mode_number c t (named any l) = cond_both StepNumber (is_mark "(" t.form) (λ _. went _) (λ _. seven)
  mode_number c t (inner any l) = value_number limits c false any l t (begins (span_of t) t.form)
  mode_number c t (close tree) = cond_both StepNumber (is_mark ")" t.form) (λ _. went _) (λ _. seven)
  mode_number c t (inside slot) = slot_number c t slot c.stack
  mode_number c t (colon key) = cond_both StepNumber (is_mark ":" t.form) (λ _. went _) (λ _. seven)
  mode_number c t (done tree) = seven

-- ---- the run, and the reading

unfoldable pub NumberWithin : Outcome → Type 0
NumberWithin (taken tree) = Unit {0}
NumberWithin (refused number place) = (1 ≤ number) × (number ≤ 10)

end_number : (place : ℕ) (m : Mode) → NumberWithin (at_end place m)
unfolding NumberWithin at_end
end_number place (value any key) = (omega arith, omega arith)
end_number place (named any l) = (omega arith, omega arith)
end_number place (inner any l) = (omega arith, omega arith)
end_number place (close tree) = (omega arith, omega arith)
end_number place (inside slot) = (omega arith, omega arith)
end_number place (colon key) = (omega arith, omega arith)
end_number place (done tree) = tt

after_number : (place : ℕ) (s : Step) (rest : Config → Outcome) → StepNumber s → ((c : Config) → NumberWithin (rest c)) → NumberWithin (after_step place s rest)
unfolding NumberWithin StepNumber after_step
after_number place (go c) rest h k = k c
after_number place (refuse n) rest h k = (let p = h.0 in omega arith, h.1)

module _ (sw : Switches) (limits : Limits) where
  run_number : (ts : Tokens) (c : Config) → TokensFault ts → NumberWithin (run sw limits ts c)
  unfolding run TokensFault NumberWithin step
  run_number (L.next t ts) c h =
      after_number t.start (mode_step sw limits c t c.mode) (λ d. run sw limits ts d) (mode_number sw limits c t c.mode) (λ d. run_number ts d h)
  run_number (L.end place) c h = end_number place c.mode
  run_number (Tokens.fault n place) c h = (let p = h.0 in omega arith, let q = h.1 in omega arith)

pub outcome_number : (sw : Switches) (any : Bool) (limits : Limits) (s : List ℕ) → NumberWithin (outcome sw any limits s)
unfolding outcome NumberWithin
outcome_number sw any limits s =
    cond_both NumberWithin (leb (length s) max_text)
    (λ _. cond_both NumberWithin (is_whole (utf8 s))
    (λ _. run_number sw limits (tokens sw s) (before any) (tokens_fault sw s))
    (λ _. (omega arith, omega arith)))
    (λ _. (omega arith, omega arith))

pub number_law : (sw : Switches) (words : ℕ) (s : List ℕ) → NumberWithin (reading sw words s)
unfolding reading
number_law sw words s = outcome_number sw false (limits_of words) s
