-- With room for one container more the machine refuses by a rule alone: with 7, or with 8 a doubled key.
-- Assumes nothing.
use mathlib.Core.Path.{◌≡◌, refl}
use Prim.Native.Nat.{ℕ, ◌<◌}
use native.Mathlib.Omega.{arith}
use mathlib.Core.Bool.{Bool, true, false, not, ◌&&◌, true≢false}
use mathlib.Core.Option.{Option, none, some}
use mathlib.Core.List.{List, [], ◌∷◌}
use lib.ListN.{length}
use borrow.Author.Tests.{lt-leb}
use Rattle.text.specs.declared.switches.Switches.{Switches}
use Rattle.text.proofs.Choice.{cond_both, is_true}
use Rattle.lexer.specs.Token.{Token}
use Rattle.reader.specs.declared.tree.Limits.{Limits}
use Rattle.reader.specs.Syntax.{Label, Frame, Slot, first, lone, after, more, Mode, value, named, inner, close, inside, colon, done, Config, label, Step, go, refuse, Begins, container, scalar, identifier, nothing, span_of, is_mark, closer, is_object, is_comma, empty_by_comma, key_of, begins, refuse_if, holds, key_step, close_or, no_node, value_step, fresh_value, child_step, slot_step, mode_step, step}
use Rattle.reader.proofs.LimitLaws.{Limit, deep, many}

-- the refusals that are not by a limit: 7, and 8 of a token whose content is among the keys of the innermost object
pub data Rule (c : Config) (t : Token) : ℕ → Type 0 where
  disallowed : Rule c t 7
  doubled : (f : Frame) (fs : List Frame) (key : List ℕ) → c.stack ≡ f ∷ fs → is_object f.kind ≡ true → key_of t.form ≡ some key
      → holds f.keys key ≡ true → Rule c t 8

pub rule_or_limit : {c : Config} {t : Token} {k : ℕ} → Rule c t k → Limit k → ⊥
rule_or_limit {c} {t} r l = apart r l refl
  where
    apart : {i j : ℕ} → Rule c t i → Limit j → i ≡ j → ⊥
    apart disallowed deep e = omega arith
    apart disallowed many e = omega arith
    apart (doubled f fs key q o k h) deep e = omega arith
    apart (doubled f fs key q o k h) many e = omega arith

-- the step goes on, or is refused by a rule
unfoldable pub ByRule : Config → Token → Step → Type 0
ByRule c t (go d) = Unit {0}
ByRule c t (refuse k) = Rule c t k

module _ (sw : Switches) (l : Limits) (c : Config) (t : Token) (deeper : length c.stack < l.depth) (one_more : c.nodes < l.nodes) where
  abbrev Ruled : Step → Type 0
  Ruled s = ByRule c t s

  rule_if : (b : Bool) (k : ℕ) (s : Step) → (b ≡ true → Rule c t k) → Ruled s → Ruled (refuse_if b k s)
  unfolding refuse_if ByRule
  rule_if true k s r h = r refl
  rule_if false k s r h = h

  room_if : (b : Bool) (k : ℕ) (s : Step) → b ≡ false → Ruled s → Ruled (refuse_if b k s)
  unfolding refuse_if ByRule
  room_if true k s e h = absurd (true≢false e)
  room_if false k s e h = h

  node_left : (fresh : Bool) → no_node l fresh c ≡ false
  unfolding no_node
  node_left true = lt-leb l.nodes c.nodes one_more
  node_left false = refl

  value_rule : (fresh any : Bool) (a : Label) (b : Begins) → Ruled (value_step l c fresh any a t b)
  unfolding value_step ByRule
  value_rule fresh any a (container kind) = room_if _ 9 _ (lt-leb l.depth (length c.stack) deeper) (room_if _ 10 _ (node_left fresh) tt)
  value_rule fresh any a (scalar s) = rule_if (not any) 7 _ (λ _. disallowed) (room_if _ 10 _ (node_left fresh) tt)
  value_rule fresh any a identifier = rule_if (not fresh) 7 _ (λ _. disallowed) (room_if _ 10 _ (node_left fresh) tt)
  value_rule fresh any a nothing = disallowed

  -- in the innermost container
  module _ (f : Frame) (fs : List Frame) (q : c.stack ≡ f ∷ fs) where
    key_rule : is_object f.kind ≡ true → (k : Option (List ℕ)) → key_of t.form ≡ k → Ruled (key_step f fs c.nodes (span_of t) k)
    unfolding key_step ByRule
    key_rule o none e = disallowed
    key_rule o (some k) e = rule_if (holds f.keys k) 8 _ (doubled f fs k q o e) tt

    child_rule : Ruled (child_step l c f fs t)
    unfolding child_step fresh_value
    child_rule =
        cond_both Ruled (is_object f.kind) (λ o. key_rule (is_true (is_object f.kind) o) (key_of t.form) refl)
        (λ _. value_rule true true (label t.start none none) (begins (span_of t) t.form))

    close_rule : (s : Step) → Ruled s → Ruled (close_or c f fs t s)
    unfolding close_or ByRule
    close_rule s h = cond_both Ruled (is_mark (closer f.kind) t.form) (λ _. tt) (λ _. h)

  slot_rule : (slot : Slot) (fs : List Frame) → c.stack ≡ fs → Ruled (slot_step sw l c t slot fs)
  unfolding slot_step ByRule
  slot_rule slot [] q = disallowed
  slot_rule first (f ∷ fs) q =
      close_rule f fs q _ (cond_both Ruled (is_comma t.form && empty_by_comma sw f.kind) (λ _. tt) (λ _. child_rule f fs q))
  slot_rule lone (f ∷ fs) q = close_rule f fs q _ disallowed
  slot_rule after (f ∷ fs) q = close_rule f fs q _ (cond_both Ruled (is_comma t.form) (λ _. tt) (λ _. disallowed))
  slot_rule more (f ∷ fs) q = close_rule f fs q _ (child_rule f fs q)

  mode_rule : (m : Mode) → Ruled (mode_step sw l c t m)
  unfolding mode_step fresh_value ByRule
  mode_rule (value any key) = value_rule true any (label t.start key none) (begins (span_of t) t.form)
  mode_rule (named any a) = cond_both Ruled (is_mark "(" t.form) (λ _. tt) (λ _. disallowed)
  mode_rule (inner any a) = value_rule false any a (begins (span_of t) t.form)
  mode_rule (close tree) = cond_both Ruled (is_mark ")" t.form) (λ _. tt) (λ _. disallowed)
  mode_rule (inside slot) = slot_rule slot c.stack refl
  mode_rule (colon key) = cond_both Ruled (is_mark ":" t.form) (λ _. tt) (λ _. disallowed)
  mode_rule (done tree) = disallowed

  pub step_rule : ByRule c t (step sw l c t)
  unfolding step
  step_rule = mode_rule c.mode
