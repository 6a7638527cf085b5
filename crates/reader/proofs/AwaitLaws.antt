-- Where a value may come: every token that begins one is taken as the first of a value.
-- Assumes nothing.
use mathlib.Core.Path.{◌≡◌, refl, ◌∙◌, subst}
use Prim.Native.Nat.{ℕ}
use Prim.Native.Char.{Char, code}
use mathlib.Core.Bool.{Bool, true, false}
use mathlib.Core.Option.{Option, none}
use mathlib.Core.List.{List, [], ◌∷◌}
use borrow.Author.Tests.{ne_eqb}
use Rattle.text.specs.declared.switches.Switches.{Switches}
use Rattle.text.proofs.Choice.{cond-false, and_off}
use Rattle.lexer.specs.Token as L
use Rattle.lexer.specs.Token.{Token, Form}
use Rattle.reader.specs.Tree.{Span}
use Rattle.reader.specs.declared.tree.Kind.{Kind}
use Rattle.reader.specs.declared.tree.Kind.TheVariants.{Object, Array, Tuple}
use Rattle.reader.specs.declared.tree.Limits.{Limits}
use Rattle.reader.specs.Syntax.{Frame, first, more, value, inside, Config, config, Begins, container, scalar, identifier, nothing, span_of, is_mark, closer, is_object, is_comma, empty_by_comma, key_of, mark_begins, begins, key_step, fresh_value, child_step, mode_step, step}
use Rattle.reader.proofs.StepRun.{child_step_law}

-- the token is the first of a value
unfoldable pub Starts : Begins → Type 0
Starts (container k) = Unit {0}
Starts (scalar s) = Unit {0}
Starts identifier = Unit {0}
Starts nothing = ⊥

-- a value may come next, with this key; of every kind, if `any`
pub record Awaits (sw : Switches) (limits : Limits) (any : Bool) (d : Config) : Type 0 where
  pub key : Option Span
  pub takes : (t : Token) → Starts (begins (span_of t) t.form) → step sw limits d t ≡ fresh_value limits d any key t

-- in the root's place a root, elsewhere any value
unfoldable pub any_of : List Frame → Bool
any_of [] = false
any_of (f ∷ fs) = true

-- ---- a mark that begins no value

pub starts_not : (c : Char) (u : Span) (f : Form) → (Starts (mark_begins (code c)) → ⊥) → Starts (begins u f) → is_mark c f ≡ false
unfolding begins is_mark
starts_not c u (L.mark b) never st = ne_eqb b (code c) (λ e. never (subst (λ (n : ℕ). Starts (mark_begins n)) e st))
starts_not c u (L.word s) never st = refl
starts_not c u (L.text s) never st = refl
starts_not c u (L.bytes s) never st = refl
starts_not c u (L.integer z) never st = refl
starts_not c u (L.decimal minus m p) never st = refl

no_closer : (k : Kind) → Starts (mark_begins (code (closer k))) → ⊥
unfolding Starts mark_begins
no_closer Object h = h
no_closer Array h = h
no_closer Tuple h = h

no_comma : Starts (mark_begins (code ",")) → ⊥
unfolding Starts mark_begins
no_comma h = h

-- ---- the three places

module _ (sw : Switches) (limits : Limits) where
  pub value_awaits : (fs : List Frame) (any : Bool) (key : Option Span) (n : ℕ) → Awaits sw limits any (config fs (value any key) n)
  unfolding step mode_step
  value_awaits fs any key n = record { key = key; takes = λ t st. refl }

  -- in an array or tuple
  module _ (f : Frame) (fs : List Frame) (n : ℕ) (no_keys : is_object f.kind ≡ false) where
    child_value : (c : Config) (t : Token) → child_step limits c f fs t ≡ fresh_value limits c true none t
    unfolding child_step
    child_value c t =
        cond-false (is_object f.kind) (key_step f fs c.nodes (span_of t) (key_of t.form)) (fresh_value limits c true none t) no_keys

    not_closed : (t : Token) → Starts (begins (span_of t) t.form) → is_mark (closer f.kind) t.form ≡ false
    not_closed t st = starts_not (closer f.kind) (span_of t) t.form (no_closer f.kind) st

    pub first_awaits : Awaits sw limits true (config (f ∷ fs) (inside first) n)
    first_awaits = record {
      key = none;
      takes = λ t st.
          child_step_law sw limits f.kind f.label f.children f.keys fs n t 0 (not_closed t st)
          (and_off (is_comma t.form) (empty_by_comma sw f.kind) (starts_not "," (span_of t) t.form no_comma st))
          ∙ child_value (config (f ∷ fs) (inside first) n) t;
    }

    pub more_awaits : Awaits sw limits true (config (f ∷ fs) (inside more) n)
    more_awaits = record {
      key = none;
      takes = λ t st.
          child_step_law sw limits f.kind f.label f.children f.keys fs n t 1 (not_closed t st) refl
          ∙ child_value (config (f ∷ fs) (inside more) n) t;
    }
