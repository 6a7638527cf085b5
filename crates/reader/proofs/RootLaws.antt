-- A root is a value: what is taken as a root is taken as a value of any kind, with the same tree.
-- Assumes nothing.
use mathlib.Core.Path.{◌≡◌}
use Prim.Native.Nat.{ℕ, suc}
use native.Mathlib.Omega.{arith}
use mathlib.Core.Bool.{Bool, true, false, not, cond}
use mathlib.Core.Option.{Option, none, some}
use mathlib.Core.List.{List, []}
use Rattle.text.specs.declared.switches.Switches.{Switches}
use Rattle.text.proofs.Choice.{cond-pair}
use Rattle.lexer.specs.Token as L
use Rattle.lexer.specs.Token.{Token, Tokens}
use Rattle.reader.specs.Tree.{Span, Tree}
use Rattle.reader.specs.declared.tree.Limits.{Limits}
use Rattle.reader.specs.Syntax.{Label, Frame, Mode, value, named, inner, Config, config, label, Step, go, refuse, Begins, container, scalar, identifier, nothing, span_of, is_mark, begins, refuse_if, no_node, counted, value_step, fresh_value, mode_step, step, Outcome, taken, at_end, after_step, run, before}

module _ (sw : Switches) (limits : Limits) where
  -- the same, but where the first asks for a root the second takes any value
  data More : Config → Config → Type 0 where
    same : {c : Config} → More c c
    any_value : (fs : List Frame) (key : Option Span) (n : ℕ) → More (config fs (value false key) n) (config fs (value true key) n)
    any_named : (fs : List Frame) (l : Label) (n : ℕ) → More (config fs (named false l) n) (config fs (named true l) n)
    any_inner : (fs : List Frame) (l : Label) (n : ℕ) → More (config fs (inner false l) n) (config fs (inner true l) n)

  MoreStep : Step → Step → Type 0
  MoreStep (go c) (go d) = More c d
  MoreStep (go c) (refuse k) = ⊥
  MoreStep (refuse k) s = Unit {0}

  same_step : (s : Step) → MoreStep s s
  unfolding MoreStep
  same_step (go c) = same
  same_step (refuse k) = tt

  more_or : (b : Bool) (k : ℕ) (s s' : Step) → MoreStep s s' → MoreStep (refuse_if b k s) (refuse_if b k s')
  unfolding refuse_if MoreStep
  more_or true k s s' h = tt
  more_or false k s s' h = h

  refused_more : (k : ℕ) (s s' : Step) → MoreStep (refuse_if true k s) s'
  unfolding refuse_if MoreStep
  refused_more k s s' = tt

  go_more : (c d : Config) → More c d → MoreStep (go c) (go d)
  unfolding MoreStep
  go_more c d h = h

  value_more : (fs : List Frame) (m m' : Mode) (n : ℕ) (fresh : Bool) (l : Label) (t : Token) (b : Begins)
      → MoreStep (value_step limits (config fs m n) fresh false l t b) (value_step limits (config fs m' n) fresh true l t b)
  unfolding value_step no_node counted
  value_more fs m m' n fresh l t (container k) = same_step _
  value_more fs m m' n fresh l t (scalar s) = refused_more 7 _ _
  value_more fs m m' n fresh l t identifier =
      more_or (not fresh) 7 _ _ (more_or _ 10 _ _ (go_more _ _ (any_named fs (label l.start l.key (some (span_of t))) (cond fresh (suc n) n))))
  value_more fs m m' n fresh l t nothing = same_step (refuse 7)

  step_more : (t : Token) {c d : Config} → More c d → MoreStep (step sw limits c t) (step sw limits d t)
  unfolding step mode_step fresh_value MoreStep
  step_more t (same {c = c}) = same_step (step sw limits c t)
  step_more t (any_value fs key n) =
      value_more fs (value false key) (value true key) n true (label t.start key none) t (begins (span_of t) t.form)
  step_more t (any_named fs l n) = cond-pair MoreStep (is_mark "(" t.form) (any_inner fs l n) tt
  step_more t (any_inner fs l n) = value_more fs (inner false l) (inner true l) n false l t (begins (span_of t) t.form)

  end_more : (p : ℕ) (tree : Tree) {c d : Config} → More c d → at_end p c.mode ≡ taken tree → at_end p d.mode ≡ taken tree
  unfolding at_end
  end_more p tree same e = e
  end_more p tree (any_value fs key n) e = e
  end_more p tree (any_named fs l n) e = e
  end_more p tree (any_inner fs l n) e = e

  after_more : (p : ℕ) (tree : Tree) (s s' : Step) (k : Config → Outcome) → MoreStep s s'
      → ((c d : Config) → More c d → k c ≡ taken tree → k d ≡ taken tree) → after_step p s k ≡ taken tree → after_step p s' k ≡ taken tree
  unfolding after_step MoreStep
  after_more p tree (go c) (go d) k h f e = f c d h e
  after_more p tree (go c) (refuse j) k h f e = absurd h
  after_more p tree (refuse i) s' k h f e = let q : ◌≡◌ {A = ℕ} 0 1 = cc in absurd (omega arith)

  run_more : (ts : Tokens) (tree : Tree) {c d : Config} → More c d → run sw limits ts c ≡ taken tree → run sw limits ts d ≡ taken tree
  unfolding run
  run_more (L.next t ts) tree {c} {d} m e =
      after_more t.start tree (step sw limits c t) (step sw limits d t) (λ x. run sw limits ts x) (step_more t m) (λ x y w q. run_more ts tree w q) e
  run_more (L.end p) tree m e = end_more p tree m e
  run_more (Tokens.fault k p) tree m e = e

  pub root_value : (ts : Tokens) (tree : Tree) → run sw limits ts (before false) ≡ taken tree → run sw limits ts (before true) ≡ taken tree
  unfolding before
  root_value ts tree e = run_more ts tree (any_value [] none 0) e
