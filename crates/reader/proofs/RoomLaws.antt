-- The machine in greater limits: it goes where it went and refuses what it refused, but for the refusals by a limit (9, 10).
-- Assumes nothing.
use mathlib.Core.Path.{◌≡◌, refl, sym, ap, ◌∙◌, subst}
use Prim.Native.Nat.{ℕ, ◌+◌, ◌≤◌}
use native.Mathlib.Omega.{arith}
use mathlib.Core.Bool.{Bool, true, false, not, ◌&&◌}
use mathlib.Core.Option.{Option, none}
use mathlib.Core.List.{List, [], ◌∷◌, ◌++◌}
use lib.Dec.{T, leb, leb→le, le→leb}
use lib.ListN.{length}
use Rattle.text.specs.declared.switches.Switches.{Switches}
use Rattle.text.proofs.Choice.{cond-pair}
use Rattle.lexer.specs.Token as L
use Rattle.lexer.specs.Token.{Token, Tokens}
use Rattle.lexer.proofs.ItemLaws.{leads}
use Rattle.reader.specs.Tree.{Span}
use Rattle.reader.specs.declared.tree.Limits.{Limits}
use Rattle.reader.specs.Syntax.{Label, Frame, Slot, first, lone, after, more, Mode, value, named, inner, close, inside, colon, done, Config, Step, go, refuse, Begins, container, scalar, identifier, nothing, span_of, is_mark, closer, is_object, is_comma, empty_by_comma, begins, refuse_if, close_or, no_node, counted, value_step, fresh_value, child_step, slot_step, mode_step, step, Outcome, refused, at_end, after_step, run}
use Rattle.reader.proofs.LimitLaws.{Limit, deep, many}

-- the second limits are not below the first
pub record Roomier (l l' : Limits) : Type 0 where
  pub depth : l.depth ≤ l'.depth
  pub nodes : l.nodes ≤ l'.nodes

-- limits put together: not below either
abbrev pub plus : Limits → Limits → Limits
plus l l' = record { depth = l.depth + l'.depth; nodes = l.nodes + l'.nodes }

pub plus_left : (l l' : Limits) → Roomier l (plus l l')
plus_left l l' = record { depth = omega arith; nodes = omega arith }

pub plus_right : (l l' : Limits) → Roomier l' (plus l l')
plus_right l l' = record { depth = omega arith; nodes = omega arith }

-- ---- one token

-- the first is the second, or a refusal by a limit
pub data Freer : Step → Step → Type 0 where
  same : {s : Step} → Freer s s
  limited : {k : ℕ} {s : Step} → Limit k → Freer (refuse k) s

by_room : (b b' : Bool) (k : ℕ) (s s' : Step) → Limit k → (T b' → T b) → Freer s s' → Freer (refuse_if b k s) (refuse_if b' k s')
unfolding refuse_if
by_room true b' k s s' l h f = limited l
by_room false true k s s' l h f = absurd (h tt)
by_room false false k s s' l h f = f

by_rule : (b : Bool) (k : ℕ) (s s' : Step) → Freer s s' → Freer (refuse_if b k s) (refuse_if b k s')
unfolding refuse_if
by_rule true k s s' f = same
by_rule false k s s' f = f

less_room : (n m x : ℕ) → n ≤ m → T (leb m x) → T (leb n x)
less_room n m x h t = let k = leb→le m x t in le→leb n x (omega arith)

module _ (sw : Switches) (l l' : Limits) (r : Roomier l l') where
  node_room : (fresh : Bool) (c : Config) → T (no_node l' fresh c) → T (no_node l fresh c)
  unfolding no_node
  node_room true c t = less_room l.nodes l'.nodes c.nodes r.nodes t
  node_room false c t = t

  value_freer : (c : Config) (fresh any : Bool) (a : Label) (t : Token) (b : Begins) → Freer (value_step l c fresh any a t b) (value_step l' c fresh any a t b)
  unfolding value_step counted
  value_freer c fresh any a t (container kind) =
      by_room _ _ 9 _ _ deep (less_room l.depth l'.depth (length c.stack) r.depth) (by_room _ _ 10 _ _ many (node_room fresh c) same)
  value_freer c fresh any a t (scalar s) = by_rule (not any) 7 _ _ (by_room _ _ 10 _ _ many (node_room fresh c) same)
  value_freer c fresh any a t identifier = by_rule (not fresh) 7 _ _ (by_room _ _ 10 _ _ many (node_room fresh c) same)
  value_freer c fresh any a t nothing = same

  fresh_freer : (c : Config) (any : Bool) (key : Option Span) (t : Token) → Freer (fresh_value l c any key t) (fresh_value l' c any key t)
  unfolding fresh_value
  fresh_freer c any key t = value_freer c true any _ t (begins (span_of t) t.form)

  child_freer : (c : Config) (f : Frame) (fs : List Frame) (t : Token) → Freer (child_step l c f fs t) (child_step l' c f fs t)
  unfolding child_step
  child_freer c f fs t = cond-pair Freer (is_object f.kind) same (fresh_freer c true none t)

  close_freer : (c : Config) (f : Frame) (fs : List Frame) (t : Token) (s s' : Step) → Freer s s' → Freer (close_or c f fs t s) (close_or c f fs t s')
  unfolding close_or
  close_freer c f fs t s s' h = cond-pair Freer (is_mark (closer f.kind) t.form) same h

  slot_freer : (c : Config) (t : Token) (slot : Slot) (fs : List Frame) → Freer (slot_step sw l c t slot fs) (slot_step sw l' c t slot fs)
  unfolding slot_step
  slot_freer c t slot [] = same
  slot_freer c t first (f ∷ fs) =
      close_freer c f fs t _ _ (cond-pair Freer (is_comma t.form && empty_by_comma sw f.kind) same (child_freer c f fs t))
  slot_freer c t lone (f ∷ fs) = same
  slot_freer c t after (f ∷ fs) = same
  slot_freer c t more (f ∷ fs) = close_freer c f fs t _ _ (child_freer c f fs t)

  mode_freer : (c : Config) (t : Token) (m : Mode) → Freer (mode_step sw l c t m) (mode_step sw l' c t m)
  unfolding mode_step
  mode_freer c t (value any key) = fresh_freer c any key t
  mode_freer c t (named any a) = same
  mode_freer c t (inner any a) = value_freer c false any a t (begins (span_of t) t.form)
  mode_freer c t (close tree) = same
  mode_freer c t (inside slot) = slot_freer c t slot c.stack
  mode_freer c t (colon key) = same
  mode_freer c t (done tree) = same

  pub step_freer : (c : Config) (t : Token) → Freer (step sw l c t) (step sw l' c t)
  unfolding step
  step_freer c t = mode_freer c t c.mode

-- ---- tokens one after the other

-- an outcome, limits apart: the outcome itself, or a refusal by a limit
pub data Apart (o : Outcome) : Outcome → Type 0 where
  is : Apart o o
  by_limit : {k place : ℕ} → Limit k → Apart o (refused k place)

-- the machine goes over the tokens from one state to another: none is refused
pub data Over (sw : Switches) (l : Limits) : Config → List Token → Config → Type 0 where
  stays : {c : Config} → Over sw l c [] c
  goes : {c d e : Config} {t : Token} {ts : List Token} → step sw l c t ≡ go d → Over sw l d ts e → Over sw l c (t ∷ ts) e

pub over_more : (sw : Switches) (l : Limits) {c d e : Config} {ts : List Token} (u : Token) → Over sw l c ts d → step sw l d u ≡ go e
    → Over sw l c (ts ++ (u ∷ [])) e
over_more sw l u stays h = goes h stays
over_more sw l u (goes e p) h = goes e (over_more sw l u p h)

pub over_run : (sw : Switches) (l : Limits) {c d : Config} {ts : List Token} (r : Tokens) → Over sw l c ts d → run sw l (leads ts r) c ≡ run sw l r d
unfolding leads run after_step
over_run sw l r stays = refl
over_run sw l r (goes {t = t} {ts = ts} e p) = ap (λ (s : Step). after_step t.start s (λ g. run sw l (leads ts r) g)) e ∙ over_run sw l r p

go_up : {s s' : Step} {d : Config} → Freer s s' → s ≡ go d → s' ≡ go d
go_up same e = e
go_up (limited k) e = let z : ◌≡◌ {A = ℕ} 0 1 = cc in absurd (omega arith)

refuse_up : {s s' : Step} (n : ℕ) → Freer s s' → s ≡ refuse n → (Limit n → ⊥) → s' ≡ refuse n
refuse_up n same e h = e
refuse_up n (limited {k = k} q) e h = let z : k ≡ n = cc in absurd (h (subst Limit z q))

go_down : {s s' : Step} {d : Config} (place : ℕ) (rest : Config → Outcome) {o : Outcome} → Freer s s' → s' ≡ go d → Apart o (rest d)
    → Apart o (after_step place s rest)
unfolding after_step
go_down place rest {o} same e h = subst (λ (x : Step). Apart o (after_step place x rest)) (sym e) h
go_down place rest (limited q) e h = by_limit q

refuse_down : {s s' : Step} (n place : ℕ) (rest : Config → Outcome) → Freer s s' → s' ≡ refuse n → Apart (refused n place) (after_step place s rest)
unfolding after_step
refuse_down n place rest same e = subst (λ (x : Step). Apart (refused n place) (after_step place x rest)) (sym e) is
refuse_down n place rest (limited q) e = by_limit q

module _ (sw : Switches) (l l' : Limits) (r : Roomier l l') where
  pub over_up : {c d : Config} {ts : List Token} → Over sw l c ts d → Over sw l' c ts d
  over_up stays = stays
  over_up (goes {c = c} {t = t} e p) = goes (go_up (step_freer sw l l' r c t) e) (over_up p)

  pub over_down : {c d : Config} {ts : List Token} {o : Outcome} (rest : Tokens) → Over sw l' c ts d → Apart o (run sw l rest d)
      → Apart o (run sw l (leads ts rest) c)
  unfolding leads run
  over_down rest stays h = h
  over_down rest (goes {c = c} {t = t} {ts = ts} e p) h =
      go_down t.start (λ g. run sw l (leads ts rest) g) (step_freer sw l l' r c t) e (over_down rest p h)

-- where the machine refuses a token, not by a limit, it does so in all limits and whatever follows; or a limit value-refused it
pub refused_anyway : (sw : Switches) (l l' : Limits) {c d : Config} {ts : List Token} (u : Token) (n : ℕ) (rest : Tokens) → Over sw l c ts d
    → step sw l d u ≡ refuse n → (Limit n → ⊥) → Apart (refused n u.start) (run sw l' (leads ts (L.next u rest)) c)
unfolding run
refused_anyway sw l l' {d = d} u n rest p e h =
    let up = plus_left l l' in
    let down = plus_right l l' in
    over_down sw l' (plus l l') down (L.next u rest) (over_up sw l (plus l l') up p)
    (refuse_down n u.start (λ g. run sw l' rest g) (step_freer sw l' (plus l l') down d u)
    (refuse_up n (step_freer sw l (plus l l') up d u) e h))

-- the same where the text ends
pub ended_anyway : (sw : Switches) (l l' : Limits) {c d : Config} {ts : List Token} {o : Outcome} (place : ℕ) → Over sw l c ts d
    → at_end place d.mode ≡ o → Apart o (run sw l' (leads ts (L.end place)) c)
unfolding run
ended_anyway sw l l' {o = o} place p e =
    over_down sw l' (plus l l') (plus_right l l') (L.end place) (over_up sw l (plus l l') (plus_left l l') p) (subst (λ (x : Outcome). Apart o x) (sym e) is)
