-- In the tree of a taken text every value's span runs forwards and lies inside its parent's, and the whole inside the text.
-- Assumes nothing.
use Prim.Native.Nat.{ℕ, ◌≤◌, ◌<◌, zero-le}
use native.Mathlib.Nat.{le_refl, le_trans}
use native.Mathlib.Omega.{arith}
use mathlib.Core.Bool.{Bool, true, false, ◌&&◌}
use mathlib.Core.Option.{Option, none, some}
use mathlib.Core.List.{List, [], ◌∷◌}
use lib.Dec.{leb}
use lib.ListN.{length}
use Rattle.text.specs.declared.switches.Switches.{Switches}
use Rattle.text.specs.Utf8.{utf8, is_whole}
use Rattle.lexer.specs.Token as L
use Rattle.lexer.specs.Token.{Token, Tokens, tokens}
use Rattle.text.proofs.Choice.{cond_both}
use Rattle.lexer.proofs.TokenLaws.{Within, tokens_within}
use Rattle.reader.specs.Tree.{Span, Tree, leaf, branch, Forest, nil, cons, snoc, head_of}
use Rattle.reader.specs.declared.tree.Limits.{Limits}
use Rattle.reader.specs.Syntax.{Label, label, Frame, Slot, first, lone, after, more, Mode, value, named, inner, close, inside, colon, done, Config, Step, go, refuse, Begins, container, scalar, identifier, nothing, span_of, is_mark, closer, is_object, key_of, begins, head_by, stop_at, with_stop, finished, ended, go_to, refuse_if, is_comma, empty_by_comma, key_step, close_or, counted, value_step, fresh_value, child_step, slot_step, mode_step, step, Outcome, taken, refused, at_end, after_step, run, before}
use Rattle.reader.specs.Reading.{outcome, max_text}

abbrev pub value_start : Tree → ℕ
value_start t = (head_of t).value.start

abbrev pub value_stop : Tree → ℕ
value_stop t = (head_of t).value.stop

unfoldable mutual
  -- spans run forwards, and children lie inside their parent
  pub Nest : Tree → Type 0
  Nest (leaf h s) = h.value.start ≤ h.value.stop
  Nest (branch h k f) = (h.value.start ≤ h.value.stop) × NestIn h.value.start h.value.stop f

  -- and all of them from a to b
  pub NestIn : (a b : ℕ) → Forest → Type 0
  NestIn a b nil = Unit {0}
  NestIn a b (cons t f) = (a ≤ value_start t) × (value_stop t ≤ b) × Nest t × NestIn a b f

in_later : (a b c : ℕ) (f : Forest) → b ≤ c → NestIn a b f → NestIn a c f
unfolding Nest
in_later a b c nil l n = tt
in_later a b c (cons t f) l n = (n.0, le_trans n.1 l, n.2, in_later a b c f l n.3)

in_snoc : (a b : ℕ) (f : Forest) (t : Tree) → NestIn a b f → a ≤ value_start t → value_stop t ≤ b → Nest t → NestIn a b (snoc f t)
unfolding Nest snoc
in_snoc a b nil t n h k m = (h, k, m, tt)
in_snoc a b (cons u f) t n h k m = (n.0, n.1, n.2, in_snoc a b f t n.3 h k m)

pub nest_forwards : (t : Tree) → Nest t → value_start t ≤ value_stop t
unfolding Nest head_of
nest_forwards (leaf h s) n = n
nest_forwards (branch h k f) n = n.0

-- ---- the machine keeps it

-- where the innermost container starts
top_start : List Frame → ℕ
top_start [] = 0
top_start (f ∷ fs) = f.label.start

FramesNest : (n : ℕ) → List Frame → Type 0
FramesNest n [] = Unit {0}
FramesNest n (f ∷ fs) = (top_start fs ≤ f.label.start) × (f.label.start ≤ n) × NestIn f.label.start n f.children × FramesNest n fs

frames_later : (n m : ℕ) (fs : List Frame) → n ≤ m → FramesNest n fs → FramesNest m fs
unfolding FramesNest
frames_later n m [] l a = tt
frames_later n m (f ∷ fs) l a = (a.0, le_trans a.1 l, in_later f.label.start n m f.children l a.2, frames_later n m fs l a.3)

top_low : (n : ℕ) (fs : List Frame) → FramesNest n fs → top_start fs ≤ n
unfolding FramesNest top_start
top_low n [] a = zero-le
top_low n (f ∷ fs) a = a.1

-- a value that has begun, or that is whole but for a bracket
LabelIn : (n : ℕ) → List Frame → Label → Type 0
LabelIn n fs l = (top_start fs ≤ l.start) × (l.start ≤ n)

TreeIn : (n : ℕ) → List Frame → Tree → Type 0
TreeIn n fs t = (top_start fs ≤ value_start t) × (value_stop t ≤ n) × Nest t

ModeNest : (n : ℕ) → List Frame → Mode → Type 0
ModeNest n fs (value any key) = Unit {0}
ModeNest n fs (named any l) = LabelIn n fs l
ModeNest n fs (inner any l) = LabelIn n fs l
ModeNest n fs (close t) = TreeIn n fs t
ModeNest n fs (inside slot) = Unit {0}
ModeNest n fs (colon key) = Unit {0}
ModeNest n fs (done t) = TreeIn n fs t

Good : (n : ℕ) → Config → Type 0
Good n c = FramesNest n c.stack × ModeNest n c.stack c.mode

GoodStep : (n : ℕ) → Step → Type 0
GoodStep n (go c) = Good n c
GoodStep n (refuse k) = Unit {0}

refuse_or : (n : ℕ) (b : Bool) (k : ℕ) (s : Step) → GoodStep n s → GoodStep n (refuse_if b k s)
unfolding refuse_if GoodStep
refuse_or n true k s g = tt
refuse_or n false k s g = g

finished_good : (n nodes : ℕ) (fs : List Frame) (t : Tree) → FramesNest n fs → TreeIn n fs t → Good n (finished fs nodes t)
unfolding finished Good FramesNest ModeNest TreeIn top_start
finished_good n nodes [] t a b = (tt, b)
finished_good n nodes (f ∷ fs) t a b = ((a.0, a.1, in_snoc f.label.start n f.children t a.2 b.0 b.1 b.2, a.3), tt)

ended_good : (n nodes : ℕ) (fs : List Frame) (o : Option Span) (t : Tree) → FramesNest n fs → TreeIn n fs t → Good n (ended fs nodes o t)
unfolding ended Good ModeNest
ended_good n nodes fs none t a b = finished_good n nodes fs t a b
ended_good n nodes fs (some s) t a b = (a, b)

with_stop_law : (n m : ℕ) (fs : List Frame) (t : Tree) → n ≤ m → TreeIn n fs t → TreeIn m fs (with_stop m t)
unfolding with_stop stop_at Nest TreeIn head_of
with_stop_law n m fs (leaf h s) l a = let p = a.1 in let q = a.2 in (a.0, le_refl m, omega arith)
with_stop_law n m fs (branch h k f) l a =
    let p = a.1 in
    let q = a.2.0 in
    (a.0, le_refl m, (omega arith, in_later h.value.start h.value.stop m f (omega arith) a.2.1))

module _ (limits : Limits) (t : Token) (at : ℕ) (after-at : at ≤ t.start) (forwards : t.start < t.stop) where
  to : at ≤ t.stop
  to = omega arith

  value_good : (c : Config) (fresh any : Bool) (l : Label) (b : Begins) → FramesNest at c.stack → LabelIn t.start c.stack l
      → GoodStep t.stop (value_step limits c fresh any l t b)
  unfolding value_step GoodStep Good FramesNest ModeNest LabelIn TreeIn Nest head_by head_of
  value_good c fresh any l (container k) a h =
      let p = h.1 in
      refuse_or t.stop _ 9 _ (refuse_or t.stop _ 10 _ ((h.0, omega arith, tt, frames_later at t.stop c.stack to a), tt))
  value_good c fresh any l (scalar s) a h =
      let p = h.1 in
      refuse_or t.stop _ 7 _ (refuse_or t.stop _ 10 _
      (ended_good t.stop (counted limits fresh c) c.stack l.name (leaf (head_by l t.stop) s) (frames_later at t.stop c.stack to a)
      (h.0, le_refl t.stop, omega arith)))
  value_good c fresh any l identifier a h =
      let p = h.1 in
      refuse_or t.stop _ 7 _ (refuse_or t.stop _ 10 _ (frames_later at t.stop c.stack to a, (h.0, omega arith)))
  value_good c fresh any l nothing a h = tt

  fresh_good : (c : Config) (any : Bool) (key : Option Span) → FramesNest at c.stack → GoodStep t.stop (fresh_value limits c any key t)
  unfolding fresh_value LabelIn
  fresh_good c any key a =
      value_good c true any (label t.start key none) (begins (span_of t) t.form) a (le_trans (top_low at c.stack a) after-at, le_refl t.start)

  key_good : (f : Frame) (fs : List Frame) (nodes : ℕ) (span : Span) (k : Option (List ℕ)) → FramesNest at (f ∷ fs) → GoodStep t.stop (key_step f fs nodes span k)
  unfolding key_step GoodStep Good FramesNest ModeNest
  key_good f fs nodes span none a = tt
  key_good f fs nodes span (some k) a = refuse_or t.stop _ 8 _ (frames_later at t.stop (f ∷ fs) to a, tt)

  child_good : (c : Config) (f : Frame) (fs : List Frame) → FramesNest at c.stack → FramesNest at (f ∷ fs) → GoodStep t.stop (child_step limits c f fs t)
  unfolding child_step
  child_good c f fs a b =
      cond_both (GoodStep t.stop) (is_object f.kind) (λ _. key_good f fs c.nodes (span_of t) (key_of t.form) b) (λ _. fresh_good c true none a)

  close_good : (c : Config) (f : Frame) (fs : List Frame) (other : Step) → FramesNest at (f ∷ fs) → GoodStep t.stop other
      → GoodStep t.stop (close_or c f fs t other)
  unfolding close_or GoodStep FramesNest TreeIn Nest head_by head_of
  close_good c f fs other b g =
      let p = b.1 in
      cond_both (GoodStep t.stop) (is_mark (closer f.kind) t.form)
      (λ _. ended_good t.stop c.nodes fs f.label.name (branch (head_by f.label t.stop) f.kind f.children)
      (frames_later at t.stop fs to b.3)
      (b.0, le_refl t.stop, (omega arith, in_later f.label.start at t.stop f.children to b.2)))
      (λ _. g)

  go_to_good : (c : Config) (m : Mode) → FramesNest at c.stack → ModeNest t.stop c.stack m → GoodStep t.stop (go_to c m)
  unfolding GoodStep Good
  go_to_good c m a b = (frames_later at t.stop c.stack to a, b)

  slot_good : (sw : Switches) (c : Config) (slot : Slot) (fs : List Frame) → FramesNest at c.stack → FramesNest at fs → GoodStep t.stop (slot_step sw limits c t slot fs)
  unfolding slot_step GoodStep ModeNest
  slot_good sw c slot [] a b = tt
  slot_good sw c first (f ∷ fs) a b =
      close_good c f fs _ b (cond_both (GoodStep t.stop) (is_comma t.form && empty_by_comma sw f.kind) (λ _. go_to_good c (inside lone) a tt) (λ _. child_good c f fs a b))
  slot_good sw c lone (f ∷ fs) a b = close_good c f fs (refuse 7) b tt
  slot_good sw c after (f ∷ fs) a b =
      close_good c f fs _ b (cond_both (GoodStep t.stop) (is_comma t.form) (λ _. go_to_good c (inside more) a tt) (λ _. tt))
  slot_good sw c more (f ∷ fs) a b = close_good c f fs _ b (child_good c f fs a b)

  mode_good : (sw : Switches) (c : Config) (m : Mode) → FramesNest at c.stack → ModeNest at c.stack m → GoodStep t.stop (mode_step sw limits c t m)
  unfolding mode_step GoodStep ModeNest Good LabelIn
  mode_good sw c (value any key) a b = fresh_good c any key a
  mode_good sw c (named any l) a b =
      let p = b.1 in
      cond_both (GoodStep t.stop) (is_mark "(" t.form) (λ _. go_to_good c (inner any l) a (b.0, omega arith)) (λ _. tt)
  mode_good sw c (inner any l) a b = let p = b.1 in value_good c false any l (begins (span_of t) t.form) a (b.0, omega arith)
  mode_good sw c (close u) a b =
      cond_both (GoodStep t.stop) (is_mark ")" t.form)
      (λ _. finished_good t.stop c.nodes c.stack (with_stop t.stop u) (frames_later at t.stop c.stack to a) (with_stop_law at t.stop c.stack u to b))
      (λ _. tt)
  mode_good sw c (inside slot) a b = slot_good sw c slot c.stack a a
  mode_good sw c (colon key) a b = cond_both (GoodStep t.stop) (is_mark ":" t.form) (λ _. go_to_good c (value true (some key)) a tt) (λ _. tt)
  mode_good sw c (done u) a b = tt

  step_good : (sw : Switches) (c : Config) → Good at c → GoodStep t.stop (step sw limits c t)
  unfolding step Good
  step_good sw c g = mode_good sw c c.mode g.0 g.1

-- ---- the whole run

-- a taken tree nests, and ends by n
unfoldable pub OutcomeNests : (n : ℕ) → Outcome → Type 0
OutcomeNests n (taken tree) = Nest tree × (value_stop tree ≤ n)
OutcomeNests n (refused number place) = Unit {0}

at_end_law : (n at place : ℕ) (fs : List Frame) (m : Mode) → at ≤ n → ModeNest at fs m → OutcomeNests n (at_end place m)
unfolding at_end OutcomeNests ModeNest TreeIn
at_end_law n at place fs (value any key) l a = tt
at_end_law n at place fs (named any label) l a = tt
at_end_law n at place fs (inner any label) l a = tt
at_end_law n at place fs (close tree) l a = tt
at_end_law n at place fs (inside slot) l a = tt
at_end_law n at place fs (colon key) l a = tt
at_end_law n at place fs (done tree) l a = (a.2, le_trans a.1 l)

after_step_law : (n at place : ℕ) (s : Step) (rest : Config → Outcome) → GoodStep at s → ((c : Config) → Good at c → OutcomeNests n (rest c))
    → OutcomeNests n (after_step place s rest)
unfolding after_step GoodStep OutcomeNests
after_step_law n at place (go c) rest g k = k c g
after_step_law n at place (refuse number) rest g k = tt

run_nests : (sw : Switches) (limits : Limits) (n at : ℕ) (ts : Tokens) (c : Config) → at ≤ n → Within n at ts → Good at c
    → OutcomeNests n (run sw limits ts c)
unfolding run Within Good OutcomeNests
run_nests sw limits n at (L.next t ts) c l w g =
    after_step_law n t.stop t.start (step sw limits c t) (λ d. run sw limits ts d) (step_good limits t at w.0 w.1 sw c g)
    (λ d h. run_nests sw limits n t.stop ts d w.2 w.3 h)
run_nests sw limits n at (L.end place) c l w g = at_end_law n at place c.stack c.mode l g.1
run_nests sw limits n at (Tokens.fault number place) c l w g = tt

pub outcome_nests : (sw : Switches) (any : Bool) (limits : Limits) (text : List ℕ) → OutcomeNests (length text) (outcome sw any limits text)
unfolding outcome OutcomeNests before Good FramesNest ModeNest
outcome_nests sw any limits text =
    cond_both (OutcomeNests (length text)) (leb (length text) max_text)
    (λ _. cond_both (OutcomeNests (length text)) (is_whole (utf8 text))
    (λ _. run_nests sw limits (length text) 0 (tokens sw text) (before any) zero-le (tokens_within sw text) (tt, tt))
    (λ _. tt))
    (λ _. tt)
