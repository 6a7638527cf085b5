-- A run by itself, and the same run one container further in: exactly the same moves, if the depth and the nodes have room for it.
-- Assumes nothing.
use mathlib.Core.Path.{◌≡◌, refl, ap, subst}
use Prim.Native.Nat.{ℕ, suc, ◌+◌, ◌≤◌}
use native.Mathlib.Omega.{arith}
use mathlib.Core.Bool.{Bool, true, false, not, cond, ◌&&◌}
use mathlib.Core.Option.{Option, none, some}
use mathlib.Core.List.{List, [], ◌∷◌, ◌++◌}
use lib.Dec.{T, leb, leb→le, le→leb}
use lib.ListN.{length, length-append}
use Rattle.text.specs.declared.switches.Switches.{Switches}
use Rattle.text.proofs.Choice.{cond-pair}
use Rattle.lexer.specs.Token.{Token}
use Rattle.lexer.proofs.SeamLaws.{cut_token}
use Rattle.lexer.proofs.WalkLaws.{here, past, took}
use Rattle.reader.specs.Tree.{Span, Tree, leaf, branch, nil}
use Rattle.reader.specs.declared.tree.Limits.{Limits}
use Rattle.reader.specs.Syntax.{Label, Frame, Slot, first, lone, after, more, Mode, value, named, inner, close, inside, colon, done, Config, config, frame, label, Step, go, refuse, Begins, container, scalar, identifier, nothing, span_of, is_mark, closer, is_object, is_comma, empty_by_comma, key_of, begins, head_by, with_stop, finished, ended, refuse_if, holds, key_step, close_or, no_node, counted, value_step, fresh_value, child_step, slot_step, mode_step, step}
use Rattle.reader.proofs.AmpleLaws.{ended_nodes}
use Rattle.reader.proofs.PathLaws.{Path}

-- a whole value by itself is on no stack
unfoldable pub Settled : List Frame → Mode → Type 0
Settled fs (value any key) = Unit {0}
Settled fs (named any l) = Unit {0}
Settled fs (inner any l) = Unit {0}
Settled fs (close t) = Unit {0}
Settled fs (inside slot) = Unit {0}
Settled fs (colon k) = Unit {0}
Settled fs (done t) = fs ≡ []

-- F is open around the run, N nodes have begun before it, and it begins at most `most`
module _ (sw : Switches) (limits limits' : Limits) (F : Frame) (N most : ℕ) (deeper : suc limits.depth ≤ limits'.depth)
    (room : most + N ≤ limits'.nodes) where
  -- a stack, on F
  abbrev on : List Frame → List Frame
  on fs = fs ++ (F ∷ [])

  -- the state of the run in F: a whole value is the last child of F
  unfoldable pub over : List Frame → Mode → ℕ → Config
  over fs (value any key) n = config (on fs) (value any key) (n + N)
  over fs (named any l) n = config (on fs) (named any l) (n + N)
  over fs (inner any l) n = config (on fs) (inner any l) (n + N)
  over fs (close t) n = config (on fs) (close t) (n + N)
  over fs (inside slot) n = config (on fs) (inside slot) (n + N)
  over fs (colon k) n = config (on fs) (colon k) (n + N)
  over fs (done t) n = finished (on []) (n + N) t

  abbrev up : Config → Config
  up c = over c.stack c.mode c.nodes

  -- from a state with n nodes: where the run by itself goes, the run in F goes too, if no more than `most` nodes have begun
  unfoldable Lifts : ℕ → Step → Step → Type 0
  Lifts n (go d) s' = (n ≤ d.nodes) × Settled d.stack d.mode × (d.nodes ≤ most → s' ≡ go (up d))
  Lifts n (refuse k) s' = Unit {0}

  -- a value is whole: k nodes have begun by then, and k' in F
  lift_finished : (n k k' : ℕ) (fs : List Frame) (t : Tree) → n ≤ k → k' ≡ k + N → Lifts n (go (finished fs k t)) (go (finished (on fs) k' t))
  unfolding Lifts finished over Settled
  lift_finished n k k' [] t h e = (h, refl, λ _. ap (λ (x : ℕ). go (finished (on []) x t)) e)
  lift_finished n k k' (f ∷ fs) t h e = (h, tt, λ _. ap (λ (x : ℕ). go (finished (on (f ∷ fs)) x t)) e)

  lift_ended : (n k k' : ℕ) (fs : List Frame) (o : Option Span) (t : Tree) → n ≤ k → k' ≡ k + N → Lifts n (go (ended fs k o t)) (go (ended (on fs) k' o t))
  unfolding Lifts ended over Settled
  lift_ended n k k' fs none t h e = lift_finished n k k' fs t h e
  lift_ended n k k' fs (some s) t h e = (h, tt, λ _. ap (λ (x : ℕ). go (config (on fs) (close t) x)) e)

  -- a test that refuses the run in F only if it refuses the run by itself
  by_less : (n : ℕ) (b b' : Bool) (k : ℕ) (s s' : Step) → (T b' → T b) → Lifts n s s' → Lifts n (refuse_if b k s) (refuse_if b' k s')
  unfolding Lifts refuse_if
  by_less n true b' k s s' f h = tt
  by_less n false true k s s' f h = absurd (f tt)
  by_less n false false k s s' f h = h

  -- the same test in both
  by_same : (n : ℕ) (b : Bool) (k : ℕ) (s s' : Step) → Lifts n s s' → Lifts n (refuse_if b k s) (refuse_if b k s')
  by_same n b k s s' h = by_less n b b k s s' (λ t. t) h

  -- a test on the nodes, which does not refuse the run in F while it has begun no more than `most`
  by_nodes : (n : ℕ) (b b' : Bool) (k : ℕ) (d : Config) (s' : Step) → (d.nodes ≤ most → T b' → ⊥) → Lifts n (go d) s'
      → Lifts n (refuse_if b k (go d)) (refuse_if b' k s')
  unfolding Lifts refuse_if
  by_nodes n true b' k d s' f h = tt
  by_nodes n false true k d s' f h = (h.0, h.1, λ q. absurd (f q tt))
  by_nodes n false false k d s' f h = h

  -- a value that begins is one node more in both
  counted_up : (fresh : Bool) (n : ℕ) → cond fresh (suc (n + N)) (n + N) ≡ cond fresh (suc n) n + N
  counted_up true n = omega arith
  counted_up false n = refl

  counted_more : (fresh : Bool) (n : ℕ) → n ≤ cond fresh (suc n) n
  counted_more true n = omega arith
  counted_more false n = omega arith

  -- there is a node left for it in F
  no_more : (fresh : Bool) (n : ℕ) → cond fresh (suc n) n ≤ most → T (fresh && leb limits'.nodes (n + N)) → ⊥
  no_more true n h t = let q = leb→le limits'.nodes (n + N) t in omega arith
  no_more false n h t = t

  -- one container further in, one more may be open
  less_deep : (fs : List Frame) → T (leb limits'.depth (length (on fs))) → T (leb limits.depth (length fs))
  less_deep fs t =
      let q = leb→le limits'.depth (length (on fs)) t in
      let l = length-append fs (F ∷ []) in
      le→leb limits.depth (length fs) (omega arith)

  -- ---- one token

  module _ (t : Token) where
    value_lifts : (fs : List Frame) (m m' : Mode) (n : ℕ) (fresh any : Bool) (l : Label) (b : Begins)
        → Lifts n (value_step limits (config fs m n) fresh any l t b) (value_step limits' (config (on fs) m' (n + N)) fresh any l t b)
    unfolding value_step Lifts no_node counted over Settled
    value_lifts fs m m' n fresh any l (container k) =
        by_less n _ _ 9 _ _ (less_deep fs)
        (by_nodes n _ _ 10 (config (frame k l nil [] ∷ fs) (inside first) (cond fresh (suc n) n)) _ (no_more fresh n)
        (counted_more fresh n, tt, λ _. ap (λ (x : ℕ). go (config (on (frame k l nil [] ∷ fs)) (inside first) x)) (counted_up fresh n)))
    value_lifts fs m m' n fresh any l (scalar s) =
        by_same n (not any) 7 _ _
        (by_nodes n _ _ 10 (ended fs (cond fresh (suc n) n) l.name (leaf (head_by l t.stop) s)) _
        (λ h. no_more fresh n (subst (λ (x : ℕ). x ≤ most) (ended_nodes fs (cond fresh (suc n) n) l.name (leaf (head_by l t.stop) s)) h))
        (lift_ended n _ _ fs l.name (leaf (head_by l t.stop) s) (counted_more fresh n) (counted_up fresh n)))
    value_lifts fs m m' n fresh any l identifier =
        by_same n (not fresh) 7 _ _
        (by_nodes n _ _ 10 (config fs (named any (label l.start l.key (some (span_of t)))) (cond fresh (suc n) n)) _ (no_more fresh n)
        (counted_more fresh n, tt, λ _. ap (λ (x : ℕ). go (config (on fs) (named any (label l.start l.key (some (span_of t)))) x)) (counted_up fresh n)))
    value_lifts fs m m' n fresh any l nothing = tt

    fresh_lifts : (fs : List Frame) (m m' : Mode) (n : ℕ) (any : Bool) (key : Option Span)
        → Lifts n (fresh_value limits (config fs m n) any key t) (fresh_value limits' (config (on fs) m' (n + N)) any key t)
    unfolding fresh_value
    fresh_lifts fs m m' n any key = value_lifts fs m m' n true any (label t.start key none) (begins (span_of t) t.form)

    -- another slot of the same container
    goes_to : (fs : List Frame) (slot : Slot) (n : ℕ) → Lifts n (go (config fs (inside slot) n)) (go (config (on fs) (inside slot) (n + N)))
    unfolding Lifts over Settled
    goes_to fs slot n = (omega arith, tt, λ _. refl)

    close_lifts : (f : Frame) (fs : List Frame) (m m' : Mode) (n : ℕ) (s s' : Step) → Lifts n s s'
        → Lifts n (close_or (config (f ∷ fs) m n) f fs t s) (close_or (config (on (f ∷ fs)) m' (n + N)) f (on fs) t s')
    unfolding close_or
    close_lifts f fs m m' n s s' h =
        cond-pair (Lifts n) (is_mark (closer f.kind) t.form)
        (lift_ended n n (n + N) fs f.label.name (branch (head_by f.label t.stop) f.kind f.children) (omega arith) refl) h

    child_lifts : (f : Frame) (fs : List Frame) (m m' : Mode) (n : ℕ)
        → Lifts n (child_step limits (config (f ∷ fs) m n) f fs t) (child_step limits' (config (on (f ∷ fs)) m' (n + N)) f (on fs) t)
    unfolding child_step Lifts key_step over Settled
    child_lifts f fs m m' n = cond-pair (Lifts n) (is_object f.kind) (of_key (key_of t.form)) (fresh_lifts (f ∷ fs) m m' n true none)
      where
        of_key : (k : Option (List ℕ)) → Lifts n (key_step f fs n (span_of t) k) (key_step f (on fs) (n + N) (span_of t) k)
        of_key none = tt
        of_key (some k) = by_same n (holds f.keys k) 8 _ _ (omega arith, tt, λ _. refl)

    slot_lifts : (slot : Slot) (fs : List Frame) (n : ℕ)
        → Lifts n (slot_step sw limits (config fs (inside slot) n) t slot fs) (slot_step sw limits' (config (on fs) (inside slot) (n + N)) t slot (on fs))
    unfolding slot_step Lifts
    slot_lifts slot [] n = tt
    slot_lifts first (f ∷ fs) n =
        close_lifts f fs (inside first) (inside first) n _ _
        (cond-pair (Lifts n) (is_comma t.form && empty_by_comma sw f.kind) (goes_to (f ∷ fs) lone n) (child_lifts f fs (inside first) (inside first) n))
    slot_lifts lone (f ∷ fs) n = close_lifts f fs (inside lone) (inside lone) n (refuse 7) (refuse 7) tt
    slot_lifts after (f ∷ fs) n =
        close_lifts f fs (inside after) (inside after) n _ _ (cond-pair (Lifts n) (is_comma t.form) (goes_to (f ∷ fs) more n) tt)
    slot_lifts more (f ∷ fs) n = close_lifts f fs (inside more) (inside more) n _ _ (child_lifts f fs (inside more) (inside more) n)

    mode_lifts : (fs : List Frame) (m : Mode) (n : ℕ) → Lifts n (mode_step sw limits (config fs m n) t m) (step sw limits' (over fs m n) t)
    unfolding step mode_step Lifts over Settled
    mode_lifts fs (value any key) n = fresh_lifts fs (value any key) (value any key) n any key
    mode_lifts fs (named any l) n = cond-pair (Lifts n) (is_mark "(" t.form) (omega arith, tt, λ _. refl) tt
    mode_lifts fs (inner any l) n = value_lifts fs (inner any l) (inner any l) n false any l (begins (span_of t) t.form)
    mode_lifts fs (close u) n =
        cond-pair (Lifts n) (is_mark ")" t.form) (lift_finished n n (n + N) fs (with_stop t.stop u) (omega arith) refl) tt
    mode_lifts fs (inside slot) n = slot_lifts slot fs n
    mode_lifts fs (colon k) n = cond-pair (Lifts n) (is_mark ":" t.form) (omega arith, tt, λ _. refl) tt
    mode_lifts fs (done u) n = tt

  step_lifts : (c : Config) (t : Token) → Lifts c.nodes (step sw limits c t) (step sw limits' (up c) t)
  unfolding step
  step_lifts c t = mode_lifts t c.stack c.mode c.nodes

  -- ---- a path

  -- a token that moves the run by itself
  move_lifts : (c d : Config) (t : Token) → step sw limits c t ≡ go d → Lifts c.nodes (go d) (step sw limits' (up c) t)
  move_lifts c d t m = subst (λ (s : Step). Lifts c.nodes s (step sw limits' (up c) t)) m (step_lifts c t)

  -- the same bytes lead the run in F where they lead the run by itself
  pub path_lifts : (from : ℕ) (c₀ : Config) {pre z : List ℕ} {c : Config} → Path sw limits from c₀ pre z c → c.nodes ≤ most
      → Path sw limits' from (up c₀) pre z (up c)
  unfolding Lifts
  path_lifts from c₀ here h = here
  path_lifts from c₀ (past pre b x p e) h = past pre b x (path_lifts from c₀ p h) e
  path_lifts from c₀ (took pre b x form {s = c} {t = d} p e m) h =
      let w = move_lifts c d (cut_token form (from + length pre) (length x)) m in
      let q = w.0 in
      took pre b x form (path_lifts from c₀ p (omega arith)) e (w.2 h)

  -- a run by itself that has its whole value has nothing open
  pub path_settled : (from : ℕ) (c₀ : Config) {pre z : List ℕ} {c : Config} → Path sw limits from c₀ pre z c → Settled c₀.stack c₀.mode
      → Settled c.stack c.mode
  unfolding Lifts
  path_settled from c₀ here h = h
  path_settled from c₀ (past pre b x p e) h = path_settled from c₀ p h
  path_settled from c₀ (took pre b x form {s = c} {t = d} p e m) h = (move_lifts c d (cut_token form (from + length pre) (length x)) m).1
