-- A value that is taken alone, read elsewhere: at another place, on a stack, in other limits, with other bytes behind it. Its tree is the same
-- with all places shifted and with the key that is due there; or a limit (9, 10) value-refused it.
-- Assumes nothing.
use mathlib.Core.Path.{◌≡◌, refl, sym, ap, ◌∙◌, subst}
use Prim.Native.Nat.{ℕ, suc, ◌+◌}
use native.Mathlib.Omega.{arith}
use mathlib.Core.Bool.{Bool, true, false, ◌&&◌}
use mathlib.Core.Option.{Option, none, some}
use mathlib.Core.List.{List, [], ◌∷◌, ◌++◌, append_assoc}
use lib.ListN.{length}
use Rattle.text.specs.declared.switches.Switches.{Switches}
use Rattle.text.proofs.Choice.{cond-pair}
use Rattle.lexer.specs.Token as L
use Rattle.lexer.specs.Token.{Token, Form, item, cut}
use Rattle.lexer.proofs.Seams.{heads, goes_on}
use Rattle.lexer.proofs.SeamLaws.{cut_token, map_token, on_by}
use Rattle.lexer.proofs.WalkLaws.{here, past, took, walk_before, walk_map}
use Rattle.reader.specs.Tree.{Span, Head, Scalar, Tree, leaf, branch, Forest, nil, snoc, head_of}
use Rattle.reader.specs.declared.tree.Kind.{Kind}
use Rattle.reader.specs.declared.tree.Limits.{Limits}
use Rattle.reader.specs.Syntax.{Label, Frame, Slot, first, lone, after, more, Mode, value, named, inner, close, inside, colon, done, Config, config, frame, label, Step, go, refuse, Begins, container, scalar, identifier, nothing, span_of, is_mark, closer, is_object, is_comma, empty_by_comma, key_of, begins, head_by, stop_at, with_stop, finished, ended, holds, key_step, close_or, value_step, fresh_value, child_step, slot_step, mode_step, step, taken, refused, run, before}
use Rattle.reader.proofs.PathLaws.{Moves, Path, path_run, path_refused, whole_path}
use Rattle.reader.proofs.LimitLaws.{Limit, deep, many, Steps, by_limit, by_test}
use Rattle.reader.proofs.MapLaws.{map_tree, map_mode, map_some, map_stack, map_config, map_step, step_map}
use Rattle.reader.proofs.AwaitLaws.{Starts, Awaits}
use Rattle.reader.proofs.EdgeLaws.{value_follows}

-- ---- a tree elsewhere

unfoldable pub with_key : Option Span → Head → Head
with_key key h = record { value = h.value; key = key; name = h.name }

-- the tree with another key
unfoldable pub rekeyed : Option Span → Tree → Tree
rekeyed key (leaf h s) = leaf (with_key key h) s
rekeyed key (branch h k f) = branch (with_key key h) k f

-- all places d further on
abbrev pub shift_tree : (d : ℕ) → Tree → Tree
shift_tree d t = map_tree (on_by d) (on_by d) t

-- ---- the same tokens on a stack, with a key

module _ (sw : Switches) (limits limits' : Limits) (S : List Frame) (key₀ : Option Span) where
  -- what is open by itself has the key there, and what is open in it is the same
  label_onto : List Frame → Label → Label
  label_onto [] l = label l.start key₀ l.name
  label_onto (f ∷ fs) l = l

  tree_onto : List Frame → Tree → Tree
  tree_onto [] t = rekeyed key₀ t
  tree_onto (f ∷ fs) t = t

  stack_onto : List Frame → List Frame
  stack_onto [] = S
  stack_onto (f ∷ fs) = frame f.kind (label_onto fs f.label) f.children f.keys ∷ stack_onto fs

  -- what the run by itself is in, and what the run on the stack is in then
  data Onto : Config → Config → Type 0 where
    first_of : {any : Bool} {key : Option Span} {n : ℕ} {e : Config} → e.stack ≡ S
        → ((t : Token) → Starts (begins (span_of t) t.form) → step sw limits' e t ≡ fresh_value limits' e any key₀ t) → Onto (config [] (value any key) n) e
    in_value : (any : Bool) (key : Option Span) (f : Frame) (fs : List Frame) (n n' : ℕ)
        → Onto (config (f ∷ fs) (value any key) n) (config (stack_onto (f ∷ fs)) (value any key) n')
    in_named : (any : Bool) (l : Label) (fs : List Frame) (n n' : ℕ) → Onto (config fs (named any l) n) (config (stack_onto fs) (named any (label_onto fs l)) n')
    in_inner : (any : Bool) (l : Label) (fs : List Frame) (n n' : ℕ) → Onto (config fs (inner any l) n) (config (stack_onto fs) (inner any (label_onto fs l)) n')
    in_close : (t : Tree) (fs : List Frame) (n n' : ℕ) → Onto (config fs (close t) n) (config (stack_onto fs) (close (tree_onto fs t)) n')
    in_slot : (slot : Slot) (fs : List Frame) (n n' : ℕ) → Onto (config fs (inside slot) n) (config (stack_onto fs) (inside slot) n')
    in_colon : (k : Span) (f : Frame) (fs : List Frame) (n n' : ℕ) → Onto (config (f ∷ fs) (colon k) n) (config (stack_onto (f ∷ fs)) (colon k) n')
    whole : (t : Tree) (n n' : ℕ) → Onto (config [] (done t) n) (finished S n' (rekeyed key₀ t))

  abbrev To : Step → Step → Type 0
  To = Steps Onto

  to_finished : (fs : List Frame) (n n' : ℕ) (t : Tree) → Onto (finished fs n t) (finished (stack_onto fs) n' (tree_onto fs t))
  unfolding finished stack_onto tree_onto
  to_finished [] n n' t = whole t n n'
  to_finished (f ∷ fs) n n' t = in_slot after (frame f.kind f.label (snoc f.children t) f.keys ∷ fs) n n'

  to_ended : (fs : List Frame) (n n' : ℕ) (o : Option Span) (t : Tree) → Onto (ended fs n o t) (ended (stack_onto fs) n' o (tree_onto fs t))
  unfolding ended
  to_ended fs n n' none t = to_finished fs n n' t
  to_ended fs n n' (some s) t = in_close t fs n n'

  -- a value whose label is l is whole, but for the bracket of its identifier
  leaf_ended : (fs : List Frame) (n n' : ℕ) (l : Label) (stop : ℕ) (s : Scalar)
      → Onto (ended fs n l.name (leaf (head_by l stop) s)) (ended (stack_onto fs) n' (label_onto fs l).name (leaf (head_by (label_onto fs l) stop) s))
  unfolding label_onto tree_onto head_by rekeyed with_key
  leaf_ended [] n n' l stop s = to_ended [] n n' l.name (leaf (head_by l stop) s)
  leaf_ended (f ∷ fs) n n' l stop s = to_ended (f ∷ fs) n n' l.name (leaf (head_by l stop) s)

  branch_ended : (fs : List Frame) (n n' : ℕ) (l : Label) (stop : ℕ) (k : Kind) (g : Forest)
      → Onto (ended fs n l.name (branch (head_by l stop) k g)) (ended (stack_onto fs) n' (label_onto fs l).name (branch (head_by (label_onto fs l) stop) k g))
  unfolding label_onto tree_onto head_by rekeyed with_key
  branch_ended [] n n' l stop k g = to_ended [] n n' l.name (branch (head_by l stop) k g)
  branch_ended (f ∷ fs) n n' l stop k g = to_ended (f ∷ fs) n n' l.name (branch (head_by l stop) k g)

  stop_onto : (fs : List Frame) (stop : ℕ) (t : Tree) → with_stop stop (tree_onto fs t) ≡ tree_onto fs (with_stop stop t)
  unfolding tree_onto with_stop stop_at rekeyed with_key
  stop_onto [] stop (leaf h s) = refl
  stop_onto [] stop (branch h k f) = refl
  stop_onto (g ∷ gs) stop (leaf h s) = refl
  stop_onto (g ∷ gs) stop (branch h k f) = refl

  name_onto : (any : Bool) (fs : List Frame) (n n' : ℕ) (l : Label) (s : Span)
      → Onto (config fs (named any (label l.start l.key (some s))) n)
      (config (stack_onto fs) (named any (label (label_onto fs l).start (label_onto fs l).key (some s))) n')
  unfolding label_onto
  name_onto any [] n n' l s = in_named any (label l.start l.key (some s)) [] n n'
  name_onto any (f ∷ fs) n n' l s = in_named any (label l.start l.key (some s)) (f ∷ fs) n n'

  -- ---- one token

  module _ (t : Token) where
    value_onto : (fs : List Frame) (m m' : Mode) (n n' : ℕ) (fresh any : Bool) (l : Label) (b : Begins)
        → To (value_step limits (config fs m n) fresh any l t b) (value_step limits' (config (stack_onto fs) m' n') fresh any (label_onto fs l) t b)
    unfolding value_step Steps stack_onto
    value_onto fs m m' n n' fresh any l (container k) = by_limit Onto _ _ 9 _ _ deep (by_limit Onto _ _ 10 _ _ many (in_slot first (frame k l nil [] ∷ fs) _ _))
    value_onto fs m m' n n' fresh any l (scalar s) = by_test Onto _ _ 7 _ _ refl (by_limit Onto _ _ 10 _ _ many (leaf_ended fs _ _ l t.stop s))
    value_onto fs m m' n n' fresh any l identifier = by_test Onto _ _ 7 _ _ refl (by_limit Onto _ _ 10 _ _ many (name_onto any fs _ _ l (span_of t)))
    value_onto fs m m' n n' fresh any l nothing = tt

    first_onto : (n : ℕ) (e : Config) (any : Bool) (key : Option Span) → e.stack ≡ S
        → ((u : Token) → Starts (begins (span_of u) u.form) → step sw limits' e u ≡ fresh_value limits' e any key₀ u)
        → To (fresh_value limits (config [] (value any key) n) any key t) (step sw limits' e t)
    unfolding fresh_value stack_onto label_onto Starts Steps value_step
    first_onto n e any key q f = on (begins (span_of t) t.form) (λ st. subst (To (alone (begins (span_of t) t.form))) (sym (f t st)) same)
      where
        alone : Begins → Step
        alone b = value_step limits (config [] (value any key) n) true any (label t.start key none) t b

        same : To (alone (begins (span_of t) t.form)) (value_step limits' e true any (label t.start key₀ none) t (begins (span_of t) t.form))
        same =
            subst (λ (fs : List Frame). To (alone (begins (span_of t) t.form))
            (value_step limits' (config fs e.mode e.nodes) true any (label t.start key₀ none) t (begins (span_of t) t.form))) (sym q)
            (value_onto [] (value any key) e.mode n e.nodes true any (label t.start key none) (begins (span_of t) t.form))

        on : (b : Begins) → (Starts b → To (alone b) (step sw limits' e t)) → To (alone b) (step sw limits' e t)
        on (container k) h = h tt
        on (scalar s) h = h tt
        on identifier h = h tt
        on nothing h = tt

    fresh_onto : (f : Frame) (fs : List Frame) (m m' : Mode) (n n' : ℕ) (any : Bool) (key : Option Span)
        → To (fresh_value limits (config (f ∷ fs) m n) any key t) (fresh_value limits' (config (stack_onto (f ∷ fs)) m' n') any key t)
    unfolding fresh_value label_onto
    fresh_onto f fs m m' n n' any key = value_onto (f ∷ fs) m m' n n' true any (label t.start key none) (begins (span_of t) t.form)

    abbrev frame_onto : Frame → List Frame → Frame
    frame_onto f fs = frame f.kind (label_onto fs f.label) f.children f.keys

    close_onto : (f : Frame) (fs : List Frame) (m m' : Mode) (n n' : ℕ) (s s' : Step) → To s s'
        → To (close_or (config (f ∷ fs) m n) f fs t s) (close_or (config (stack_onto (f ∷ fs)) m' n') (frame_onto f fs) (stack_onto fs) t s')
    unfolding close_or Steps
    close_onto f fs m m' n n' s s' h =
        cond-pair To (is_mark (closer f.kind) t.form) (branch_ended fs n n' f.label t.stop f.kind f.children) h

    child_onto : (f : Frame) (fs : List Frame) (m m' : Mode) (n n' : ℕ)
        → To (child_step limits (config (f ∷ fs) m n) f fs t) (child_step limits' (config (stack_onto (f ∷ fs)) m' n') (frame_onto f fs) (stack_onto fs) t)
    unfolding child_step Steps key_step stack_onto
    child_onto f fs m m' n n' = cond-pair To (is_object f.kind) (on (key_of t.form)) (fresh_onto f fs m m' n n' true none)
      where
        on : (k : Option (List ℕ)) → To (key_step f fs n (span_of t) k) (key_step (frame_onto f fs) (stack_onto fs) n' (span_of t) k)
        on none = tt
        on (some k) =
            by_test Onto (holds f.keys k) (holds f.keys k) 8 _ _ refl (in_colon (span_of t) (frame f.kind f.label f.children (f.keys ++ (k ∷ []))) fs n n')

    slot_onto : (slot : Slot) (fs : List Frame) (n n' : ℕ)
        → To (slot_step sw limits (config fs (inside slot) n) t slot fs) (slot_step sw limits' (config (stack_onto fs) (inside slot) n') t slot (stack_onto fs))
    unfolding slot_step Steps stack_onto
    slot_onto slot [] n n' = tt
    slot_onto first (f ∷ fs) n n' =
        close_onto f fs (inside first) (inside first) n n' _ _
        (cond-pair To (is_comma t.form && empty_by_comma sw f.kind) (in_slot lone (f ∷ fs) n n') (child_onto f fs (inside first) (inside first) n n'))
    slot_onto lone (f ∷ fs) n n' = close_onto f fs (inside lone) (inside lone) n n' (refuse 7) (refuse 7) tt
    slot_onto after (f ∷ fs) n n' =
        close_onto f fs (inside after) (inside after) n n' _ _ (cond-pair To (is_comma t.form) (in_slot more (f ∷ fs) n n') tt)
    slot_onto more (f ∷ fs) n n' = close_onto f fs (inside more) (inside more) n n' _ _ (child_onto f fs (inside more) (inside more) n n')

    step_onto : {c e : Config} → Onto c e → To (step sw limits c t) (step sw limits' e t)
    unfolding step mode_step Steps
    step_onto (first_of {any = any} {key = key} {n = n} {e = e} q f) = first_onto n e any key q f
    step_onto (in_value any key f fs n n') = fresh_onto f fs (value any key) (value any key) n n' any key
    step_onto (in_named any l fs n n') = cond-pair To (is_mark "(" t.form) (in_inner any l fs n n') tt
    step_onto (in_inner any l fs n n') = value_onto fs (inner any l) (inner any (label_onto fs l)) n n' false any l (begins (span_of t) t.form)
    step_onto (in_close u fs n n') =
        cond-pair To (is_mark ")" t.form)
        (subst (λ (x : Tree). Onto (finished fs n (with_stop t.stop u)) (finished (stack_onto fs) n' x)) (sym (stop_onto fs t.stop u))
        (to_finished fs n n' (with_stop t.stop u))) tt
    step_onto (in_slot slot fs n n') = slot_onto slot fs n n'
    step_onto (in_colon k f fs n n') = cond-pair To (is_mark ":" t.form) (in_value true (some k) f fs n n') tt
    step_onto (whole u n n') = tt

  -- ---- a path

  module _ (at : ℕ) (c₀ e₀ : Config) where
    -- the run on the stack goes through the bytes too, or is stopped by a limit
    data Goes (pre z : List ℕ) (c : Config) : Type 0 where
      through : (e : Config) → Onto c e → Path sw limits' at e₀ pre z e → Goes pre z c
      stopped : (k place : ℕ) → Limit k → run sw limits' (cut sw 0 at (pre ++ z)) e₀ ≡ refused k place → Goes pre z c

    still : (pre : List ℕ) (b : ℕ) (x z : List ℕ) (k place : ℕ) → run sw limits' (cut sw 0 at (pre ++ (b ∷ (x ++ z)))) e₀ ≡ refused k place
        → run sw limits' (cut sw 0 at ((pre ++ (b ∷ x)) ++ z)) e₀ ≡ refused k place
    still pre b x z k place q = ap (λ (l : List ℕ). run sw limits' (cut sw 0 at l) e₀) (append_assoc pre (b ∷ x) z) ∙ q

    goes_took : (pre : List ℕ) (b : ℕ) (x z : List ℕ) (form : Form) (c g : Config) → item sw b (x ++ z) ≡ L.token form (length x)
        → step sw limits c (cut_token form (at + length pre) (length x)) ≡ go g → Goes pre (b ∷ (x ++ z)) c → Goes (pre ++ (b ∷ x)) z g
    unfolding Steps
    goes_took pre b x z form c g i s (stopped k place l q) = stopped k place l (still pre b x z k place q)
    goes_took pre b x z form c g i s (through e l p) =
        on (step sw limits' e t) refl (subst (λ (u : Step). To u (step sw limits' e t)) s (step_onto t l))
      where
        t : Token
        t = cut_token form (at + length pre) (length x)

        on : (u : Step) → step sw limits' e t ≡ u → To (go g) u → Goes (pre ++ (b ∷ x)) z g
        on (go y) w h = through y h (took pre b x form p i w)
        on (refuse k) w h = stopped k (at + length pre) h (still pre b x z k (at + length pre) (path_refused sw limits' at e₀ pre b x z form k p i w))

    path_onto : {pre z : List ℕ} {c : Config} → Onto c₀ e₀ → Path sw limits at c₀ pre z c → Goes pre z c
    path_onto l here = through e₀ l here
    path_onto l (past pre b x {z = z} {s = c} p i) = on (path_onto l p)
      where
        on : Goes pre (b ∷ (x ++ z)) c → Goes (pre ++ (b ∷ x)) z c
        on (through e o q) = through e o (past pre b x q i)
        on (stopped k place o q) = stopped k place o (still pre b x z k place q)
    path_onto l (took pre b x form {z = z} {s = c} {t = g} p i s) = goes_took pre b x z form c g i s (path_onto l p)

    record Whole (u : Tree) (e : Config) : Type 0 where
      nodes : ℕ
      is : e ≡ finished S nodes (rekeyed key₀ u)

    onto_done : (u : Tree) {c e : Config} → Onto c e → c.mode ≡ done u → Whole u e
    onto_done u (first_of q f) h = let z : ◌≡◌ {A = ℕ} 0 1 = cc in absurd (omega arith)
    onto_done u (in_value any key f fs n n') h = let z : ◌≡◌ {A = ℕ} 0 1 = cc in absurd (omega arith)
    onto_done u (in_named any l fs n n') h = let z : ◌≡◌ {A = ℕ} 0 1 = cc in absurd (omega arith)
    onto_done u (in_inner any l fs n n') h = let z : ◌≡◌ {A = ℕ} 0 1 = cc in absurd (omega arith)
    onto_done u (in_close t fs n n') h = let z : ◌≡◌ {A = ℕ} 0 1 = cc in absurd (omega arith)
    onto_done u (in_slot slot fs n n') h = let z : ◌≡◌ {A = ℕ} 0 1 = cc in absurd (omega arith)
    onto_done u (in_colon k f fs n n') h = let z : ◌≡◌ {A = ℕ} 0 1 = cc in absurd (omega arith)
    onto_done u (whole t n n') h =
        let q : t ≡ u = cc in
        record { nodes = n'; is = ap (λ (x : Tree). finished S n' (rekeyed key₀ x)) q }

-- ---- at another place

-- a path's bytes d further on
pub path_shift : (sw : Switches) (limits : Limits) (d : ℕ) {c₀ c : Config} {pre z : List ℕ} → Path sw limits 0 c₀ pre z c
    → Path sw limits d (map_config (on_by d) (on_by d) c₀) pre z (map_config (on_by d) (on_by d) c)
unfolding map_token map_step
path_shift sw limits d p =
    walk_map sw (Moves sw limits) (Moves sw limits) (map_config (on_by d) (on_by d)) 0 d
    (λ c e form n more m.
    let a : 0 + n + d ≡ d + n = omega arith in
    let b : 0 + n + suc more + d ≡ d + n + suc more = omega arith in
    (λ i. step sw limits (map_config (on_by d) (on_by d) c) (record { form = form; start = sym a i; stop = sym b i }))
    ∙ step_map (on_by d) (on_by d) sw limits (cut_token form (0 + n) more) c ∙ ap (map_step (on_by d) (on_by d)) m) p

-- ---- the value elsewhere

-- the value's bytes r, with z behind them, at the place `at` and in the configuration e, come to the tree u moved there; or a limit value-refused them
pub data Reads (sw : Switches) (limits : Limits) (at : ℕ) (r z : List ℕ) (e : Config) (key : Option Span) (u : Tree) : Type 0 where
  reads_on : (nodes : ℕ)
      → run sw limits (cut sw 0 at (r ++ z)) e ≡ run sw limits (cut sw 0 (at + length r) z) (finished e.stack nodes (rekeyed key (shift_tree at u)))
      → Reads sw limits at r z e key u
  limit_stops : (k place : ℕ) → Limit k → run sw limits (cut sw 0 at (r ++ z)) e ≡ refused k place → Reads sw limits at r z e key u

-- a value that is taken alone, from its first byte to its last, is read wherever a value may come, with anything behind it that ends words and
-- numbers
pub value_reads : (sw : Switches) (limits limits' : Limits) (any : Bool) (r : List ℕ) (u : Tree) → run sw limits (cut sw 0 0 r) (before any) ≡ taken u
    → (head_of u).value.stop ≡ length r → (at : ℕ) (z : List ℕ) (e : Config) (w : Awaits sw limits' any e) → heads goes_on z ≡ false
    → Reads sw limits' at r z e w.key u
unfolding before map_config map_stack map_mode map_some
value_reads sw limits limits' any r u h stop at z e w k =
    let p = whole_path sw limits 0 (before any) u r h in
    let q : Path sw limits 0 (before any) r z p.last =
    walk_before sw (Moves sw limits) 0 (before any) p.path z (value_follows sw limits any u p.path z p.over stop k) in
    on p.last p.over
    (path_onto sw limits limits' e.stack w.key at (before any) e (first_of refl w.takes) (path_shift sw limits at q))
  where
    on : (last : Config) → last.mode ≡ done u
        → Goes sw limits limits' e.stack w.key at (before any) e r z (map_config (on_by at) (on_by at) last) → Reads sw limits' at r z e w.key u
    on last m (stopped j place l q) = limit_stops j place l q
    on last m (through g l q) =
        let v = onto_done sw limits limits' e.stack w.key at (before any) e (shift_tree at u) l (ap (map_mode (on_by at) (on_by at)) m) in
        reads_on v.nodes (path_run sw limits' at e q ∙ ap (run sw limits' (cut sw 0 (at + length r) z)) v.is)
