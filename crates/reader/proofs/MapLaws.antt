-- Places are only carried along: the run of tokens whose places are mapped is the run of the tokens with its outcome mapped.
-- φ maps where tokens start, ψ where they stop. (For values that are read elsewhere, and for comments put between tokens.)
-- Assumes nothing.
use mathlib.Core.Path.{◌≡◌, refl, ap, ◌∙◌}
use Prim.Native.Nat.{ℕ, suc}
use mathlib.Core.Bool.{Bool, true, false, cond, ◌&&◌}
use mathlib.Core.Option.{Option, none, some}
use mathlib.Core.List.{List, [], ◌∷◌}
use lib.Dec.{leb}
use lib.ListN.{length}
use Rattle.text.specs.declared.switches.Switches.{Switches}
use Rattle.text.specs.Bytes.{ascii, same_bytes, is}
use Rattle.text.proofs.Choice.{cond_both, cond-pair}
use Rattle.lexer.specs.Token as L
use Rattle.lexer.specs.Token.{Token, Tokens, Form}
use Rattle.lexer.proofs.SeamLaws.{map_token, map_tokens}
use Rattle.reader.specs.Tree.{Span, Head, Scalar, Tree, leaf, branch, Forest, nil, cons, snoc}
use Rattle.reader.specs.Tree as R
use Rattle.reader.specs.declared.tree.Limits.{Limits}
use Rattle.reader.specs.Syntax.{Label, Frame, Slot, first, lone, after, more, Mode, value, named, inner, close, inside, colon, done, Config, config, frame, label, Step, go, refuse, Begins, container, scalar, identifier, nothing, span_of, is_mark, closer, is_object, is_comma, empty_by_comma, key_of, mark_begins, opens_with_capital, word_begins, begins, head_by, stop_at, with_stop, finished, ended, refuse_if, key_step, close_or, no_node, counted, value_step, fresh_value, child_step, slot_step, mode_step, step, Outcome, taken, refused, at_end, after_step, run}

module _ (φ ψ : ℕ → ℕ) where
  unfoldable pub map_span : Span → Span
  map_span s = record { start = φ s.start; stop = ψ s.stop }

  unfoldable pub map_some : Option Span → Option Span
  map_some none = none
  map_some (some s) = some (map_span s)

  unfoldable pub map_head : Head → Head
  map_head h = record { value = map_span h.value; key = map_some h.key; name = map_some h.name }

  unfoldable pub map_scalar : Scalar → Scalar
  map_scalar (R.text token content) = R.text (map_span token) content
  map_scalar (R.bytes token content) = R.bytes (map_span token) content
  map_scalar (R.integer z) = R.integer z
  map_scalar (R.decimal minus m p) = R.decimal minus m p
  map_scalar R.false_value = R.false_value
  map_scalar R.true_value = R.true_value
  map_scalar R.null_value = R.null_value

  unfoldable mutual
    pub map_tree : Tree → Tree
    map_tree (leaf h s) = leaf (map_head h) (map_scalar s)
    map_tree (branch h k f) = branch (map_head h) k (map_forest f)

    pub map_forest : Forest → Forest
    map_forest nil = nil
    map_forest (cons t f) = cons (map_tree t) (map_forest f)

  unfoldable pub map_label : Label → Label
  map_label l = label (φ l.start) (map_some l.key) (map_some l.name)

  unfoldable pub map_frame : Frame → Frame
  map_frame f = frame f.kind (map_label f.label) (map_forest f.children) f.keys

  unfoldable pub map_stack : List Frame → List Frame
  map_stack [] = []
  map_stack (f ∷ fs) = map_frame f ∷ map_stack fs

  unfoldable pub map_mode : Mode → Mode
  map_mode (value any key) = value any (map_some key)
  map_mode (named any l) = named any (map_label l)
  map_mode (inner any l) = inner any (map_label l)
  map_mode (close t) = close (map_tree t)
  map_mode (inside slot) = inside slot
  map_mode (colon k) = colon (map_span k)
  map_mode (done t) = done (map_tree t)

  unfoldable pub map_config : Config → Config
  map_config c = config (map_stack c.stack) (map_mode c.mode) c.nodes

  unfoldable pub map_outcome : Outcome → Outcome
  map_outcome (taken t) = taken (map_tree t)
  map_outcome (refused number place) = refused number (φ place)

  unfoldable pub map_step : Step → Step
  map_step (go c) = go (map_config c)
  map_step (refuse k) = refuse k

  unfoldable map_begins : Begins → Begins
  map_begins (container k) = container k
  map_begins (scalar s) = scalar (map_scalar s)
  map_begins identifier = identifier
  map_begins nothing = nothing

  refuse_up : (b b' : Bool) (k : ℕ) (s s' : Step) → b' ≡ b → s' ≡ map_step s → refuse_if b' k s' ≡ map_step (refuse_if b k s)
  unfolding refuse_if map_step
  refuse_up b b' k s s' e q = ap (λ (x : Bool). refuse_if x k s') e ∙ on b
    where
      on : (x : Bool) → refuse_if x k s' ≡ map_step (refuse_if x k s)
      on true = refl
      on false = q

  cond_up : (b : Bool) (x y x' y' : Step) → x' ≡ map_step x → y' ≡ map_step y → cond b x' y' ≡ map_step (cond b x y)
  cond_up b x y x' y' p q = cond-pair (λ (z z' : Step). z' ≡ map_step z) b p q

  map_snoc : (f : Forest) (t : Tree) → snoc (map_forest f) (map_tree t) ≡ map_forest (snoc f t)
  unfolding map_tree snoc
  map_snoc nil t = refl
  map_snoc (cons u f) t = ap (cons (map_tree u)) (map_snoc f t)

  map_length : (fs : List Frame) → length (map_stack fs) ≡ length fs
  unfolding map_stack
  map_length [] = refl
  map_length (f ∷ fs) = ap suc (map_length fs)

  finished_map : (fs : List Frame) (n : ℕ) (t : Tree) → finished (map_stack fs) n (map_tree t) ≡ map_config (finished fs n t)
  unfolding finished map_stack map_config map_mode map_frame
  finished_map [] n t = refl
  finished_map (f ∷ fs) n t =
      ap (λ (x : Forest). config (frame f.kind (map_label f.label) x f.keys ∷ map_stack fs) (inside after) n) (map_snoc f.children t)

  ended_map : (fs : List Frame) (n : ℕ) (o : Option Span) (t : Tree) → ended (map_stack fs) n (map_some o) (map_tree t) ≡ map_config (ended fs n o t)
  unfolding ended map_some map_config map_mode
  ended_map fs n none t = finished_map fs n t
  ended_map fs n (some s) t = refl

  mark_map : (b : ℕ) → mark_begins b ≡ map_begins (mark_begins b)
  unfolding mark_begins map_begins
  mark_map b =
      cond_both (λ (x : Begins). x ≡ map_begins x) (is "{" b) (λ _. refl)
      (λ _. cond_both (λ (x : Begins). x ≡ map_begins x) (is "[" b) (λ _. refl)
      (λ _. cond_both (λ (x : Begins). x ≡ map_begins x) (is "(" b) (λ _. refl) (λ _. refl)))

  word_map : (s : List ℕ) → word_begins s ≡ map_begins (word_begins s)
  unfolding word_begins map_begins map_scalar
  word_map s =
      cond_both (λ (x : Begins). x ≡ map_begins x) (same_bytes s (ascii "true")) (λ _. refl)
      (λ _. cond_both (λ (x : Begins). x ≡ map_begins x) (same_bytes s (ascii "false")) (λ _. refl)
      (λ _. cond_both (λ (x : Begins). x ≡ map_begins x) (same_bytes s (ascii "null")) (λ _. refl)
      (λ _. cond_both (λ (x : Begins). x ≡ map_begins x) (opens_with_capital s) (λ _. refl) (λ _. refl))))

  begins_map : (s : Span) (f : Form) → begins (map_span s) f ≡ map_begins (begins s f)
  unfolding begins map_begins map_scalar
  begins_map s (L.mark b) = mark_map b
  begins_map s (L.word w) = word_map w
  begins_map s (L.text w) = refl
  begins_map s (L.bytes w) = refl
  begins_map s (L.integer z) = refl
  begins_map s (L.decimal minus m p) = refl

  module _ (sw : Switches) (limits : Limits) (t : Token) where
    abbrev u : Token
    u = map_token φ ψ t

    value_map : (c : Config) (fresh any : Bool) (l : Label) (b : Begins)
        → value_step limits (map_config c) fresh any (map_label l) u (map_begins b) ≡ map_step (value_step limits c fresh any l t b)
    unfolding value_step map_begins map_config map_step map_token map_stack map_frame map_tree map_mode no_node counted map_some map_label map_head head_by map_span span_of
    value_map c fresh any l (container k) =
        refuse_up _ _ 9 _ _ (ap (leb limits.depth) (map_length c.stack)) (refuse_up _ _ 10 _ _ refl refl)
    value_map c fresh any l (scalar s) =
        refuse_up _ _ 7 _ _ refl (refuse_up _ _ 10 _ _ refl (ap go (leafs ∙ ended_map c.stack (counted limits fresh c) l.name (leaf (head_by l t.stop) s))))
      where
        leafs : ended (map_stack c.stack) (counted limits fresh c) (map_label l).name (leaf (head_by (map_label l) (ψ t.stop)) (map_scalar s))
            ≡ ended (map_stack c.stack) (counted limits fresh c) (map_some l.name) (map_tree (leaf (head_by l t.stop) s))
        leafs = refl
    value_map c fresh any l identifier = refuse_up _ _ 7 _ _ refl (refuse_up _ _ 10 _ _ refl refl)
    value_map c fresh any l nothing = refl

    span_map : span_of u ≡ map_span (span_of t)
    unfolding span_of map_token map_span
    span_map = refl

    here_map : (c : Config) (fresh any : Bool) (l : Label)
        → value_step limits (map_config c) fresh any (map_label l) u (begins (span_of u) t.form) ≡ map_step (value_step limits c fresh any l t (begins (span_of t) t.form))
    here_map c fresh any l =
        ap (λ (s : Span). value_step limits (map_config c) fresh any (map_label l) u (begins s t.form)) span_map
        ∙ ap (value_step limits (map_config c) fresh any (map_label l) u) (begins_map (span_of t) t.form) ∙ value_map c fresh any l (begins (span_of t) t.form)

    fresh_map : (c : Config) (any : Bool) (key : Option Span) → fresh_value limits (map_config c) any (map_some key) u ≡ map_step (fresh_value limits c any key t)
    unfolding fresh_value map_token map_label map_some
    fresh_map c any key = here_map c true any (label t.start key none)

    key_map : (f : Frame) (fs : List Frame) (n : ℕ) (k : Option (List ℕ))
        → key_step (map_frame f) (map_stack fs) n (span_of u) k ≡ map_step (key_step f fs n (span_of t) k)
    unfolding key_step map_step map_frame map_stack map_config map_mode span_of map_token map_span
    key_map f fs n none = refl
    key_map f fs n (some k) = refuse_up _ _ 8 _ _ refl refl

    child_map : (c : Config) (f : Frame) (fs : List Frame) → child_step limits (map_config c) (map_frame f) (map_stack fs) u ≡ map_step (child_step limits c f fs t)
    unfolding child_step map_frame map_config map_token map_some
    child_map c f fs = cond_up (is_object f.kind) _ _ _ _ (key_map f fs c.nodes (key_of t.form)) (fresh_map c true none)

    close_map : (c : Config) (f : Frame) (fs : List Frame) (s s' : Step) → s' ≡ map_step s
        → close_or (map_config c) (map_frame f) (map_stack fs) u s' ≡ map_step (close_or c f fs t s)
    unfolding close_or map_step map_frame map_config map_token map_label map_tree head_by map_head map_span
    close_map c f fs s s' e =
        cond_up (is_mark (closer f.kind) t.form) _ _ _ _
        (ap go (ended_map fs c.nodes f.label.name (branch (head_by f.label t.stop) f.kind f.children))) e

    slot_map : (c : Config) (slot : Slot) (fs : List Frame) → slot_step sw limits (map_config c) u slot (map_stack fs) ≡ map_step (slot_step sw limits c t slot fs)
    unfolding slot_step map_step map_stack map_config map_mode map_token map_frame
    slot_map c slot [] = refl
    slot_map c first (f ∷ fs) = close_map c f fs _ _ (cond_up (is_comma t.form && empty_by_comma sw f.kind) _ _ _ _ refl (child_map c f fs))
    slot_map c lone (f ∷ fs) = close_map c f fs _ _ refl
    slot_map c after (f ∷ fs) = close_map c f fs _ _ (cond_up (is_comma t.form) _ _ _ _ refl refl)
    slot_map c more (f ∷ fs) = close_map c f fs _ _ (child_map c f fs)

    stop_map : (v : Tree) → with_stop (ψ t.stop) (map_tree v) ≡ map_tree (with_stop t.stop v)
    unfolding with_stop map_tree stop_at map_head map_span
    stop_map (leaf h s) = refl
    stop_map (branch h k f) = refl

    mode_map : (c : Config) (m : Mode) → mode_step sw limits (map_config c) u (map_mode m) ≡ map_step (mode_step sw limits c t m)
    unfolding mode_step map_step map_mode map_config map_token map_some
    mode_map c (value any key) = fresh_map c any key
    mode_map c (named any l) = cond_up (is_mark "(" t.form) _ _ _ _ refl refl
    mode_map c (inner any l) = here_map c false any l
    mode_map c (close v) =
        cond_up (is_mark ")" t.form) _ _ _ _
        (ap go (ap (finished (map_stack c.stack) c.nodes) (stop_map v) ∙ finished_map c.stack c.nodes (with_stop t.stop v))) refl
    mode_map c (inside slot) = slot_map c slot c.stack
    mode_map c (colon k) = cond_up (is_mark ":" t.form) _ _ _ _ refl refl
    mode_map c (done v) = refl

    pub step_map : (c : Config) → step sw limits (map_config c) (map_token φ ψ t) ≡ map_step (step sw limits c t)
    unfolding step map_config
    step_map c = mode_map c c.mode

  end_map : (p : ℕ) (m : Mode) → at_end (φ p) (map_mode m) ≡ map_outcome (at_end p m)
  unfolding at_end map_mode map_outcome
  end_map p (value any key) = refl
  end_map p (named any l) = refl
  end_map p (inner any l) = refl
  end_map p (close v) = refl
  end_map p (inside slot) = refl
  end_map p (colon k) = refl
  end_map p (done v) = refl

  after_map : (p : ℕ) (s : Step) (k k' : Config → Outcome) → ((c : Config) → k' (map_config c) ≡ map_outcome (k c))
      → after_step (φ p) (map_step s) k' ≡ map_outcome (after_step p s k)
  unfolding after_step map_step map_outcome
  after_map p (go c) k k' h = h c
  after_map p (refuse j) k k' h = refl

  -- NATURALITY: a run knows nothing of places
  pub run_map : (sw : Switches) (limits : Limits) (ts : Tokens) (c : Config) → run sw limits (map_tokens φ ψ ts) (map_config c) ≡ map_outcome (run sw limits ts c)
  unfolding run map_tokens map_outcome map_config map_token
  run_map sw limits (L.next t ts) c =
      ap (λ (s : Step). after_step (φ t.start) s (λ e. run sw limits (map_tokens φ ψ ts) e)) (step_map sw limits t c)
      ∙ after_map t.start (step sw limits c t) (λ e. run sw limits ts e) (λ e. run sw limits (map_tokens φ ψ ts) e) (λ e. run_map sw limits ts e)
  run_map sw limits (L.end p) c = end_map p c.mode
  run_map sw limits (Tokens.fault k p) c = refl
