-- Every node of a taken text is known by its place: where it starts the machine awaited a value, and where it ends that value was whole.
-- Assumes nothing.
use mathlib.Core.Path.{◌≡◌, refl, sym, ap, ◌∙◌, subst}
use Prim.Native.Nat.{ℕ, ◌+◌, ◌≤◌}
use native.Mathlib.Omega.{arith}
use mathlib.Core.Bool.{Bool, true, false, ◌&&◌}
use mathlib.Core.Option.{Option, none, some}
use mathlib.Core.List.{List, [], ◌∷◌, ◌++◌, append-nil, append_assoc}
use lib.ListN.{length, length-append}
use Rattle.text.specs.declared.switches.Switches.{Switches}
use Rattle.text.proofs.Choice.{cond_both, is_false}
use Rattle.text.proofs.Utf8Join.{AsciiHead}
use Rattle.lexer.specs.Closing.{not_newline}
use Rattle.lexer.specs.Token as L
use Rattle.lexer.specs.Token.{Token, Form, item, cut}
use Rattle.lexer.proofs.Seams.{EndsAt, heads}
use Rattle.lexer.proofs.FirstLaws.{item_ascii, newline_gap}
use Rattle.lexer.proofs.SeamLaws.{cut_token}
use Rattle.lexer.proofs.WalkLaws.{here, past, took}
use Rattle.reader.specs.Tree.{Span, Tree, leaf, branch, Forest, head_of}
use Rattle.reader.specs.declared.tree.Limits.{Limits}
use Rattle.reader.specs.Syntax.{Label, Frame, Slot, first, lone, after, more, Mode, value, named, inner, close, inside, colon, done, Config, config, label, Step, go, refuse, Begins, container, scalar, identifier, nothing, span_of, is_mark, closer, is_object, is_comma, empty_by_comma, key_of, begins, head_by, stop_at, with_stop, finished, ended, refuse_if, key_step, close_or, counted, value_step, fresh_value, child_step, slot_step, mode_step, step, taken, run, before}
use Rattle.reader.proofs.TableLaws.{AllSpans, AllSpansIn, snoc_spans}
use Rattle.reader.proofs.PathLaws.{Path, path_run, whole_path}
use Rattle.reader.proofs.AwaitLaws.{Awaits, any_of, value_awaits, first_awaits, more_awaits}
use Rattle.reader.proofs.EdgeLaws.{MayCome}

-- the first byte of a token is no line's end
token_opens : (sw : Switches) (b : ℕ) (y : List ℕ) (form : Form) (n : ℕ) → item sw b y ≡ L.token form n → not_newline b ≡ true
token_opens sw b y form n e = on (not_newline b) refl
  where
    on : (q : Bool) → not_newline b ≡ q → not_newline b ≡ true
    on true k = k
    on false k =
        let g : L.gap 0 ≡ L.token form n = sym (newline_gap sw b y k) ∙ e in
        let v : ◌≡◌ {A = ℕ} 0 1 = cc in
        absurd (omega arith)

module _ (sw : Switches) (limits : Limits) (s : List ℕ) (tree : Tree) where
  -- ---- nodes

  -- at `start` the run stood on S and awaited a value, and one began
  pub record Entered (S : List Frame) (start : ℕ) : Type 0 where
    pub pre : List ℕ
    pub rest : List ℕ
    pub at : Config
    pub split : pre ++ rest ≡ s
    pub place : length pre ≡ start
    pub path : Path sw limits 0 (before false) pre rest at
    pub stack : at.stack ≡ S
    pub awaits : Awaits sw limits (any_of S) at
    pub ready : MayCome at.mode
    pub opens : heads not_newline rest ≡ true
    pub low : AsciiHead rest

  -- at `stop` a value was whole, on S, and from there the run was taken
  pub record Left (S : List Frame) (stop : ℕ) : Type 0 where
    pub pre : List ℕ
    pub rest : List ℕ
    pub nodes : ℕ
    pub value : Tree
    pub split : pre ++ rest ≡ s
    pub place : length pre ≡ stop
    pub goes : run sw limits (cut sw 0 stop rest) (finished S nodes value) ≡ taken tree

  pub record Node (any : Bool) (start stop : ℕ) : Type 0 where
    pub below : List Frame
    pub kind : any_of below ≡ any
    pub entered : Entered below start
    pub left : Left below stop

  abbrev pub Known : (any : Bool) → Tree → Type 0
  Known any t = AllSpans Node any t

  abbrev KnownIn : Forest → Type 0
  KnownIn f = AllSpansIn Node f

  KnownBelow : Tree → Type 0
  KnownBelow (leaf h x) = Unit {0}
  KnownBelow (branch h k f) = KnownIn f

  tree_known : (any : Bool) (u : Tree) → Node any (head_of u).value.start (head_of u).value.stop → KnownBelow u → Known any u
  unfolding AllSpans KnownBelow head_of
  tree_known any (leaf h x) n b = n
  tree_known any (branch h k f) n b = (n, b)

  -- ---- the machine keeps it

  FramesKnown : List Frame → Type 0
  FramesKnown [] = Unit {0}
  FramesKnown (f ∷ fs) = Entered fs f.label.start × KnownIn f.children × FramesKnown fs

  ModeKnown : List Frame → Mode → Type 0
  ModeKnown S (value any key) = any ≡ any_of S
  ModeKnown S (named any l) = Entered S l.start
  ModeKnown S (inner any l) = Entered S l.start
  ModeKnown S (close u) = Entered S (head_of u).value.start × KnownBelow u
  ModeKnown S (inside slot) = Unit {0}
  ModeKnown S (colon k) = any_of S ≡ true
  ModeKnown S (done u) = Known false u

  Inv : Config → Type 0
  Inv c = FramesKnown c.stack × ModeKnown c.stack c.mode

  -- one token, with the bytes b ∷ x
  module _ (pre : List ℕ) (b : ℕ) (x z : List ℕ) (joined : pre ++ (b ∷ (x ++ z)) ≡ s) (t : Token) (starts : t.start ≡ length pre)
      (value_refused : t.stop ≡ length (pre ++ (b ∷ x))) (open-byte : not_newline b ≡ true) (low_byte : b ≤ 127) where
    Finishes : Config → Type 0
    Finishes d = run sw limits (cut sw 0 (length (pre ++ (b ∷ x))) z) d ≡ taken tree

    StepKnown : Step → Type 0
    StepKnown (go d) = Finishes d → Inv d
    StepKnown (refuse k) = Unit {0}

    entered_here : (c : Config) → Path sw limits 0 (before false) pre (b ∷ (x ++ z)) c → Awaits sw limits (any_of c.stack) c → MayCome c.mode
        → Entered c.stack t.start
    unfolding heads AsciiHead
    entered_here c p a r =
        record {
          pre = pre;
          rest = b ∷ (x ++ z);
          at = c;
          split = joined;
          place = sym starts;
          path = p;
          stack = refl;
          awaits = a;
          ready = r;
          opens = open-byte;
          low = low_byte;
        }

    left_here : (S : List Frame) (n : ℕ) (u : Tree) → Finishes (finished S n u) → Left S t.stop
    unfolding Finishes
    left_here S n u h =
        record {
          pre = pre ++ (b ∷ x);
          rest = z;
          nodes = n;
          value = u;
          split = append_assoc pre (b ∷ x) z ∙ joined;
          place = sym value_refused;
          goes = ap (λ (m : ℕ). run sw limits (cut sw 0 m z) (finished S n u)) value_refused ∙ h;
        }

    known_or : (y : Bool) (k : ℕ) (st : Step) → StepKnown st → StepKnown (refuse_if y k st)
    unfolding refuse_if StepKnown
    known_or true k st h = tt
    known_or false k st h = h

    whole_known : (S : List Frame) (n : ℕ) (u : Tree) → Entered S (head_of u).value.start → KnownBelow u → (head_of u).value.stop ≡ t.stop
        → Finishes (finished S n u) → Known (any_of S) u
    whole_known S n u g k e h =
        tree_known (any_of S) u (record { below = S; kind = refl; entered = g; left = subst (Left S) (sym e) (left_here S n u h) }) k

    finished_known : (S : List Frame) (n : ℕ) (u : Tree) → FramesKnown S → Entered S (head_of u).value.start → KnownBelow u
        → (head_of u).value.stop ≡ t.stop → StepKnown (go (finished S n u))
    unfolding StepKnown Inv FramesKnown ModeKnown any_of finished
    finished_known [] n u fr g k e = λ h. (tt, whole_known [] n u g k e h)
    finished_known (f ∷ fs) n u fr g k e =
        λ h. ((fr.0, snoc_spans Node f.children u fr.1 (whole_known (f ∷ fs) n u g k e h), fr.2), tt)

    ended_known : (S : List Frame) (n : ℕ) (o : Option Span) (u : Tree) → FramesKnown S → Entered S (head_of u).value.start → KnownBelow u
        → (head_of u).value.stop ≡ t.stop → StepKnown (go (ended S n o u))
    unfolding StepKnown Inv ModeKnown ended
    ended_known S n none u fr g k e = finished_known S n u fr g k e
    ended_known S n (some y) u fr g k e = λ _. (fr, (g, k))

    value_known : (c : Config) (fresh any : Bool) (l : Label) (y : Begins) → FramesKnown c.stack → Entered c.stack l.start
        → StepKnown (value_step limits c fresh any l t y)
    unfolding value_step StepKnown Inv FramesKnown ModeKnown KnownBelow AllSpans head_of head_by
    value_known c fresh any l (container k) fr g = known_or _ 9 _ (known_or _ 10 _ (λ _. ((g, tt, fr), tt)))
    value_known c fresh any l (scalar v) fr g =
        known_or _ 7 _ (known_or _ 10 _ (ended_known c.stack (counted limits fresh c) l.name (leaf (head_by l t.stop) v) fr g tt refl))
    value_known c fresh any l identifier fr g = known_or _ 7 _ (known_or _ 10 _ (λ _. (fr, g)))
    value_known c fresh any l nothing fr g = tt

    fresh_known : (c : Config) (any : Bool) (key : Option Span) → Path sw limits 0 (before false) pre (b ∷ (x ++ z)) c
        → Awaits sw limits (any_of c.stack) c → MayCome c.mode → FramesKnown c.stack → StepKnown (fresh_value limits c any key t)
    unfolding fresh_value
    fresh_known c any key p a r fr = value_known c true any (label t.start key none) (begins (span_of t) t.form) fr (entered_here c p a r)

    key_known : (f : Frame) (fs : List Frame) (n : ℕ) (u : Span) (k : Option (List ℕ)) → FramesKnown (f ∷ fs) → StepKnown (key_step f fs n u k)
    unfolding key_step StepKnown Inv FramesKnown ModeKnown any_of
    key_known f fs n u none fr = tt
    key_known f fs n u (some k) fr = known_or _ 8 _ (λ _. (fr, refl))

    close_known : (c : Config) (f : Frame) (fs : List Frame) (other : Step) → FramesKnown (f ∷ fs) → StepKnown other → StepKnown (close_or c f fs t other)
    unfolding close_or FramesKnown KnownBelow head_of head_by
    close_known c f fs other fr h =
        cond_both StepKnown (is_mark (closer f.kind) t.form)
        (λ _. ended_known fs c.nodes f.label.name (branch (head_by f.label t.stop) f.kind f.children) fr.2 fr.0 fr.1 refl) (λ _. h)

    child_known : (c : Config) (f : Frame) (fs : List Frame) → FramesKnown (f ∷ fs) → (is_object f.kind ≡ false → StepKnown (fresh_value limits c true none t))
        → StepKnown (child_step limits c f fs t)
    unfolding child_step
    child_known c f fs fr h =
        cond_both StepKnown (is_object f.kind) (λ _. key_known f fs c.nodes (span_of t) (key_of t.form) fr) (λ n. h (is_false (is_object f.kind) n))

    slot_known : (S : List Frame) (slot : Slot) (n : ℕ) → Path sw limits 0 (before false) pre (b ∷ (x ++ z)) (config S (inside slot) n) → FramesKnown S
        → StepKnown (slot_step sw limits (config S (inside slot) n) t slot S)
    unfolding slot_step StepKnown Inv ModeKnown any_of MayCome
    slot_known [] slot n p fr = tt
    slot_known (f ∷ fs) first n p fr =
        let c : Config = config (f ∷ fs) (inside first) n in
        close_known c f fs _ fr (cond_both StepKnown (is_comma t.form && empty_by_comma sw f.kind) (λ _. λ _. (fr, tt))
        (λ _. child_known c f fs fr (λ h. fresh_known c true none p (first_awaits sw limits f fs n h) tt fr)))
    slot_known (f ∷ fs) lone n p fr = close_known (config (f ∷ fs) (inside lone) n) f fs (refuse 7) fr tt
    slot_known (f ∷ fs) after n p fr =
        close_known (config (f ∷ fs) (inside after) n) f fs _ fr (cond_both StepKnown (is_comma t.form) (λ _. λ _. (fr, tt)) (λ _. tt))
    slot_known (f ∷ fs) more n p fr =
        let c : Config = config (f ∷ fs) (inside more) n in
        close_known c f fs _ fr (child_known c f fs fr (λ h. fresh_known c true none p (more_awaits sw limits f fs n h) tt fr))

    mode_known : (S : List Frame) (m : Mode) (n : ℕ) → Path sw limits 0 (before false) pre (b ∷ (x ++ z)) (config S m n) → FramesKnown S → ModeKnown S m
        → StepKnown (mode_step sw limits (config S m n) t m)
    unfolding mode_step StepKnown Inv ModeKnown MayCome KnownBelow head_of with_stop stop_at
    mode_known S (value any key) n p fr k =
        fresh_known (config S (value any key) n) any key p
        (subst (λ (y : Bool). Awaits sw limits y (config S (value any key) n)) k (value_awaits sw limits S any key n)) tt fr
    mode_known S (named any l) n p fr k = cond_both StepKnown (is_mark "(" t.form) (λ _. λ _. (fr, k)) (λ _. tt)
    mode_known S (inner any l) n p fr k = value_known (config S (inner any l) n) false any l (begins (span_of t) t.form) fr k
    mode_known S (close (leaf h v)) n p fr k =
        cond_both StepKnown (is_mark ")" t.form) (λ _. finished_known S n (with_stop t.stop (leaf h v)) fr k.0 k.1 refl) (λ _. tt)
    mode_known S (close (branch h j f)) n p fr k =
        cond_both StepKnown (is_mark ")" t.form) (λ _. finished_known S n (with_stop t.stop (branch h j f)) fr k.0 k.1 refl) (λ _. tt)
    mode_known S (inside slot) n p fr k = slot_known S slot n p fr
    mode_known S (colon key) n p fr k = cond_both StepKnown (is_mark ":" t.form) (λ _. λ _. (fr, sym k)) (λ _. tt)
    mode_known S (done u) n p fr k = tt

    step_known : (c d : Config) → Path sw limits 0 (before false) pre (b ∷ (x ++ z)) c → Inv c → step sw limits c t ≡ go d → Finishes d → Inv d
    unfolding step StepKnown Inv
    step_known c d p i e h = subst StepKnown e (mode_known c.stack c.mode c.nodes p i.0 i.1) h

  -- ---- the whole run

  module _ (h : run sw limits (cut sw 0 0 s) (before false) ≡ taken tree) where
    -- behind a path the run is taken too
    rest_taken : (pre z : List ℕ) (c : Config) → pre ++ z ≡ s → Path sw limits 0 (before false) pre z c → run sw limits (cut sw 0 (length pre) z) c ≡ taken tree
    rest_taken pre z c j p =
        let q : length pre ≡ 0 + length pre = omega arith in
        ap (λ (n : ℕ). run sw limits (cut sw 0 n z) c) q ∙ sym (path_run sw limits 0 (before false) p)
        ∙ ap (λ (l : List ℕ). run sw limits (cut sw 0 0 l) (before false)) j ∙ h

    path_known : {pre z : List ℕ} {c : Config} → pre ++ z ≡ s → Path sw limits 0 (before false) pre z c → Inv c
    unfolding Inv FramesKnown ModeKnown before any_of Finishes EndsAt
    path_known j here = (tt, refl)
    path_known j (past pre b x {z = z} p e) = path_known (sym (append_assoc pre (b ∷ x) z) ∙ j) p
    path_known j (took pre b x form {z = z} {s = c} {t = d} p e m) =
        let l = length-append pre (b ∷ x) in
        let all = sym (append_assoc pre (b ∷ x) z) ∙ j in
        step_known pre b x z all (cut_token form (0 + length pre) (length x)) (omega arith) (omega arith) (token_opens sw b (x ++ z) form (length x) e)
        (item_ascii sw (length x) b (x ++ z) (subst (EndsAt (length x)) (sym e) refl)) c d p (path_known all p) m
        (rest_taken (pre ++ (b ∷ x)) z d j (took pre b x form p e m))

    -- every node of a taken tree
    pub all_known : Known false tree
    unfolding Inv ModeKnown
    all_known =
        let w = whole_path sw limits 0 (before false) tree s h in
        subst (λ (m : Mode). ModeKnown w.last.stack m) w.over (path_known (append-nil s) w.path).1
