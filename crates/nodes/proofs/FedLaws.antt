-- The machine keeps what its tokens bring: what holds of the value that each token begins holds of every such value of a taken tree; and with
-- the content of each key token, the children of every object have keys of different contents.
-- Assumes nothing.
use mathlib.Core.Path.{◌≡◌, refl, sym, ap, ◌∙◌, subst}
use Prim.Native.Nat.{ℕ}
use mathlib.Core.Bool.{Bool, true, false, ◌&&◌, true≢false, false≢true}
use mathlib.Core.Option.{Option, none, some}
use mathlib.Core.List.{List, [], ◌∷◌, ◌++◌}
use Rattle.text.specs.declared.switches.Switches.{Switches}
use Rattle.text.specs.Bytes.{same_bytes}
use Rattle.text.proofs.Choice.{cond_both, is_true, is_false, or_left, or_right}
use Rattle.text.proofs.SameLaws.{same_refl, same_is}
use Rattle.lexer.specs.Token as L
use Rattle.lexer.specs.Token.{Token, Tokens}
use Rattle.reader.specs.declared.tree.Kind.{Kind}
use Rattle.reader.specs.declared.tree.Kind.TheVariants.{Object, Array, Tuple}
use Rattle.reader.specs.Tree.{Span, Scalar, Tree, leaf, branch, Forest, nil, cons, snoc, head_of}
use Rattle.reader.specs.declared.tree.Limits.{Limits}
use Rattle.reader.specs.Syntax.{Label, Frame, Slot, first, lone, after, more, Mode, value, named, inner, close, inside, colon, done, Config, Step, go, refuse, Begins, container, scalar, identifier, nothing, span_of, is_mark, closer, is_object, key_of, begins, head_by, stop_at, with_stop, finished, ended, go_to, refuse_if, is_comma, empty_by_comma, holds, key_step, close_or, counted, value_step, fresh_value, child_step, slot_step, mode_step, step, Outcome, taken, refused, at_end, after_step, run, before}
use Rattle.nodes.specs.Nodes.{content_of_key}
use Rattle.nodes.specs.InternalTrees.{AllScalars, AllScalarsIn, KeysAre, Different, NoKeys, ChildKeys, AllKeyed, AllKeyedIn}

-- a value with another end has the same key
stop_key : (m : ℕ) (t : Tree) → (head_of t).key ≡ (head_of (with_stop m t)).key
unfolding with_stop stop_at head_of
stop_key m (leaf h s) = refl
stop_key m (branch h k f) = refl

-- ---- different contents

-- either way round
apart : (a b : List ℕ) → same_bytes a b ≡ false → same_bytes b a ≡ false
apart a b e = by (same_bytes b a) refl
  where
    by : (t : Bool) → same_bytes b a ≡ t → t ≡ false
    by false q = refl
    by true q = absurd (true≢false (same_refl a ∙ ap (same_bytes a) (sym (same_is b a q)) ∙ e))

holds_snoc : (ks : List (List ℕ)) (k w : List ℕ) → holds ks w ≡ false → same_bytes k w ≡ false → holds (ks ++ (k ∷ [])) w ≡ false
unfolding holds
holds_snoc [] k w h e = rw e
holds_snoc (j ∷ ks) k w h e = rw (or_left (same_bytes j w) (holds ks w) h) (holds_snoc ks k w (or_right (same_bytes j w) (holds ks w) h) e)

different_snoc : (ks : List (List ℕ)) (k : List ℕ) → Different ks → holds ks k ≡ false → Different (ks ++ (k ∷ []))
unfolding Different holds
different_snoc [] k d h = (refl, tt)
different_snoc (j ∷ ks) k d h =
    (holds_snoc ks k j d.0 (apart j k (or_left (same_bytes j k) (holds ks k) h)), different_snoc ks k d.1 (or_right (same_bytes j k) (holds ks k) h))

module _ (P : Scalar → Type 0) (sw : Switches) (text : List ℕ) where
  -- ---- what a token brings

  -- P of the value that it begins
  unfoldable pub FedBegins : Begins → Type 0
  FedBegins (container k) = Unit {0}
  FedBegins (scalar s) = P s
  FedBegins identifier = Unit {0}
  FedBegins nothing = Unit {0}

  -- and the content of its span, if it may be a key
  pub record Fed (t : Token) : Type 0 where
    pub value : FedBegins (begins (span_of t) t.form)
    pub key : (k : List ℕ) → key_of t.form ≡ some k → content_of_key sw text (some (span_of t)) ≡ some k

  unfoldable pub FedTokens : Tokens → Type 0
  FedTokens (L.next t ts) = Fed t × FedTokens ts
  FedTokens (L.end place) = Unit {0}
  FedTokens (Tokens.fault number place) = Unit {0}

  -- ---- what a tree then keeps to

  unfoldable pub All : Tree → Type 0
  All t = AllScalars P t × AllKeyed sw text t

  AllIn : Forest → Type 0
  AllIn f = AllScalarsIn P f × AllKeyedIn sw text f

  snoc_all : (f : Forest) (t : Tree) → AllIn f → All t → AllIn (snoc f t)
  unfolding All AllIn AllScalars AllKeyed snoc
  snoc_all nil t a b = ((b.0, tt), (b.1, tt))
  snoc_all (cons u f) t a b =
      let r = snoc_all f t (a.0.1, a.1.1) b in
      ((a.0.0, r.0), (a.1.0, r.1))

  with_stop_law : (m : ℕ) (t : Tree) → All t → All (with_stop m t)
  unfolding All AllScalars AllKeyed with_stop
  with_stop_law m (leaf h s) a = a
  with_stop_law m (branch h k f) a = a

  -- ---- the keys of an open container

  -- the children have the contents of the keys, in order
  keys_snoc : (f : Forest) (t : Tree) (ks : List (List ℕ)) (k : List ℕ) → KeysAre sw text f ks → content_of_key sw text (head_of t).key ≡ some k
      → KeysAre sw text (snoc f t) (ks ++ (k ∷ []))
  unfolding KeysAre snoc
  keys_snoc nil t [] k a e = (e, tt)
  keys_snoc nil t (j ∷ ks) k a e = absurd a
  keys_snoc (cons u f) t [] k a e = absurd a
  keys_snoc (cons u f) t (j ∷ ks) k a e = (a.0, keys_snoc f t ks k a.1 e)

  none_snoc : (f : Forest) (t : Tree) → NoKeys f → (head_of t).key ≡ none → NoKeys (snoc f t)
  unfolding NoKeys snoc
  none_snoc nil t a e = (e, tt)
  none_snoc (cons u f) t a e = (a.0, none_snoc f t a.1 e)

  -- between two children
  Between : Kind → Forest → List (List ℕ) → Type 0
  Between Object f keys = KeysAre sw text f keys × Different keys
  Between Array f keys = NoKeys f
  Between Tuple f keys = NoKeys f

  -- while a child with this key is read, an object's last key is the child's
  record LastKey (f : Forest) (keys : List (List ℕ)) (key : Option Span) : Type 0 where
    earlier : List (List ℕ)
    last : List ℕ
    are : KeysAre sw text f earlier
    is : content_of_key sw text key ≡ some last
    all : keys ≡ earlier ++ (last ∷ [])
    different : Different keys

  Within : Kind → Forest → List (List ℕ) → Option Span → Type 0
  Within Object f keys key = LastKey f keys key
  Within Array f keys key = NoKeys f × (key ≡ none)
  Within Tuple f keys key = NoKeys f × (key ≡ none)

  between_first : (kind : Kind) → Between kind nil []
  unfolding Between KeysAre Different NoKeys
  between_first Object = (tt, tt)
  between_first Array = tt
  between_first Tuple = tt

  -- a child is whole
  within_over : (kind : Kind) (f : Forest) (keys : List (List ℕ)) (t : Tree) → Within kind f keys (head_of t).key → Between kind (snoc f t) keys
  unfolding Within Between
  within_over Object f keys t w =
      (subst (KeysAre sw text (snoc f t)) (sym w.all) (keys_snoc f t w.earlier w.last w.are w.is), w.different)
  within_over Array f keys t w = none_snoc f t w.0 w.1
  within_over Tuple f keys t w = none_snoc f t w.0 w.1

  -- a key is read
  key_within : (kind : Kind) (f : Forest) (keys : List (List ℕ)) (span : Span) (k : List ℕ) → is_object kind ≡ true → Between kind f keys
      → content_of_key sw text (some span) ≡ some k → holds keys k ≡ false → Within kind f (keys ++ (k ∷ [])) (some span)
  unfolding Within Between
  key_within Object f keys span k o b e h =
      record { earlier = keys; last = k; are = b.0; is = e; all = refl; different = different_snoc keys k b.1 h }
  key_within Array f keys span k o b e h = absurd (false≢true o)
  key_within Tuple f keys span k o b e h = absurd (false≢true o)

  -- a child without a key begins
  plain_within : (kind : Kind) (f : Forest) (keys : List (List ℕ)) → is_object kind ≡ false → Between kind f keys → Within kind f keys none
  unfolding Within Between
  plain_within Object f keys o b = absurd (true≢false o)
  plain_within Array f keys o b = (b, refl)
  plain_within Tuple f keys o b = (b, refl)

  -- the container is closed
  between_keyed : (kind : Kind) (f : Forest) (keys : List (List ℕ)) → Between kind f keys → ChildKeys sw text kind f
  unfolding Between ChildKeys
  between_keyed Object f keys b = (keys, b.0, b.1)
  between_keyed Array f keys b = b
  between_keyed Tuple f keys b = b

  -- ---- what a state keeps to

  -- the open containers around a value with this key
  Around : (key : Option Span) → List Frame → Type 0
  Around key [] = key ≡ none
  Around key (f ∷ fs) = Within f.kind f.children f.keys key × AllIn f.children × Around f.label.key fs

  -- the open containers, between two children of the innermost
  Open : List Frame → Type 0
  Open [] = Unit {0}
  Open (f ∷ fs) = Between f.kind f.children f.keys × AllIn f.children × Around f.label.key fs

  Good : List Frame → Mode → Type 0
  Good stack (value any key) = Around key stack
  Good stack (named any l) = Around l.key stack
  Good stack (inner any l) = Around l.key stack
  Good stack (close tree) = All tree × Around (head_of tree).key stack
  Good stack (inside slot) = Open stack
  Good stack (colon key) = Around (some key) stack
  Good stack (done tree) = All tree × ((head_of tree).key ≡ none)

  GoodStep : Step → Type 0
  GoodStep (go c) = Good c.stack c.mode
  GoodStep (refuse k) = Unit {0}

  went : (c : Config) → Good c.stack c.mode → GoodStep (go c)
  unfolding GoodStep
  went c g = g

  no : (k : ℕ) → GoodStep (refuse k)
  unfolding GoodStep
  no k = tt

  refuse_or : (b : Bool) (k : ℕ) (s : Step) → (b ≡ false → GoodStep s) → GoodStep (refuse_if b k s)
  unfolding refuse_if
  refuse_or true k s g = no k
  refuse_or false k s g = g refl

  finished_good : (n : ℕ) (fs : List Frame) (t : Tree) → All t → Around (head_of t).key fs → GoodStep (go (finished fs n t))
  unfolding finished Around Open Good GoodStep
  finished_good n [] t a w = (a, w)
  finished_good n (f ∷ fs) t a w = (within_over f.kind f.children f.keys t w.0, snoc_all f.children t w.1 a, w.2)

  ended_good : (n : ℕ) (fs : List Frame) (name : Option Span) (t : Tree) → All t → Around (head_of t).key fs → GoodStep (go (ended fs n name t))
  unfolding ended Good GoodStep
  ended_good n fs none t a w = finished_good n fs t a w
  ended_good n fs (some s) t a w = (a, w)

  module _ (limits : Limits) (t : Token) (fed : Fed t) where
    value_good : (c : Config) (fresh any : Bool) (l : Label) (b : Begins) → FedBegins b → Around l.key c.stack → GoodStep (value_step limits c fresh any l t b)
    unfolding value_step FedBegins Open Good All AllIn AllScalars AllKeyed head_by head_of
    value_good c fresh any l (container k) h w = refuse_or _ 9 _ (λ _. refuse_or _ 10 _ (λ _. went _ (between_first k, (tt, tt), w)))
    value_good c fresh any l (scalar s) h w =
        refuse_or _ 7 _ (λ _. refuse_or _ 10 _ (λ _. ended_good (counted limits fresh c) c.stack l.name (leaf (head_by l t.stop) s) (h, tt) w))
    value_good c fresh any l identifier h w = refuse_or _ 7 _ (λ _. refuse_or _ 10 _ (λ _. went _ w))
    value_good c fresh any l nothing h w = no 7

    fresh_good : (c : Config) (any : Bool) (key : Option Span) → Around key c.stack → GoodStep (fresh_value limits c any key t)
    unfolding fresh_value
    fresh_good c any key w = value_good c true any _ (begins (span_of t) t.form) fed.value w

    key_good : (f : Frame) (fs : List Frame) (n : ℕ) (k : Option (List ℕ)) → key_of t.form ≡ k → is_object f.kind ≡ true → Open (f ∷ fs)
        → GoodStep (key_step f fs n (span_of t) k)
    unfolding key_step Open Around Good
    key_good f fs n none e o w = no 7
    key_good f fs n (some k) e o w =
        refuse_or (holds f.keys k) 8 _ (λ h. went _ (key_within f.kind f.children f.keys (span_of t) k o w.0 (fed.key k e) h, w.1, w.2))

    plain_good : (c : Config) (f : Frame) (fs : List Frame) → c.stack ≡ f ∷ fs → is_object f.kind ≡ false → Open (f ∷ fs) → GoodStep (fresh_value limits c true none t)
    unfolding Open Around
    plain_good c f fs e o w =
        fresh_good c true none (subst (Around none) (sym e) (plain_within f.kind f.children f.keys o w.0, w.1, w.2))

    child_good : (c : Config) (f : Frame) (fs : List Frame) → c.stack ≡ f ∷ fs → Open (f ∷ fs) → GoodStep (child_step limits c f fs t)
    unfolding child_step
    child_good c f fs e w =
        cond_both GoodStep (is_object f.kind) (λ o. key_good f fs c.nodes (key_of t.form) refl (is_true (is_object f.kind) o) w)
        (λ o. plain_good c f fs e (is_false (is_object f.kind) o) w)

    close_good : (c : Config) (f : Frame) (fs : List Frame) (other : Step) → Open (f ∷ fs) → GoodStep other → GoodStep (close_or c f fs t other)
    unfolding close_or Open All AllIn AllScalars AllKeyed head_by head_of
    close_good c f fs other w g =
        cond_both GoodStep (is_mark (closer f.kind) t.form)
        (λ _. ended_good c.nodes fs f.label.name (branch (head_by f.label t.stop) f.kind f.children)
        (w.1.0, (between_keyed f.kind f.children f.keys w.0, w.1.1)) w.2)
        (λ _. g)

    to_good : (c : Config) (m : Mode) → Good c.stack m → GoodStep (go_to c m)
    to_good c m w = went _ w

    slot_good : (c : Config) (slot : Slot) (fs : List Frame) → c.stack ≡ fs → Open fs → GoodStep (slot_step sw limits c t slot fs)
    unfolding slot_step Good
    slot_good c slot [] e w = no 7
    slot_good c first (f ∷ fs) e w =
        close_good c f fs _ w
        (cond_both GoodStep (is_comma t.form && empty_by_comma sw f.kind) (λ _. to_good c (inside lone) (subst Open (sym e) w)) (λ _. child_good c f fs e w))
    slot_good c lone (f ∷ fs) e w = close_good c f fs (refuse 7) w (no 7)
    slot_good c after (f ∷ fs) e w =
        close_good c f fs _ w (cond_both GoodStep (is_comma t.form) (λ _. to_good c (inside more) (subst Open (sym e) w)) (λ _. no 7))
    slot_good c more (f ∷ fs) e w = close_good c f fs _ w (child_good c f fs e w)

    mode_good : (c : Config) (m : Mode) → Good c.stack m → GoodStep (mode_step sw limits c t m)
    unfolding mode_step Good
    mode_good c (value any key) w = fresh_good c any key w
    mode_good c (named any l) w = cond_both GoodStep (is_mark "(" t.form) (λ _. to_good c (inner any l) w) (λ _. no 7)
    mode_good c (inner any l) w = value_good c false any l (begins (span_of t) t.form) fed.value w
    mode_good c (close tree) w =
        cond_both GoodStep (is_mark ")" t.form)
        (λ _. finished_good c.nodes c.stack (with_stop t.stop tree) (with_stop_law t.stop tree w.0) (subst (λ (o : Option Span). Around o c.stack) (stop_key t.stop tree) w.1))
        (λ _. no 7)
    mode_good c (inside slot) w = slot_good c slot c.stack refl w
    mode_good c (colon key) w = cond_both GoodStep (is_mark ":" t.form) (λ _. to_good c (value true (some key)) w) (λ _. no 7)
    mode_good c (done tree) w = no 7

  -- ---- the whole run

  unfoldable pub OutcomeAll : Outcome → Type 0
  OutcomeAll (taken tree) = All tree
  OutcomeAll (refused number place) = Unit {0}

  end_all : (place : ℕ) (stack : List Frame) (m : Mode) → Good stack m → OutcomeAll (at_end place m)
  unfolding at_end OutcomeAll Good
  end_all place stack (value any key) w = tt
  end_all place stack (named any l) w = tt
  end_all place stack (inner any l) w = tt
  end_all place stack (close tree) w = tt
  end_all place stack (inside slot) w = tt
  end_all place stack (colon key) w = tt
  end_all place stack (done tree) w = w.0

  step_all : (place : ℕ) (s : Step) (rest : Config → Outcome) → GoodStep s → ((c : Config) → Good c.stack c.mode → OutcomeAll (rest c)) → OutcomeAll (after_step place s rest)
  unfolding after_step GoodStep OutcomeAll
  step_all place (go c) rest g k = k c g
  step_all place (refuse number) rest g k = tt

  module _ (limits : Limits) where
    run_by : (ts : Tokens) (c : Config) → FedTokens ts → Good c.stack c.mode → OutcomeAll (run sw limits ts c)
    unfolding run step FedTokens OutcomeAll
    run_by (L.next t ts) c w g =
        step_all t.start (step sw limits c t) (λ d. run sw limits ts d) (mode_good limits t w.0 c c.mode g) (λ d h. run_by ts d w.1 h)
    run_by (L.end place) c w g = end_all place c.stack c.mode g
    run_by (Tokens.fault number place) c w g = tt

    pub run_all : (any : Bool) (ts : Tokens) → FedTokens ts → OutcomeAll (run sw limits ts (before any))
    unfolding before Good Around
    run_all any ts w = run_by ts (before any) w refl
