-- The machine's moves depend on the forms of the tokens, on the kinds, keys and identifiers of what is open, and on the limits; not on places, trees
-- and node counts. So two runs over tokens of the same forms go alike, unless a limit (9, 10) value-refused the second.
-- Assumes nothing.
use mathlib.Core.Path.{◌≡◌, refl, ap, subst}
use Prim.Native.Nat.{ℕ}
use mathlib.Core.Bool.{Bool, true, false, not, ◌&&◌}
use mathlib.Core.Option.{Option, none, some}
use mathlib.Core.List.{List, [], ◌∷◌, ◌++◌}
use lib.Dec.{T}
use Rattle.text.specs.declared.switches.Switches.{Switches}
use Rattle.text.proofs.Choice.{cond-two}
use Rattle.lexer.specs.Token as L
use Rattle.lexer.specs.Token.{Token, Tokens, Form}
use Rattle.lexer.proofs.SeamLaws.{map_token, map_tokens}
use Rattle.reader.specs.Tree.{Span, Scalar, Tree}
use Rattle.reader.specs.declared.tree.Kind.{Kind}
use Rattle.reader.specs.declared.tree.Limits.{Limits}
use Rattle.reader.specs.Syntax.{Label, Frame, Slot, first, lone, after, more, value, named, inner, close, inside, colon, done, Config, config, label, Step, go, refuse, Begins, container, scalar, identifier, nothing, span_of, is_mark, closer, is_object, is_comma, empty_by_comma, key_of, mark_begins, word_begins, begins, with_stop, finished, ended, holds, key_step, close_or, counted, value_step, fresh_value, child_step, slot_step, mode_step, step, Outcome, taken, refused, at_end, after_step, run}
use Rattle.reader.proofs.LimitLaws.{deep, many, Fair, FairIf, Steps, by_limit, by_test}

-- ---- tokens of one form begin alike

data BeginsLike : Begins → Begins → Type 0 where
  cont : {k : Kind} → BeginsLike (container k) (container k)
  scal : {s s' : Scalar} → BeginsLike (scalar s) (scalar s')
  iden : BeginsLike identifier identifier
  noth : BeginsLike nothing nothing

begins_refl : (b : Begins) → BeginsLike b b
begins_refl (container k) = cont
begins_refl (scalar s) = scal
begins_refl identifier = iden
begins_refl nothing = noth

form_begins : (u v : Span) (f : Form) → BeginsLike (begins u f) (begins v f)
unfolding begins
form_begins u v (L.mark b) = begins_refl (mark_begins b)
form_begins u v (L.word s) = begins_refl (word_begins s)
form_begins u v (L.text s) = scal
form_begins u v (L.bytes s) = scal
form_begins u v (L.integer z) = scal
form_begins u v (L.decimal minus m p) = scal

-- ---- configurations alike

unfoldable pub has_name : Option Span → Bool
has_name none = false
has_name (some s) = true

pub record FrameLike (f g : Frame) : Type 0 where
  pub kind : f.kind ≡ g.kind
  pub keys : f.keys ≡ g.keys
  pub name : has_name f.label.name ≡ has_name g.label.name

pub data FramesLike : List Frame → List Frame → Type 0 where
  base : FramesLike [] []
  onto : {f g : Frame} {fs gs : List Frame} → FrameLike f g → FramesLike fs gs → FramesLike (f ∷ fs) (g ∷ gs)

frames_refl : (fs : List Frame) → FramesLike fs fs
frames_refl [] = base
frames_refl (f ∷ fs) = onto (record { kind = refl; keys = refl; name = refl }) (frames_refl fs)

pub data Like : Config → Config → Type 0 where
  on_value : {any : Bool} {key key' : Option Span} {n n' : ℕ} {fs gs : List Frame} → FramesLike fs gs
      → Like (config fs (value any key) n) (config gs (value any key') n')
  on_named : {any : Bool} {l l' : Label} {n n' : ℕ} {fs gs : List Frame} → FramesLike fs gs → has_name l.name ≡ has_name l'.name
      → Like (config fs (named any l) n) (config gs (named any l') n')
  on_inner : {any : Bool} {l l' : Label} {n n' : ℕ} {fs gs : List Frame} → FramesLike fs gs → has_name l.name ≡ has_name l'.name
      → Like (config fs (inner any l) n) (config gs (inner any l') n')
  on_close : {t t' : Tree} {n n' : ℕ} {fs gs : List Frame} → FramesLike fs gs → Like (config fs (close t) n) (config gs (close t') n')
  on_inside : {slot : Slot} {n n' : ℕ} {fs gs : List Frame} → FramesLike fs gs → Like (config fs (inside slot) n) (config gs (inside slot) n')
  on_colon : {k k' : Span} {n n' : ℕ} {fs gs : List Frame} → FramesLike fs gs → Like (config fs (colon k) n) (config gs (colon k') n')
  on_done : {t t' : Tree} {n n' : ℕ} {fs gs : List Frame} → FramesLike fs gs → Like (config fs (done t) n) (config gs (done t') n')

abbrev StepLike : Step → Step → Type 0
StepLike = Steps Like

finished_like : {fs gs : List Frame} (n n' : ℕ) (t t' : Tree) → FramesLike fs gs → Like (finished fs n t) (finished gs n' t')
unfolding finished
finished_like n n' t t' base = on_done base
finished_like n n' t t' (onto h r) = on_inside (onto (record { kind = h.kind; keys = h.keys; name = h.name }) r)

ended_like : {fs gs : List Frame} (n n' : ℕ) (o o' : Option Span) (t t' : Tree) → has_name o ≡ has_name o' → FramesLike fs gs
    → Like (ended fs n o t) (ended gs n' o' t')
unfolding ended has_name
ended_like n n' none none t t' e r = finished_like n n' t t' r
ended_like n n' none (some s) t t' e r = absurd (subst (λ (x : Bool). T (not x)) e tt)
ended_like n n' (some s) none t t' e r = absurd (subst (λ (x : Bool). T x) e tt)
ended_like n n' (some s) (some s') t t' e r = on_close r

-- whole values on the same stack, whatever they are
pub whole_like : (fs : List Frame) (n n' : ℕ) (t t' : Tree) → Like (finished fs n t) (finished fs n' t')
whole_like fs n n' t t' = finished_like n n' t t' (frames_refl fs)

-- ---- one token

module _ (sw : Switches) (limits limits' : Limits) where
  value_like : (c d : Config) (fresh any : Bool) (l l' : Label) (t t' : Token) {b b' : Begins} → FramesLike c.stack d.stack
      → has_name l.name ≡ has_name l'.name → BeginsLike b b' → StepLike (value_step limits c fresh any l t b) (value_step limits' d fresh any l' t' b')
  unfolding value_step Steps has_name
  value_like c d fresh any l l' t t' r e cont =
      by_limit Like _ _ 9 _ _ deep (by_limit Like _ _ 10 _ _ many (on_inside (onto (record { kind = refl; keys = refl; name = e }) r)))
  value_like c d fresh any l l' t t' r e scal =
      by_test Like _ _ 7 _ _ refl (by_limit Like _ _ 10 _ _ many
      (ended_like (counted limits fresh c) (counted limits' fresh d) l.name l'.name _ _ e r))
  value_like c d fresh any l l' t t' r e iden =
      let q : has_name (some (span_of t)) ≡ has_name (some (span_of t')) = refl in
      by_test Like _ _ 7 _ _ refl (by_limit Like _ _ 10 _ _ many
      (on_named {l = label l.start l.key (some (span_of t))} {l' = label l'.start l'.key (some (span_of t'))} r q))
  value_like c d fresh any l l' t t' r e noth = tt

  module _ (t t' : Token) (same : t.form ≡ t'.form) where
    token_begins : BeginsLike (begins (span_of t) t.form) (begins (span_of t') t'.form)
    token_begins = subst (λ (f : Form). BeginsLike (begins (span_of t) t.form) (begins (span_of t') f)) same (form_begins (span_of t) (span_of t') t.form)

    fresh_like : (c d : Config) (any : Bool) (key key' : Option Span) → FramesLike c.stack d.stack
        → StepLike (fresh_value limits c any key t) (fresh_value limits' d any key' t')
    unfolding fresh_value
    fresh_like c d any key key' r = value_like c d true any (label t.start key none) (label t'.start key' none) t t' r refl token_begins

    key_like : (f g : Frame) (fs gs : List Frame) (n n' : ℕ) (u v : Span) (k k' : Option (List ℕ)) → k ≡ k' → FrameLike f g → FramesLike fs gs
        → StepLike (key_step f fs n u k) (key_step g gs n' v k')
    unfolding Steps key_step
    key_like f g fs gs n n' u v k k' e h r = subst (λ (x : Option (List ℕ)). StepLike (key_step f fs n u k) (key_step g gs n' v x)) e (on k)
      where
        on : (j : Option (List ℕ)) → StepLike (key_step f fs n u j) (key_step g gs n' v j)
        on none = tt
        on (some j) =
            by_test Like (holds f.keys j) (holds g.keys j) 8 _ _ (ap (λ (x : List (List ℕ)). holds x j) h.keys)
            (on_colon (onto (record { kind = h.kind; keys = ap (λ (x : List (List ℕ)). x ++ (j ∷ [])) h.keys; name = h.name }) r))

    close_like : (c d : Config) (f g : Frame) (fs gs : List Frame) (s s' : Step) → FrameLike f g → FramesLike fs gs → StepLike s s'
        → StepLike (close_or c f fs t s) (close_or d g gs t' s')
    unfolding close_or Steps
    close_like c d f g fs gs s s' h r k =
        cond-two StepLike (is_mark (closer f.kind) t.form) (is_mark (closer g.kind) t'.form) (λ i. is_mark (closer (h.kind i)) (same i))
        (ended_like c.nodes d.nodes f.label.name g.label.name _ _ h.name r) k

    child_like : (c d : Config) (f g : Frame) (fs gs : List Frame) → FrameLike f g → FramesLike fs gs → FramesLike c.stack d.stack
        → StepLike (child_step limits c f fs t) (child_step limits' d g gs t')
    unfolding child_step
    child_like c d f g fs gs h r q =
        cond-two StepLike (is_object f.kind) (is_object g.kind) (λ i. is_object (h.kind i))
        (key_like f g fs gs c.nodes d.nodes (span_of t) (span_of t') (key_of t.form) (key_of t'.form) (λ i. key_of (same i)) h r)
        (fresh_like c d true none none q)

    slot_like : (c d : Config) (slot : Slot) {fs gs : List Frame} → FramesLike fs gs → FramesLike c.stack d.stack
        → StepLike (slot_step sw limits c t slot fs) (slot_step sw limits' d t' slot gs)
    unfolding slot_step Steps
    slot_like c d slot base q = tt
    slot_like c d first (onto {f = f} {g = g} {fs = fs} {gs = gs} h r) q =
        close_like c d f g fs gs _ _ h r
        (cond-two StepLike (is_comma t.form && empty_by_comma sw f.kind) (is_comma t'.form && empty_by_comma sw g.kind)
        (λ i. is_comma (same i) && empty_by_comma sw (h.kind i)) (on_inside q) (child_like c d f g fs gs h r q))
    slot_like c d lone (onto {f = f} {g = g} {fs = fs} {gs = gs} h r) q = close_like c d f g fs gs (refuse 7) (refuse 7) h r tt
    slot_like c d after (onto {f = f} {g = g} {fs = fs} {gs = gs} h r) q =
        close_like c d f g fs gs _ _ h r (cond-two StepLike (is_comma t.form) (is_comma t'.form) (λ i. is_comma (same i)) (on_inside q) tt)
    slot_like c d more (onto {f = f} {g = g} {fs = fs} {gs = gs} h r) q = close_like c d f g fs gs _ _ h r (child_like c d f g fs gs h r q)

    step_like : {c d : Config} → Like c d → StepLike (step sw limits c t) (step sw limits' d t')
    unfolding step mode_step Steps
    step_like (on_value {any = any} {key = key} {key' = key'} {n = n} {n' = n'} {fs = fs} {gs = gs} r) =
        fresh_like (config fs (value any key) n) (config gs (value any key') n') any key key' r
    step_like (on_named r e) = cond-two StepLike (is_mark "(" t.form) (is_mark "(" t'.form) (λ i. is_mark "(" (same i)) (on_inner r e) tt
    step_like (on_inner {any = any} {l = l} {l' = l'} {n = n} {n' = n'} {fs = fs} {gs = gs} r e) =
        value_like (config fs (inner any l) n) (config gs (inner any l') n') false any l l' t t' r e token_begins
    step_like (on_close {t = u} {t' = u'} {n = n} {n' = n'} r) =
        cond-two StepLike (is_mark ")" t.form) (is_mark ")" t'.form) (λ i. is_mark ")" (same i))
        (finished_like n n' (with_stop t.stop u) (with_stop t'.stop u') r) tt
    step_like (on_inside {slot = slot} {n = n} {n' = n'} {fs = fs} {gs = gs} r) = slot_like (config fs (inside slot) n) (config gs (inside slot) n') slot r r
    step_like (on_colon r) = cond-two StepLike (is_mark ":" t.form) (is_mark ":" t'.form) (λ i. is_mark ":" (same i)) (on_value r) tt
    step_like (on_done r) = tt

  -- ---- whole runs

  end_like : (p p' : ℕ) {c d : Config} → Like c d → FairIf (at_end p c.mode) (at_end p' d.mode)
  unfolding at_end FairIf Fair
  end_like p p' (on_value r) = tt
  end_like p p' (on_named r e) = tt
  end_like p p' (on_inner r e) = tt
  end_like p p' (on_close r) = tt
  end_like p p' (on_inside r) = tt
  end_like p p' (on_colon r) = tt
  end_like p p' (on_done r) = tt

  after_like : (p p' : ℕ) (s s' : Step) (k k' : Config → Outcome) → StepLike s s'
      → ((c d : Config) → Like c d → FairIf (k c) (k' d)) → FairIf (after_step p s k) (after_step p' s' k')
  unfolding after_step Steps FairIf Fair
  after_like p p' (go c) (go d) k k' h f = f c d h
  after_like p p' (go c) (refuse j) k k' h f = limit (k c)
    where
      limit : (o : Outcome) → FairIf o (refused j p')
      limit (taken t) = h
      limit (refused i q) = tt
  after_like p p' (refuse i) s' k k' h f = tt

  -- the same tokens at whatever places
  pub run_like : (φ ψ φ' ψ' : ℕ → ℕ) (ts : Tokens) {c d : Config} → Like c d
      → FairIf (run sw limits (map_tokens φ ψ ts) c) (run sw limits' (map_tokens φ' ψ' ts) d)
  unfolding run map_tokens map_token FairIf
  run_like φ ψ φ' ψ' (L.next t ts) {c} {d} l =
      after_like (φ t.start) (φ' t.start) (step sw limits c (map_token φ ψ t)) (step sw limits' d (map_token φ' ψ' t))
      (λ e. run sw limits (map_tokens φ ψ ts) e) (λ e. run sw limits' (map_tokens φ' ψ' ts) e)
      (step_like (map_token φ ψ t) (map_token φ' ψ' t) refl l) (λ e g h. run_like φ ψ φ' ψ' ts h)
  run_like φ ψ φ' ψ' (L.end p) l = end_like (φ p) (φ' p) l
  run_like φ ψ φ' ψ' (Tokens.fault k p) l = tt
