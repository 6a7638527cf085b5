-- What stands before and behind a value: before it a mark or a gap, behind it a mark, a gap or the end. So other bytes may stand in a value's
-- place if they end as a value does.
-- Assumes nothing.
use mathlib.Core.Path.{◌≡◌, refl, sym, ap, ◌∙◌, subst}
use Prim.Native.Nat.{ℕ, suc, ◌+◌, ◌≤◌}
use Prim.Native.Char.{Char}
use native.Mathlib.Omega.{arith}
use mathlib.Core.Bool.{Bool, true, false, ◌&&◌, true≢false}
use mathlib.Core.Option.{Option, none, some}
use mathlib.Core.List.{List, [], ◌∷◌}
use lib.Dec.{T}
use lib.ListN.{length, length-append}
use Rattle.text.specs.declared.switches.Switches.{Switches}
use Rattle.text.specs.Bytes.{ascii, same_bytes}
use Rattle.text.proofs.Choice.{cond_both}
use Rattle.text.proofs.Utf8Join.{AsciiHead}
use Rattle.lexer.specs.Closing.{not_newline}
use Rattle.lexer.specs.Token as L
use Rattle.lexer.specs.Token.{Token, Tokens, Form, Item, item, cut}
use Rattle.lexer.proofs.Seams.{EndsAt, heads, goes_on, ItemSeam, FormSeam, form_ends}
use Rattle.lexer.proofs.FirstLaws.{SolidForm, Solid, solid, item_ascii}
use Rattle.lexer.proofs.SeamLaws.{cut_token, cut_took, cut_fault, split_token}
use Rattle.lexer.proofs.WalkLaws.{here, past, took, Follows}
use Rattle.reader.specs.Tree.{Span, Tree, leaf, branch, head_of}
use Rattle.reader.specs.declared.tree.Limits.{Limits}
use Rattle.reader.specs.Syntax.{Label, Frame, Slot, first, lone, after, more, Mode, value, named, inner, close, inside, colon, done, Config, label, Step, go, refuse, Begins, container, scalar, identifier, nothing, span_of, is_mark, closer, is_object, is_comma, empty_by_comma, key_of, mark_begins, opens_with_capital, word_begins, begins, head_by, with_stop, finished, ended, refuse_if, key_step, close_or, counted, value_step, fresh_value, child_step, slot_step, mode_step, step, taken, refused, after_step, run, before}
use Rattle.reader.proofs.StopLaws.{stops_stop}
use Rattle.reader.proofs.StepRun.{after_step_law}
use Rattle.reader.proofs.PathLaws.{Moves, Path}

-- ---- what a token leaves behind

-- where a value may come
unfoldable pub MayCome : Mode → Type 0
MayCome (value any key) = Unit {0}
MayCome (named any l) = ⊥
MayCome (inner any l) = ⊥
MayCome (close t) = ⊥
MayCome (inside first) = Unit {0}
MayCome (inside lone) = ⊥
MayCome (inside after) = ⊥
MayCome (inside more) = Unit {0}
MayCome (colon k) = ⊥
MayCome (done t) = ⊥

unfoldable IsMark : Form → Type 0
IsMark (L.mark b) = Unit {0}
IsMark (L.word s) = ⊥
IsMark (L.text s) = ⊥
IsMark (L.bytes s) = ⊥
IsMark (L.integer z) = ⊥
IsMark (L.decimal minus m p) = ⊥

is_mark_law : (c : Char) (f : Form) → T (is_mark c f) → IsMark f
unfolding IsMark is_mark
is_mark_law c (L.mark b) t = tt
is_mark_law c (L.word s) t = t
is_mark_law c (L.text s) t = t
is_mark_law c (L.bytes s) t = t
is_mark_law c (L.integer z) t = t
is_mark_law c (L.decimal minus m p) t = t

unfoldable StopsAt : ℕ → Mode → Type 0
StopsAt n (value any key) = Unit {0}
StopsAt n (named any l) = Unit {0}
StopsAt n (inner any l) = Unit {0}
StopsAt n (close t) = Unit {0}
StopsAt n (inside slot) = Unit {0}
StopsAt n (colon k) = Unit {0}
StopsAt n (done t) = (head_of t).value.stop ≡ n

-- a value may come only after a mark, and the whole ends with the last token
unfoldable After : Token → Step → Type 0
After t (go d) = (MayCome d.mode → IsMark t.form) × StopsAt t.stop d.mode
After t (refuse k) = Unit {0}

MarkIf : Form → Begins → Type 0
MarkIf f (container k) = IsMark f
MarkIf f (scalar s) = Unit {0}
MarkIf f identifier = Unit {0}
MarkIf f nothing = Unit {0}

mark_if : (b : ℕ) (x : Begins) → MarkIf (L.mark b) x
unfolding MarkIf IsMark
mark_if b (container k) = tt
mark_if b (scalar s) = tt
mark_if b identifier = tt
mark_if b nothing = tt

begins_mark : (u : Span) (f : Form) → MarkIf f (begins u f)
unfolding begins MarkIf word_begins
begins_mark u (L.mark b) = mark_if b (mark_begins b)
begins_mark u (L.word s) =
    cond_both (MarkIf (L.word s)) (same_bytes s (ascii "true")) (λ _. tt)
    (λ _. cond_both (MarkIf (L.word s)) (same_bytes s (ascii "false")) (λ _. tt)
    (λ _. cond_both (MarkIf (L.word s)) (same_bytes s (ascii "null")) (λ _. tt)
    (λ _. cond_both (MarkIf (L.word s)) (opens_with_capital s) (λ _. tt) (λ _. tt))))
begins_mark u (L.text s) = tt
begins_mark u (L.bytes s) = tt
begins_mark u (L.integer z) = tt
begins_mark u (L.decimal minus m p) = tt

module _ (sw : Switches) (limits : Limits) (t : Token) where
  after_or : (b : Bool) (k : ℕ) (s : Step) → After t s → After t (refuse_if b k s)
  unfolding refuse_if After
  after_or true k s h = tt
  after_or false k s h = h

  finished_after : (fs : List Frame) (n : ℕ) (u : Tree) → (head_of u).value.stop ≡ t.stop → After t (go (finished fs n u))
  unfolding finished After MayCome StopsAt
  finished_after [] n u e = (λ r. absurd r, e)
  finished_after (f ∷ fs) n u e = (λ r. absurd r, tt)

  ended_after : (fs : List Frame) (n : ℕ) (o : Option Span) (u : Tree) → (head_of u).value.stop ≡ t.stop → After t (go (ended fs n o u))
  unfolding ended After MayCome StopsAt
  ended_after fs n none u e = finished_after fs n u e
  ended_after fs n (some s) u e = (λ r. absurd r, tt)

  value_after : (c : Config) (fresh any : Bool) (l : Label) (b : Begins) → MarkIf t.form b → After t (value_step limits c fresh any l t b)
  unfolding value_step After MayCome StopsAt MarkIf head_of head_by
  value_after c fresh any l (container k) m = after_or _ 9 _ (after_or _ 10 _ (λ _. m, tt))
  value_after c fresh any l (scalar s) m =
      after_or _ 7 _ (after_or _ 10 _ (ended_after c.stack (counted limits fresh c) l.name (leaf (head_by l t.stop) s) refl))
  value_after c fresh any l identifier m = after_or _ 7 _ (after_or _ 10 _ (λ r. absurd r, tt))
  value_after c fresh any l nothing m = tt

  fresh_after : (c : Config) (any : Bool) (key : Option Span) → After t (fresh_value limits c any key t)
  unfolding fresh_value
  fresh_after c any key = value_after c true any (label t.start key none) (begins (span_of t) t.form) (begins_mark (span_of t) t.form)

  key_after : (f : Frame) (fs : List Frame) (n : ℕ) (u : Span) (k : Option (List ℕ)) → After t (key_step f fs n u k)
  unfolding key_step After MayCome StopsAt
  key_after f fs n u none = tt
  key_after f fs n u (some k) = after_or _ 8 _ (λ r. absurd r, tt)

  child_after : (c : Config) (f : Frame) (fs : List Frame) → After t (child_step limits c f fs t)
  unfolding child_step
  child_after c f fs = cond_both (After t) (is_object f.kind) (λ _. key_after f fs c.nodes (span_of t) (key_of t.form)) (λ _. fresh_after c true none)

  close_after : (c : Config) (f : Frame) (fs : List Frame) (s : Step) → After t s → After t (close_or c f fs t s)
  unfolding close_or head_of head_by
  close_after c f fs s h =
      cond_both (After t) (is_mark (closer f.kind) t.form)
      (λ _. ended_after fs c.nodes f.label.name (branch (head_by f.label t.stop) f.kind f.children) refl) (λ _. h)

  slot_after : (c : Config) (slot : Slot) (fs : List Frame) → After t (slot_step sw limits c t slot fs)
  unfolding slot_step After MayCome StopsAt
  slot_after c slot [] = tt
  slot_after c first (f ∷ fs) =
      close_after c f fs _ (cond_both (After t) (is_comma t.form && empty_by_comma sw f.kind) (λ _. (λ r. absurd r, tt)) (λ _. child_after c f fs))
  slot_after c lone (f ∷ fs) = close_after c f fs (refuse 7) tt
  slot_after c after (f ∷ fs) = close_after c f fs _ (cond_both (After t) (is_comma t.form) (λ h. (λ _. is_mark_law "," t.form h, tt)) (λ _. tt))
  slot_after c more (f ∷ fs) = close_after c f fs _ (child_after c f fs)

  mode_after : (c : Config) (m : Mode) → After t (mode_step sw limits c t m)
  unfolding mode_step After MayCome StopsAt
  mode_after c (value any key) = fresh_after c any key
  mode_after c (named any l) = cond_both (After t) (is_mark "(" t.form) (λ _. (λ r. absurd r, tt)) (λ _. tt)
  mode_after c (inner any l) = value_after c false any l (begins (span_of t) t.form) (begins_mark (span_of t) t.form)
  mode_after c (close u) =
      cond_both (After t) (is_mark ")" t.form) (λ _. finished_after c.stack c.nodes (with_stop t.stop u) (stops_stop t.stop u)) (λ _. tt)
  mode_after c (inside slot) = slot_after c slot c.stack
  mode_after c (colon k) = cond_both (After t) (is_mark ":" t.form) (λ h. (λ _. is_mark_law ":" t.form h, tt)) (λ _. tt)
  mode_after c (done u) = tt

  step_after : (c d : Config) → step sw limits c t ≡ go d → After t (go d)
  unfolding step
  step_after c d e = subst (After t) e (mode_after c c.mode)

-- ---- before a value

mark_seam : (f : Form) (z z' : List ℕ) → IsMark f → FormSeam f z z'
unfolding IsMark FormSeam
mark_seam (L.mark b) z z' m = tt
mark_seam (L.word s) z z' m = absurd m
mark_seam (L.text s) z z' m = absurd m
mark_seam (L.bytes s) z z' m = absurd m
mark_seam (L.integer i) z z' m = absurd m
mark_seam (L.decimal minus n p) z z' m = absurd m

module _ (sw : Switches) (limits : Limits) (from : ℕ) (c₀ : Config) where
  -- where a value begins anything may stand: only marks, spaces and block comments go before it
  pub ready_follows : {pre z : List ℕ} {c : Config} (p : Path sw limits from c₀ pre z c) (z' : List ℕ) → MayCome c.mode → heads not_newline z ≡ true
      → Follows sw (Moves sw limits) from c₀ p z'
  unfolding Follows ItemSeam After
  ready_follows here z' r h = tt
  ready_follows (past pre b x {z = z} p e) z' r h = λ _ k. absurd (true≢false (sym h ∙ k))
  ready_follows (took pre b x form {z = z} {s = c} {t = d} p e s) z' r h =
      mark_seam form z z' ((step_after sw limits (cut_token form (from + length pre) (length x)) c d s).0 r)

-- ---- behind a value

solid_mark : (c : Char) (f : Form) → SolidForm f → is_mark c f ≡ false
unfolding SolidForm is_mark
solid_mark c (L.mark b) h = absurd h
solid_mark c (L.word s) h = refl
solid_mark c (L.text s) h = refl
solid_mark c (L.bytes s) h = refl
solid_mark c (L.integer i) h = refl
solid_mark c (L.decimal minus n p) h = refl

module _ (sw : Switches) (limits : Limits) where
  solid_refused : (S : List Frame) (n : ℕ) (u : Tree) (t : Token) → SolidForm t.form → step sw limits (finished S n u) t ≡ refuse 7
  unfolding finished step mode_step
  solid_refused [] n u t h = refl
  solid_refused (f ∷ fs) n u t h =
      after_step_law sw limits f.kind f.label _ f.keys fs n t (solid_mark (closer f.kind) t.form h) (solid_mark "," t.form h)

  -- what follows a whole value in a taken text: the end, or a byte of a gap or a mark
  pub ends_behind : (at : ℕ) (S : List Frame) (n : ℕ) (u tree : Tree) (z : List ℕ) → run sw limits (cut sw 0 at z) (finished S n u) ≡ taken tree
      → (heads goes_on z ≡ false) × AsciiHead z
  unfolding heads AsciiHead run after_step EndsAt Solid
  ends_behind at S n u tree [] h = (refl, tt)
  ends_behind at S n u tree (b ∷ z) h = (on_test (goes_on b) refl, on_item (item sw b z) refl)
    where
      no_fault : (k : ℕ) → item sw b z ≡ Item.fault k → ⊥
      no_fault k e =
          let q : refused k at ≡ taken tree = sym (ap (λ (ts : Tokens). run sw limits ts (finished S n u)) (cut_fault sw at b z k e)) ∙ h in
          let w : ◌≡◌ {A = ℕ} 0 1 = cc in
          omega arith

      no_solid : (form : Form) (k : ℕ) → item sw b z ≡ L.token form k → SolidForm form → ⊥
      no_solid form k e sf =
          let w = split_token sw b z form k e in
          let t : Token = cut_token form at (length w.own) in
          let a : cut sw 0 at (b ∷ z) ≡ L.next t (cut sw 0 (at + suc (length w.own)) w.rest) =
          ap (λ (l : List ℕ). cut sw 0 at (b ∷ l)) (sym w.joined) ∙ cut_took sw at b w.own w.rest form w.it in
          let q : refused 7 at ≡ taken tree =
          sym (ap (λ (x : Step). after_step at x (λ d. run sw limits (cut sw 0 (at + suc (length w.own)) w.rest) d)) (solid_refused S n u t sf))
          ∙ sym (ap (λ (ts : Tokens). run sw limits ts (finished S n u)) a) ∙ h in
          let y : ◌≡◌ {A = ℕ} 0 1 = cc in
          omega arith

      on_item : (i : Item) → item sw b z ≡ i → b ≤ 127
      on_item (L.gap k) e = item_ascii sw k b z (subst (EndsAt k) (sym e) refl)
      on_item (L.token form k) e = item_ascii sw k b z (subst (EndsAt k) (sym e) refl)
      on_item (Item.fault k) e = absurd (no_fault k e)

      none_solid : (i : Item) → item sw b z ≡ i → Solid i → ⊥
      none_solid (L.gap k) e x = x
      none_solid (L.token form k) e x = no_solid form k e x
      none_solid (Item.fault k) e x = no_fault k e

      on_test : (x : Bool) → goes_on b ≡ x → goes_on b ≡ false
      on_test true e = absurd (none_solid (item sw b z) refl (solid sw b z e))
      on_test false e = e

-- ---- where a value that is read alone ends

-- by the last byte
stop_by : (sw : Switches) (limits : Limits) (from : ℕ) (any : Bool) (u : Tree) {pre z : List ℕ} {c : Config}
    → Path sw limits from (before any) pre z c → c.mode ≡ done u → (head_of u).value.stop ≤ from + length pre
unfolding before After StopsAt
stop_by sw limits from any u here e = let q : ◌≡◌ {A = ℕ} 0 1 = cc in absurd (omega arith)
stop_by sw limits from any u (past pre b x p i) e =
    let h = stop_by sw limits from any u p e in
    let l = length-append pre (b ∷ x) in
    omega arith
stop_by sw limits from any u (took pre b x form {s = c} {t = d} p i k) e =
    let w = (step_after sw limits (cut_token form (from + length pre) (length x)) c d k).1 in
    let v : (head_of u).value.stop ≡ from + length pre + suc (length x) = subst (StopsAt (from + length pre + suc (length x))) e w in
    let l = length-append pre (b ∷ x) in
    omega arith

-- one that ends with the last byte may stand before what ends words and numbers
pub value_follows : (sw : Switches) (limits : Limits) (any : Bool) (u : Tree) {pre z : List ℕ} {c : Config} (p : Path sw limits 0 (before any) pre z c)
    (z' : List ℕ) → c.mode ≡ done u → (head_of u).value.stop ≡ length pre → heads goes_on z' ≡ false
    → Follows sw (Moves sw limits) 0 (before any) p z'
unfolding Follows
value_follows sw limits any u here z' e k h = tt
value_follows sw limits any u (past pre b x p i) z' e k h =
    let w = stop_by sw limits 0 any u p e in
    let l = length-append pre (b ∷ x) in
    absurd (omega arith)
value_follows sw limits any u (took pre b x form {z = z} p i q) z' e k h = form_ends form z z' h
