-- What the functions of src/items.rt have found, one law for each way out.
-- Assumes nothing.
use Rattle.std.specs.Prelude.{Ok, Err}
use mathlib.Core.Path.{◌≡◌, refl, sym, ap, ◌∙◌, subst}
use Prim.Native.Nat.{ℕ, suc, ◌-◌, ◌≤◌, ◌<◌}
use native.Mathlib.Omega.{arith}
use mathlib.Core.Bool.{Bool, true, false, cond, ◌&&◌, false≢true}
use mathlib.Core.Option.{Option, none, some}
use mathlib.Core.List.{List, [], ◌∷◌, ◌++◌}
use lib.Dec.{eqb}
use lib.ListN.{length, take, drop}
use borrow.Author.Tests.{eq-eqb, ne_eqb}
use Rattle.text.specs.declared.switches.Switches.{Switches}
use Rattle.lexer.specs.declared.item.TokenKind.{TokenKind}
use Rattle.lexer.specs.Token as L
use Rattle.lexer.specs.Token.{Form, token_content, key_content}
use Rattle.lexer.specs.Answer.{kind_of}
use Rattle.lexer.proofs.AloneLaws.{token_alone}
use Rattle.lexer.specs.Internal.{is_key}
use Rattle.reader.specs.declared.tree.Kind.{Kind}
use Rattle.reader.specs.declared.tree.Kind.TheVariants.{Object}
use Rattle.reader.specs.declared.tree.Limits.{Limits}
use Rattle.text.specs.Refusal.{Refusal, refusal}
use Rattle.text.specs.declared.span.Span as CS
use Rattle.lexer.specs.declared.item.Token as CT
use Rattle.std.specs.declared.result.Result.{Result}
use Rattle.reader.specs.declared.items.After.{After}
use Rattle.reader.specs.declared.items.After.TheVariants as X
use Rattle.reader.specs.declared.items.Item.{Item}
use Rattle.reader.specs.declared.items.Item.TheVariants as I
use Rattle.reader.specs.Tree.{Span, branch, Forest}
use Rattle.reader.specs.Reading.{max_text}
use Rattle.reader.specs.Syntax.{Label, Frame, frame, Slot, lone, after, more, value, inside, colon, Config, config, Step, go, span_of, is_mark, is_object, closer, key_of, head_by, ended, refuse_if, holds, key_step, empty_by_comma, child_step, mode_step, step, Outcome, refused, after_step, at_end}
use Rattle.reader.specs.Internal.Tokens.{form_at, token_at, TokenAt}
use Rattle.reader.specs.Internal.Values
use Rattle.reader.specs.Internal.Ahead.{mark_is, closer_byte, ahead_at, only_at, ahead_after, follows_by, follows_at}
use Rattle.reader.specs.Internal.Values.{span_at, run_from, opened_here, KeyHere, key_duplicate, unless_duplicate, slot_of, turn_of, inner_at, Valued, Ends, Refuses, RefusesAfter, ItemIs, FieldAt, ChildAt}
use Rattle.reader.proofs.StepRun.{Peeked, Marked, Wants, NotMarked, not_mark, peek_run, peek_go, peek_refuse, mark_go, is_mark_law, ahead_token, ahead_refuses, only_at_law, only_not, past_token, past_refuses, closer_mark, close_step, comma_step, after_step_law, lone_step, lone_wants, child_step_law, value_opens, child_opens, item_closes}

-- where there are no keys, none is a duplicate
no_duplicate : (kind : Kind) (a : ℕ) (ks : List (List ℕ)) (w : List ℕ) (o : Outcome) → is_object kind ≡ false → o ≡ unless_duplicate (key_duplicate kind a ks w) o
unfolding unless_duplicate key_duplicate
no_duplicate kind a ks w o e = rw e refl

refuse_unless : (b : Bool) (a : ℕ) (d : Config) (f : Config → Outcome) → after_step a (refuse_if b 8 (go d)) f ≡ unless_duplicate (cond b (some a) none) (f d)
unfolding after_step refuse_if unless_duplicate
refuse_unless true a d f = refl
refuse_unless false a d f = refl

and_first : (a b : Bool) → (a && b) ≡ true → a ≡ true
and_first true b e = refl
and_first false b e = e

and_second : (a b : Bool) → (a && b) ≡ true → b ≡ true
and_second true b e = e
and_second false b e = absurd (false≢true e)

and_false : (a : Bool) → (a && false) ≡ false
and_false true = refl
and_false false = refl

-- ---- one mark, as it was told

module _ {sw : Switches} {s : List ℕ} {from want : ℕ} {r : Result ℕ Refusal} where
  pub mark_at : {stop : ℕ} → from ≤ length s → r ≡ Result.Ok stop → r ≡ only_at sw s from want → Marked sw s from want stop
  mark_at {stop} h e q = only_at_law sw s from want h stop (sym q ∙ e)

  pub mark_refused : {f : Refusal} → from ≤ length s → r ≡ Result.Err f → r ≡ only_at sw s from want → NotMarked sw s from want f.number f.place
  mark_refused {f} h e q = only_not sw s from want h f (sym q ∙ e)

-- ---- the end, or no token

pub item_last : (sw : Switches) (s : List ℕ) (kind : Kind) (i : ℕ) (slot : Slot) (k : TokenKind) (start stop : ℕ) → Peeked sw s i k start stop → mark_is k (closer_byte kind) ≡ true
    → Ends sw s kind i slot stop
item_last sw s kind i slot k start stop p e =
    let t = p.token in
    let h = p.ahead in
    record {
      ahead = omega arith;
      inside = t.inside;
      ran = λ limits l ts ks stack m. item_closes sw limits s i k start stop p kind l ts ks stack m slot (is_mark_law sw s k start stop t (closer kind) true e);
    }

pub item_none : (sw : Switches) (s : List ℕ) (kind : Kind) (i : ℕ) (slot : Slot) (f : Refusal) → ahead_at sw s i ≡ Err f
    → Refuses sw s kind i slot f.number f.place
unfolding at_end
item_none sw s kind i slot f e = record { ran = λ limits l ts ks stack m. ahead_refuses sw s i f e limits (inner_at kind l ts ks stack m slot) (λ place. refl) }

-- ---- arrays and tuples

module _ (sw : Switches) (s : List ℕ) (kind : Kind) (i z : ℕ) (k : TokenKind) (start stop : ℕ) (p : Peeked sw s i k start stop) where
  lone_run : mark_is k (closer_byte kind) ≡ false → (eqb z 0 && (mark_is k 44 && empty_by_comma sw kind)) ≡ true
      → (limits : Limits) (l : Label) (ts : Forest) (ks : List (List ℕ)) (stack : List Frame) (m : ℕ)
      → run_from sw limits s i (inner_at kind l ts ks stack m (slot_of z)) ≡ run_from sw limits s stop (config (frame kind l ts ks ∷ stack) (inside lone) m)
  lone_run e f limits l ts ks stack m =
      peek_go sw limits s i (inner_at kind l ts ks stack m (slot_of z)) k start stop (config (frame kind l ts ks ∷ stack) (inside lone) m) p
      (lone_step sw limits kind l ts ks stack m (token_at sw s start stop) z (is_mark_law sw s k start stop p.token (closer kind) false e)
      (is_mark_law sw s k start stop p.token "," true (and_first (mark_is k 44) (empty_by_comma sw kind) (and_second (eqb z 0) (mark_is k 44 && empty_by_comma sw kind) f)))
      (and_second (mark_is k 44) (empty_by_comma sw kind) (and_second (eqb z 0) (mark_is k 44 && empty_by_comma sw kind) f))
      (and_first (eqb z 0) (mark_is k 44 && empty_by_comma sw kind) f))

  pub item_lone : mark_is k (closer_byte kind) ≡ false → (eqb z 0 && (mark_is k 44 && empty_by_comma sw kind)) ≡ true → (j : ℕ) → Marked sw s stop (closer_byte kind) j
      → Ends sw s kind i (slot_of z) j
  item_lone e f j q =
      let t = p.token in
      let h = p.ahead in
      record {
        ahead = omega arith;
        inside = q.inside;
        ran =
            λ limits l ts ks stack m.
            lone_run e f limits l ts ks stack m
            ∙ mark_go sw limits s stop (config (frame kind l ts ks ∷ stack) (inside lone) m) (closer_byte kind) j (ended stack m l.name (branch (head_by l j) kind ts)) q
            (close_step sw limits kind l ts ks stack m (record { form = L.mark (closer_byte kind); start = q.start; stop = j }) (closer_mark kind) lone);
      }

  pub item_lone_not : mark_is k (closer_byte kind) ≡ false → (eqb z 0 && (mark_is k 44 && empty_by_comma sw kind)) ≡ true → (number place : ℕ)
      → NotMarked sw s stop (closer_byte kind) number place → Refuses sw s kind i (slot_of z) number place
  item_lone_not e f number place q =
      record {
        ran =
            λ limits l ts ks stack m.
            lone_run e f limits l ts ks stack m
            ∙ q.ran limits (config (frame kind l ts ks ∷ stack) (inside lone) m) (lone_wants sw limits kind l ts ks stack m);
      }

  pub item_value : is_object kind ≡ false → mark_is k (closer_byte kind) ≡ false → (eqb z 0 && (mark_is k 44 && empty_by_comma sw kind)) ≡ false
      → Valued sw s kind i (slot_of z) k start stop 0 0
  unfolding span_at
  item_value o e f =
      record {
        token = p.token;
        ahead = p.ahead;
        apart = λ q. refl;
        short = (omega arith, omega arith);
        content = [];
        key = λ q. absurd (false≢true (sym o ∙ q));
        keys = λ ks. ks;
        added = λ q. absurd (false≢true (sym o ∙ q));
        ran =
            λ limits l ts ks stack m.
            child_opens sw limits s i k start stop p kind l ts ks stack m z o (is_mark_law sw s k start stop p.token (closer kind) false e)
            (ap (λ (b : Bool). eqb z 0 && (b && empty_by_comma sw kind)) (is_mark_law sw s k start stop p.token "," (mark_is k 44) refl) ∙ f)
            ∙ no_duplicate kind 0 ks [] _ o;
      }

-- ---- after a child

-- a comma
pub record Follows (sw : Switches) (s : List ℕ) (kind : Kind) (i j : ℕ) : Type 0 where
  pub ahead : i < j
  pub within : j ≤ length s
  pub ran : (limits : Limits) (l : Label) (ts : Forest) (ks : List (List ℕ)) (stack : List Frame) (m : ℕ)
      → run_from sw limits s i (inner_at kind l ts ks stack m after) ≡ run_from sw limits s j (inner_at kind l ts ks stack m more)

-- a comma, the end or a refusal, by the code's answer
abbrev pub NextIs : Switches → List ℕ → Kind → (i : ℕ) → Result After Refusal → Type 0
NextIs sw s kind i (Ok (X.More j)) = Follows sw s kind i j
NextIs sw s kind i (Ok (X.Over j)) = Ends sw s kind i after j
NextIs sw s kind i (Err f) = Refuses sw s kind i after f.number f.place

module _ (sw : Switches) (s : List ℕ) (kind : Kind) (i : ℕ) where
  module _ (k : TokenKind) (start stop : ℕ) (p : Peeked sw s i k start stop) where
    after_comma : mark_is k (closer_byte kind) ≡ false → mark_is k 44 ≡ true → Follows sw s kind i stop
    after_comma e f =
        let t = p.token in
        let h = p.ahead in
        record {
          ahead = omega arith;
          within = t.inside;
          ran =
              λ limits l ts ks stack m.
              peek_go sw limits s i (inner_at kind l ts ks stack m after) k start stop (inner_at kind l ts ks stack m more) p
              (comma_step sw limits kind l ts ks stack m (token_at sw s start stop) (is_mark_law sw s k start stop t (closer kind) false e) (is_mark_law sw s k start stop t "," true f));
        }

    after_other_law : mark_is k (closer_byte kind) ≡ false → mark_is k 44 ≡ false → Refuses sw s kind i after 7 start
    after_other_law e f =
        record {
          ran =
              λ limits l ts ks stack m.
              peek_refuse sw limits s i (inner_at kind l ts ks stack m after) k start stop 7 p
              (after_step_law sw limits kind l ts ks stack m (token_at sw s start stop) (is_mark_law sw s k start stop p.token (closer kind) false e) (is_mark_law sw s k start stop p.token "," false f));
        }

  next_by : i ≤ length s → (a : Result CT.Token Refusal) → ahead_at sw s i ≡ a → NextIs sw s kind i (follows_by kind a)
  unfolding follows_by
  next_by h (Ok t) q = by (mark_is t.kind (closer_byte kind)) (mark_is t.kind 44) refl refl
    where
      by : (b c : Bool) → mark_is t.kind (closer_byte kind) ≡ b → mark_is t.kind 44 ≡ c
          → NextIs sw s kind i (cond b (Ok (X.Over t.span.stop)) (cond c (Ok (X.More t.span.stop)) (Err (refusal 7 t.span.start))))
      by true c e f = item_last sw s kind i after t.kind t.span.start t.span.stop (ahead_token sw s i t h q) e
      by false true e f = after_comma t.kind t.span.start t.span.stop (ahead_token sw s i t h q) e f
      by false false e f = after_other_law t.kind t.span.start t.span.stop (ahead_token sw s i t h q) e f
  next_by h (Err f) q = item_none sw s kind i after f q

  -- what `after_item` has answered
  pub next_is : {r : Result After Refusal} → i ≤ length s → r ≡ follows_at sw s kind i → (q : Result After Refusal) → r ≡ q → NextIs sw s kind i q
  next_is {r} h e q p = subst (NextIs sw s kind i) (sym e ∙ p) (next_by h (ahead_at sw s i) refl)

-- ---- the next child, after the last one if there is one

-- what comes after the comma
past_comma : (sw : Switches) (s : List ℕ) (kind : Kind) (i j : ℕ) (r : Item) → Follows sw s kind i j → ItemIs sw s kind j more r → ItemIs sw s kind i after r
past_comma sw s kind i j (I.Value t key) F W =
    record {
      token = W.token;
      ahead = omega (arith, F.ahead, W.ahead);
      apart = W.apart;
      short = W.short;
      content = W.content;
      key = W.key;
      keys = W.keys;
      added = W.added;
      ran = λ limits l ts ks stack m. F.ran limits l ts ks stack m ∙ W.ran limits l ts ks stack m;
    }
past_comma sw s kind i j (I.Last e) F E =
    record {
      ahead = omega (arith, F.ahead, E.ahead);
      inside = E.inside;
      ran = λ limits l ts ks stack m. F.ran limits l ts ks stack m ∙ E.ran limits l ts ks stack m;
    }
past_comma sw s kind i j (I.Refused f) F R = record { ran = λ limits l ts ks stack m. F.ran limits l ts ks stack m ∙ R.ran limits l ts ks stack m }
past_comma sw s kind i j (I.RefusedAfter key f) F R =
    record {
      content = R.content;
      key = R.key;
      ran = λ limits l ts ks stack m. F.ran limits l ts ks stack m ∙ R.ran limits l ts ks stack m;
    }

module _ (sw : Switches) (s : List ℕ) (kind : Kind) (z i : ℕ) (r : Item) where
  slot_as : (p q : Slot) → p ≡ q → ItemIs sw s kind i p r → ItemIs sw s kind i q r
  slot_as p q e h = subst (λ (slot : Slot). ItemIs sw s kind i slot r) e h

  pub child_first : z ≡ 0 → Values.ItemAt sw s kind z i r → ChildAt sw s kind z i r
  child_first e h = record { is = slot_as (slot_of z) (turn_of z) (rw (eq-eqb z 0 e)) h.is }

  pub child_after : (z ≡ 0 → ⊥) → ItemIs sw s kind i after r → ChildAt sw s kind z i r
  child_after n h = record { is = slot_as after (turn_of z) (rw (ne_eqb z 0 n)) h }

pub child_more : {sw : Switches} {s : List ℕ} {kind : Kind} {z i j : ℕ} {r : Item} → (z ≡ 0 → ⊥) → Follows sw s kind i j → Values.ItemAt sw s kind z j r → ChildAt sw s kind z i r
child_more {sw} {s} {kind} {z} {i} {j} {r} n F h =
    child_after sw s kind z i r n (past_comma sw s kind i j r F (slot_as sw s kind z j r (slot_of z) more (rw (ne_eqb z 0 n)) h.is))

-- the reader of an item by the kind of its container
pub field_as : {sw : Switches} {s : List ℕ} {kind : Kind} {z from : ℕ} {r : Item} → kind ≡ Object → FieldAt sw s from r → Values.ItemAt sw s kind z from r
field_as {sw} {s} {kind} {z} {from} {r} e h = subst (λ (k : Kind). Values.ItemAt sw s k z from r) (sym e) (record { is = h.is z })

pub no_object : (kind other : Kind) → kind ≡ other → is_object other ≡ false → is_object kind ≡ false
no_object kind other e f = ap is_object e ∙ f

-- ---- keys

-- the span of a token is no 0, 0
pub span_some : (a e : ℕ) → a < e → span_at a e ≡ some (record { start = a; stop = e })
unfolding span_at
span_some a e h = let n : e ≡ 0 → ⊥ = λ q. omega arith in rw (ne_eqb e 0 n)

-- after the key from `start` to `stop`: its colon and its value's first token
abbrev pub AfterKeyIs : Switches → List ℕ → (start stop : ℕ) → Result CT.Token Refusal → Type 0
AfterKeyIs sw s start stop (Ok t) =
    (stop ≤ t.span.start) × TokenAt sw s t.kind t.span.start t.span.stop
    × ((limits : Limits) (stack : List Frame) (m : ℕ)
    → run_from sw limits s stop (config stack (colon (record { start = start; stop = stop })) m) ≡ opened_here sw limits s t.span.start t.span.stop true (some (record { start = start; stop = stop })) m stack)
AfterKeyIs sw s start stop (Err f) =
    (limits : Limits) (stack : List Frame) (m : ℕ) → run_from sw limits s stop (config stack (colon (record { start = start; stop = stop })) m) ≡ refused f.number f.place

module _ (sw : Switches) (s : List ℕ) (key : CS.Span) where
  unfoldable colon_at : Span
  colon_at = record { start = key.start; stop = key.stop }

  colon_wants : (limits : Limits) (stack : List Frame) (m : ℕ) → Wants sw limits 58 (config stack (colon colon_at) m)
  unfolding step mode_step at_end
  colon_wants limits stack m = record { others = λ t n. rw (not_mark t.form ":" n); ends = λ place. refl }

  colon_goes : (limits : Limits) (stack : List Frame) (m start stop : ℕ)
      → step sw limits (config stack (colon colon_at) m) (record { form = L.mark 58; start = start; stop = stop }) ≡ go (config stack (value true (some colon_at)) m)
  unfolding step mode_step is_mark
  colon_goes limits stack m start stop = refl

  after_by : key.stop ≤ length s → (a : Result CT.Token Refusal) → ahead_after sw s key.stop 58 ≡ a → AfterKeyIs sw s key.start key.stop a
  unfolding colon_at at_end
  after_by h (Ok t) e =
      let p = past_token sw s key.stop 58 h t e in
      let a = p.mark.ahead in
      let b = p.mark.some in
      let d = p.token.ahead in (
        omega arith,
        p.token.token,
        λ limits stack m.
            mark_go sw limits s key.stop (config stack (colon colon_at) m) 58 p.place (config stack (value true (some colon_at)) m) p.mark
            (colon_goes limits stack m p.mark.start p.place)
            ∙ value_opens sw limits s p.place t.kind t.span.start t.span.stop p.token true (some colon_at) stack m,
      )
  after_by h (Err f) e =
      λ limits stack m.
      past_refuses sw s key.stop 58 h f e limits (config stack (colon colon_at) m) (config stack (value true (some colon_at)) m) (colon_wants limits stack m)
      (colon_goes limits stack m) (λ place. refl)

  -- what `token_after` has answered
  pub after_is : {r : Result CT.Token Refusal} → key.stop ≤ length s → r ≡ ahead_after sw s key.stop 58 → (a : Result CT.Token Refusal) → r ≡ a → AfterKeyIs sw s key.start key.stop a
  after_is {r} h e a q = after_by h a (sym e ∙ q)

-- a key's content, by the machine and by its bytes alone
pub key_content_law : (f : Form) → is_key (kind_of f) ≡ true → (w : List ℕ) × ((key_of f ≡ some w) × (key_content f ≡ some w))
unfolding is_key kind_of key_of key_content
key_content_law (L.mark b) e = absurd (false≢true e)
key_content_law (L.word w) e = (w, (refl, refl))
key_content_law (L.text w) e = (w, (refl, refl))
key_content_law (L.bytes w) e = absurd (false≢true e)
key_content_law (L.integer z) e = absurd (false≢true e)
key_content_law (L.decimal minus m p) e = absurd (false≢true e)

no_key : (f : Form) → is_key (kind_of f) ≡ false → key_of f ≡ none
unfolding is_key kind_of key_of
no_key (L.mark b) e = refl
no_key (L.word w) e = absurd (false≢true (sym e))
no_key (L.text w) e = absurd (false≢true (sym e))
no_key (L.bytes w) e = refl
no_key (L.integer z) e = refl
no_key (L.decimal minus m p) e = refl

module _ (sw : Switches) (s : List ℕ) (k : TokenKind) (start stop : ℕ) (t : TokenAt sw s k start stop) where
  pub key_form : is_key k ≡ true → is_key (kind_of (form_at sw s start)) ≡ true
  key_form e = ap is_key t.kind ∙ e

  unfoldable pub key_here : is_key k ≡ true → KeyHere sw s start stop
  key_here e =
      let w = key_content_law (form_at sw s start) (key_form e) in
      let o = t.ordered in
      let i = t.inside in
      let n : suc (stop - suc start) ≡ stop - start = omega arith in
      let h : start < length s = omega arith in
      record {
        content = w.0;
        key =
            record {
              ordered = o;
              inside = i;
              holds = ap (λ (j : ℕ). token_content sw (take j (drop start s))) (sym n) ∙ token_alone sw s start (stop - suc start) (form_at sw s start) h t.item ∙ w.1.1;
            };
      }

  key_of_law : (e : is_key k ≡ true) → key_of (form_at sw s start) ≡ some (key_here e).content
  unfolding key_here
  key_of_law e = (key_content_law (form_at sw s start) (key_form e)).1.0

module _ (sw : Switches) (s : List ℕ) (i : ℕ) (k : TokenKind) (start stop : ℕ) (p : Peeked sw s i k start stop) (e : mark_is k 125 ≡ false) where
  -- in an object, a token that is no closing bracket stands where a key is due
  field_step : (limits : Limits) (l : Label) (ts : Forest) (ks : List (List ℕ)) (stack : List Frame) (m z : ℕ) (o : Option (List ℕ)) → key_of (form_at sw s start) ≡ o
      → step sw limits (inner_at Object l ts ks stack m (slot_of z)) (token_at sw s start stop) ≡ key_step (frame Object l ts ks) stack m (record { start = start; stop = stop }) o
  unfolding child_step span_of empty_by_comma
  field_step limits l ts ks stack m z o q =
      child_step_law sw limits Object l ts ks stack m (token_at sw s start stop) z (is_mark_law sw s k start stop p.token "}" false e)
      (ap (λ (b : Bool). eqb z 0 && b) (and_false (is_mark "," (form_at sw s start))) ∙ and_false (eqb z 0))
      ∙ ap (key_step (frame Object l ts ks) stack m (record { start = start; stop = stop })) q

  pub field_not : is_key k ≡ false → (z : ℕ) → Refuses sw s Object i (slot_of z) 7 start
  unfolding key_step
  field_not f z =
      record {
        ran =
            λ limits l ts ks stack m.
            peek_refuse sw limits s i (inner_at Object l ts ks stack m (slot_of z)) k start stop 7 p
            (field_step limits l ts ks stack m z none (no_key (form_at sw s start) (ap is_key p.token.kind ∙ f)));
      }

  module _ (y : is_key k ≡ true) where
    unfoldable w : List ℕ
    w = (key_here sw s k start stop p.token y).content

    -- the run goes on after the key, unless it is among those before it
    new_run : (limits : Limits) (l : Label) (ts : Forest) (ks : List (List ℕ)) (stack : List Frame) (m z : ℕ)
        → run_from sw limits s i (inner_at Object l ts ks stack m (slot_of z))
        ≡ unless_duplicate (key_duplicate Object start ks w) (run_from sw limits s stop (config (frame Object l ts (ks ++ (w ∷ [])) ∷ stack) (colon (record { start = start; stop = stop })) m))
    unfolding key_step key_duplicate w
    new_run limits l ts ks stack m z =
        peek_run sw limits s i (inner_at Object l ts ks stack m (slot_of z)) k start stop p
        ∙ ap (λ (q : Step). after_step start q (λ g. run_from sw limits s stop g)) (field_step limits l ts ks stack m z (some w) (key_of_law sw s k start stop p.token y))
        ∙ refuse_unless (holds ks w) start (config (frame Object l ts (ks ++ (w ∷ [])) ∷ stack) (colon (record { start = start; stop = stop })) m) (λ g. run_from sw limits s stop g)

    -- the value's first token comes after the key
    pub field_value : length s ≤ max_text → (z : ℕ) (u : CT.Token) → AfterKeyIs sw s start stop (Ok u) → Valued sw s Object i (slot_of z) u.kind u.span.start u.span.stop start stop
    unfolding w key_here
    field_value short z u A =
        let t = p.token in
        let h = p.ahead in
        let o = t.ordered in
        let n = t.inside in
        let g = A.0 in
        record {
          token = A.1;
          ahead = omega arith;
          apart = λ q. let z0 : ⊥ = omega arith in absurd z0;
          short = (omega arith, omega arith);
          content = w;
          key = λ _. (key_here sw s k start stop t y).key;
          keys = λ ks. ks ++ (w ∷ []);
          added = λ _ ks. refl;
          ran =
              λ limits l ts ks stack m.
              new_run limits l ts ks stack m z
              ∙ ap (unless_duplicate (key_duplicate Object start ks w))
              (A.2 limits (frame Object l ts (ks ++ (w ∷ [])) ∷ stack) m
              ∙ ap (λ (q : Option Span). opened_here sw limits s u.span.start u.span.stop true q m (frame Object l ts (ks ++ (w ∷ [])) ∷ stack)) (sym (span_some start stop o)));
        }

    -- what follows the key is refused
    pub field_refused : (z : ℕ) (f : Refusal) → AfterKeyIs sw s start stop (Err f) → RefusesAfter sw s Object i (slot_of z) f.number f.place start stop
    unfolding w
    field_refused z f A =
        record {
          content = w;
          key = (key_here sw s k start stop p.token y).key;
          ran =
              λ limits l ts ks stack m.
              new_run limits l ts ks stack m z
              ∙ ap (unless_duplicate (key_duplicate Object start ks w)) (A limits (frame Object l ts (ks ++ (w ∷ [])) ∷ stack) m);
        }
