-- The machine's run by what the code has peeked at: one token's step, and what a container's slots do with a token.
-- Assumes nothing.
use Rattle.std.specs.Prelude.{Ok, Err}
use mathlib.Core.Path.{◌≡◌, refl, sym, ap, ◌∙◌, subst}
use Prim.Native.Nat.{ℕ, suc, ◌-◌, ◌≤◌, ◌<◌}
use native.Mathlib.Omega.{arith}
use Prim.Native.Char.{Char, code}
use mathlib.Core.Bool.{Bool, true, false, cond, ◌&&◌, false≢true}
use mathlib.Core.Option.{Option, none}
use mathlib.Core.List.{List, ◌∷◌}
use lib.Dec.{eqb}
use lib.ListN.{length}
use borrow.Author.Tests.{eq-eqb, ne_eqb, eqb-true}
use Rattle.text.specs.declared.switches.Switches.{Switches}
use Rattle.lexer.specs.declared.item.TokenKind.{TokenKind}
use Rattle.lexer.specs.declared.item.Next.{Next}
use Rattle.lexer.specs.declared.item.Next.TheVariants as N
use Rattle.lexer.specs.Token as L
use Rattle.lexer.specs.Token.{Form, Token, Tokens, tokens_from}
use Rattle.lexer.specs.Answer.{kind_of, token_next, refused_next, first_of}
use Rattle.lexer.proofs.NextLaws.{next_ahead, next_end, next_fault}
use Rattle.reader.specs.declared.tree.Kind.{Kind}
use Rattle.reader.specs.declared.tree.Kind.TheVariants.{Object, Array, Tuple}
use Rattle.reader.specs.declared.tree.Limits.{Limits}
use Rattle.text.specs.Refusal.{Refusal, refusal}
use Rattle.lexer.specs.declared.item.Token as CT
use Rattle.std.specs.declared.result.Result.{Result}
use Rattle.reader.specs.Tree.{Span, branch, Forest}
use Rattle.reader.specs.Syntax.{Label, label, Frame, frame, Slot, first, lone, after, more, Mode, value, inside, Config, config, Step, go, refuse, Begins, container, scalar, identifier, nothing, begins, span_of, is_mark, is_object, closer, key_of, head_by, ended, key_step, close_or, empty_by_comma, no_node, counted, value_step, fresh_value, child_step, slot_step, mode_step, step, refused, at_end, after_step, run}
use Rattle.reader.specs.Internal.Tokens.{form_of, form_at, token_at, TokenAt}
use Rattle.reader.specs.Internal.Ahead.{mark_is, closer_byte, ahead_of, ahead_at, only_of, only_at, past_mark, ahead_after}
use Rattle.reader.specs.Internal.Values.{run_from, opened, opened_here, slot_of, inner_at}

-- ---- what `next_token` has found

-- the next token from `from` is of the kind k, from `start` to `stop`
pub record Peeked (sw : Switches) (s : List ℕ) (from : ℕ) (k : TokenKind) (start stop : ℕ) : Type 0 where
  pub ahead : from ≤ start
  pub token : TokenAt sw s k start stop
  pub toks : tokens_from sw s from ≡ L.next (token_at sw s start stop) (tokens_from sw s stop)

-- the next token from `from` is this mark, and ends at `stop`
pub record Marked (sw : Switches) (s : List ℕ) (from want stop : ℕ) : Type 0 where
  pub start : ℕ
  pub ahead : from ≤ start
  pub some : start < stop
  pub inside : stop ≤ length s
  pub toks : tokens_from sw s from ≡ L.next (record { form = L.mark want; start = start; stop = stop }) (tokens_from sw s stop)

-- a state in which the text may not end
abbrev pub Unended : Config → Type 0
Unended c = (place : ℕ) → at_end place c.mode ≡ refused 7 place

-- a state in which that mark alone is allowed
pub record Wants (sw : Switches) (limits : Limits) (want : ℕ) (c : Config) : Type 0 where
  pub others : (t : Token) → ((b : ℕ) → t.form ≡ L.mark b → b ≡ want → ⊥) → step sw limits c t ≡ refuse 7
  pub ends : Unended c

-- it is another one, a fault or the end: every state in which that mark alone is allowed comes to this refusal
pub record NotMarked (sw : Switches) (s : List ℕ) (from want number place : ℕ) : Type 0 where
  pub ran : (limits : Limits) (c : Config) → Wants sw limits want c → run_from sw limits s from c ≡ refused number place

module _ (sw : Switches) (s : List ℕ) (from : ℕ) where
  pub peeked : (k : TokenKind) (start stop : ℕ) → from ≤ length s → first_of (tokens_from sw s from) ≡ token_next k start stop → Peeked sw s from k start stop
  unfolding form_at form_of
  peeked k start stop h e =
      let a = next_ahead sw s from k start stop h e in
      let f : form_at sw s start ≡ a.form = ap form_of a.item in
      record {
        ahead = a.after;
        token =
            record {
              item = a.item ∙ ap (λ (x : Form). L.token x (stop - suc start)) (sym f);
              kind = ap kind_of f ∙ a.kind;
              ordered = a.some;
              inside = a.inside;
            };
        toks = a.go_on ∙ ap (λ (x : Form). L.next (record { form = x; start = start; stop = stop }) (tokens_from sw s stop)) (sym f);
      }

-- ---- one token

module _ (sw : Switches) (limits : Limits) (s : List ℕ) (from : ℕ) (c : Config) where
  pub peek_run : (k : TokenKind) (start stop : ℕ) → Peeked sw s from k start stop
      → run_from sw limits s from c ≡ after_step start (step sw limits c (token_at sw s start stop)) (λ d. run_from sw limits s stop d)
  unfolding run_from run
  peek_run k start stop p = ap (λ (ts : Tokens). run sw limits ts c) p.toks

  pub peek_go : (k : TokenKind) (start stop : ℕ) (d : Config) → Peeked sw s from k start stop → step sw limits c (token_at sw s start stop) ≡ go d
      → run_from sw limits s from c ≡ run_from sw limits s stop d
  unfolding after_step
  peek_go k start stop d p e = peek_run k start stop p ∙ ap (λ (x : Step). after_step start x (λ g. run_from sw limits s stop g)) e

  pub peek_refuse : (k : TokenKind) (start stop number : ℕ) → Peeked sw s from k start stop → step sw limits c (token_at sw s start stop) ≡ refuse number
      → run_from sw limits s from c ≡ refused number start
  unfolding after_step
  peek_refuse k start stop number p e = peek_run k start stop p ∙ ap (λ (x : Step). after_step start x (λ g. run_from sw limits s stop g)) e

  pub mark_go : (want stop : ℕ) (d : Config) (m : Marked sw s from want stop)
      → step sw limits c (record { form = L.mark want; start = m.start; stop = stop }) ≡ go d → run_from sw limits s from c ≡ run_from sw limits s stop d
  unfolding run_from run after_step
  mark_go want stop d m e =
      ap (λ (ts : Tokens). run sw limits ts c) m.toks ∙ ap (λ (x : Step). after_step m.start x (λ g. run sw limits (tokens_from sw s stop) g)) e

  pub end_run : (place : ℕ) → first_of (tokens_from sw s from) ≡ Ok (N.End place) → run_from sw limits s from c ≡ at_end place c.mode
  unfolding run_from run
  end_run place e = ap (λ (ts : Tokens). run sw limits ts c) (next_end sw s from place e)

  pub fault_run : (number place : ℕ) → first_of (tokens_from sw s from) ≡ refused_next number place → run_from sw limits s from c ≡ refused number place
  unfolding run_from run
  fault_run number place e = ap (λ (ts : Tokens). run sw limits ts c) (next_fault sw s from number place e)

-- ---- marks

pub mark_kind : (f : Form) (c : Char) → is_mark c f ≡ mark_is (kind_of f) (code c)
unfolding is_mark mark_is kind_of
mark_kind (L.mark b) c = refl
mark_kind (L.word w) c = refl
mark_kind (L.text w) c = refl
mark_kind (L.bytes w) c = refl
mark_kind (L.integer z) c = refl
mark_kind (L.decimal minus m p) c = refl

pub not_mark : (f : Form) (c : Char) → ((b : ℕ) → f ≡ L.mark b → b ≡ code c → ⊥) → is_mark c f ≡ false
unfolding is_mark
not_mark (L.mark b) c n = ne_eqb b (code c) (n b refl)
not_mark (L.word w) c n = refl
not_mark (L.text w) c n = refl
not_mark (L.bytes w) c n = refl
not_mark (L.integer z) c n = refl
not_mark (L.decimal minus m p) c n = refl

-- a token's mark by the code's test
module _ (sw : Switches) (s : List ℕ) (k : TokenKind) (start stop : ℕ) (t : TokenAt sw s k start stop) where
  pub is_mark_law : (c : Char) (r : Bool) → mark_is k (code c) ≡ r → is_mark c (form_at sw s start) ≡ r
  is_mark_law c r e = mark_kind (form_at sw s start) c ∙ ap (λ (x : TokenKind). mark_is x (code c)) t.kind ∙ e

-- the form of a token that is a mark
mark_form : (f : Form) (c : ℕ) → mark_is (kind_of f) c ≡ true → f ≡ L.mark c
unfolding mark_is kind_of
mark_form (L.mark b) c e = ap L.mark (eqb_is b c e)
  where
    eqb_is : (x y : ℕ) → eqb x y ≡ true → x ≡ y
    eqb_is x y q = eqb-true x y q
mark_form (L.word w) c e = absurd (false≢true e)
mark_form (L.text w) c e = absurd (false≢true e)
mark_form (L.bytes w) c e = absurd (false≢true e)
mark_form (L.integer z) c e = absurd (false≢true e)
mark_form (L.decimal minus m p) c e = absurd (false≢true e)

mark_kind_not : (f : Form) (c : ℕ) → mark_is (kind_of f) c ≡ false → (b : ℕ) → f ≡ L.mark b → b ≡ c → ⊥
unfolding mark_is kind_of
mark_kind_not f c e b p q = false≢true (sym (subst (λ (g : Form). mark_is (kind_of g) c ≡ false) p e) ∙ eq-eqb b c q)

module _ (sw : Switches) (s : List ℕ) (from want : ℕ) where
  pub marked : (k : TokenKind) (start stop : ℕ) → Peeked sw s from k start stop → mark_is k want ≡ true → Marked sw s from want stop
  marked k start stop p e =
      let f : form_at sw s start ≡ L.mark want = mark_form (form_at sw s start) want (ap (λ (x : TokenKind). mark_is x want) p.token.kind ∙ e) in
      record {
        start = start;
        ahead = p.ahead;
        some = p.token.ordered;
        inside = p.token.inside;
        toks = p.toks ∙ ap (λ (x : Form). L.next (record { form = x; start = start; stop = stop }) (tokens_from sw s stop)) f;
      }

  pub not_marked : (k : TokenKind) (start stop : ℕ) → Peeked sw s from k start stop → mark_is k want ≡ false → NotMarked sw s from want 7 start
  not_marked k start stop p e =
      record {
        ran =
            λ limits c w.
            peek_refuse sw limits s from c k start stop 7 p
            (w.others (token_at sw s start stop) (mark_kind_not (form_at sw s start) want (ap (λ (x : TokenKind). mark_is x want) p.token.kind ∙ e)));
      }

-- ---- what the functions that look ahead have answered

token_is : (x : Result Next Refusal) (t : CT.Token) → ahead_of x ≡ Ok t → x ≡ Ok (N.Token t)
unfolding ahead_of
token_is (Ok (N.Token u)) t e = let h : u ≡ t = cc in (λ i. Ok (N.Token (h i)))
token_is (Ok (N.End place)) t e = cc
token_is (Err f) t e = cc

module _ (sw : Switches) (s : List ℕ) (from : ℕ) where
  -- a token
  pub ahead_token : (t : CT.Token) → from ≤ length s → ahead_at sw s from ≡ Ok t → Peeked sw s from t.kind t.span.start t.span.stop
  ahead_token t h e = peeked sw s from t.kind t.span.start t.span.stop h (token_is (first_of (tokens_from sw s from)) t e)

  -- a fault or the text's end: every state in which the text may not end comes to this refusal
  pub ahead_refuses : (f : Refusal) → ahead_at sw s from ≡ Err f → (limits : Limits) (c : Config) → Unended c
      → run_from sw limits s from c ≡ refused f.number f.place
  unfolding ahead_of
  ahead_refuses f e limits c ends = on (first_of (tokens_from sw s from)) refl e
    where
      on : (x : Result Next Refusal) → first_of (tokens_from sw s from) ≡ x → ahead_of x ≡ Err f → run_from sw limits s from c ≡ refused f.number f.place
      on (Ok (N.Token u)) q r = let z : ◌≡◌ {A = ℕ} 0 1 = cc in absurd (omega arith)
      on (Ok (N.End place)) q r =
          let h : refusal 7 place ≡ f = cc in
          end_run sw limits s from c place q ∙ ends place ∙ (λ i. refused (h i).number (h i).place)
      on (Err g) q r =
          let h : g ≡ f = cc in
          fault_run sw limits s from c g.number g.place q ∙ (λ i. refused (h i).number (h i).place)

module _ (sw : Switches) (s : List ℕ) (from want : ℕ) (h : from ≤ length s) where
  -- the mark that has to come next
  pub only_at_law : (stop : ℕ) → only_at sw s from want ≡ Ok stop → Marked sw s from want stop
  unfolding only_of
  only_at_law stop e = on (ahead_at sw s from) refl e
    where
      by : (t : CT.Token) → ahead_at sw s from ≡ Ok t → (b : Bool) → mark_is t.kind want ≡ b
          → cond b (Ok t.span.stop) (Err (refusal 7 t.span.start)) ≡ Ok stop → Marked sw s from want stop
      by t q true m r =
          let x : t.span.stop ≡ stop = cc in
          subst (Marked sw s from want) x (marked sw s from want t.kind t.span.start t.span.stop (ahead_token sw s from t h q) m)
      by t q false m r = let z : ◌≡◌ {A = ℕ} 0 1 = cc in absurd (omega arith)

      on : (a : Result CT.Token Refusal) → ahead_at sw s from ≡ a → only_of want a ≡ Ok stop → Marked sw s from want stop
      on (Ok t) q r = by t q (mark_is t.kind want) refl r
      on (Err f) q r = let z : ◌≡◌ {A = ℕ} 0 1 = cc in absurd (omega arith)

  pub only_not : (f : Refusal) → only_at sw s from want ≡ Err f → NotMarked sw s from want f.number f.place
  unfolding only_of
  only_not f e = on (ahead_at sw s from) refl e
    where
      by : (t : CT.Token) → ahead_at sw s from ≡ Ok t → (b : Bool) → mark_is t.kind want ≡ b
          → cond b (Ok t.span.stop) (Err (refusal 7 t.span.start)) ≡ Err f → NotMarked sw s from want f.number f.place
      by t q true m r = let z : ◌≡◌ {A = ℕ} 0 1 = cc in absurd (omega arith)
      by t q false m r =
          let x : refusal 7 t.span.start ≡ f = cc in
          subst (λ (g : Refusal). NotMarked sw s from want g.number g.place) x
          (not_marked sw s from want t.kind t.span.start t.span.stop (ahead_token sw s from t h q) m)

      on : (a : Result CT.Token Refusal) → ahead_at sw s from ≡ a → only_of want a ≡ Err f → NotMarked sw s from want f.number f.place
      on (Ok t) q r = by t q (mark_is t.kind want) refl r
      on (Err g) q r =
          let x : g ≡ f = cc in
          record { ran = λ limits c w. ahead_refuses sw s from f (q ∙ ap Err x) limits c w.ends }

-- this mark comes next, and then this token
pub record PastMark (sw : Switches) (s : List ℕ) (from want : ℕ) (t : CT.Token) : Type 0 where
  pub place : ℕ
  pub mark : Marked sw s from want place
  pub token : Peeked sw s place t.kind t.span.start t.span.stop

module _ (sw : Switches) (s : List ℕ) (from want : ℕ) (h : from ≤ length s) where
  pub past_token : (t : CT.Token) → ahead_after sw s from want ≡ Ok t → PastMark sw s from want t
  unfolding past_mark
  past_token t e = on (only_at sw s from want) refl e
    where
      on : (o : Result ℕ Refusal) → only_at sw s from want ≡ o → past_mark sw s o ≡ Ok t → PastMark sw s from want t
      on (Ok place) q r =
          let m = only_at_law sw s from want h place q in
          record { place = place; mark = m; token = ahead_token sw s place t m.inside r }
      on (Err f) q r = let z : ◌≡◌ {A = ℕ} 0 1 = cc in absurd (omega arith)

  -- a state in which that mark alone is allowed, and which it leads to one in which the text may not end
  pub past_refuses : (f : Refusal) → ahead_after sw s from want ≡ Err f → (limits : Limits) (c d : Config) → Wants sw limits want c
      → ((start stop : ℕ) → step sw limits c (record { form = L.mark want; start = start; stop = stop }) ≡ go d) → Unended d
      → run_from sw limits s from c ≡ refused f.number f.place
  unfolding past_mark
  past_refuses f e limits c d w goes ends = on (only_at sw s from want) refl e
    where
      on : (o : Result ℕ Refusal) → only_at sw s from want ≡ o → past_mark sw s o ≡ Err f → run_from sw limits s from c ≡ refused f.number f.place
      on (Ok place) q r =
          let m = only_at_law sw s from want h place q in
          mark_go sw limits s from c want place d m (goes m.start place) ∙ ahead_refuses sw s place f r limits d ends
      on (Err g) q r =
          let x : g ≡ f = cc in
          (only_not sw s from want h f (q ∙ ap Err x)).ran limits c w

-- ---- slots

pub closer_mark : (kind : Kind) → is_mark (closer kind) (L.mark (closer_byte kind)) ≡ true
unfolding is_mark
closer_mark Object = refl
closer_mark Array = refl
closer_mark Tuple = refl

module _ (sw : Switches) (limits : Limits) (kind : Kind) (l : Label) (ts : Forest) (ks : List (List ℕ)) (stack : List Frame) (m : ℕ) where
  -- the container's own closing bracket ends it, whatever slot it stands in
  pub close_step : (t : Token) → is_mark (closer kind) t.form ≡ true → (slot : Slot)
      → step sw limits (config (frame kind l ts ks ∷ stack) (inside slot) m) t ≡ go (ended stack m l.name (branch (head_by l t.stop) kind ts))
  unfolding step mode_step slot_step close_or
  close_step t e first = rw e
  close_step t e lone = rw e
  close_step t e after = rw e
  close_step t e more = rw e

  -- after a child
  pub comma_step : (t : Token) → is_mark (closer kind) t.form ≡ false → is_mark "," t.form ≡ true
      → step sw limits (config (frame kind l ts ks ∷ stack) (inside after) m) t ≡ go (config (frame kind l ts ks ∷ stack) (inside more) m)
  unfolding step mode_step slot_step close_or
  comma_step t e f = rw (e, f)

  pub after_step_law : (t : Token) → is_mark (closer kind) t.form ≡ false → is_mark "," t.form ≡ false
      → step sw limits (config (frame kind l ts ks ∷ stack) (inside after) m) t ≡ refuse 7
  unfolding step mode_step slot_step close_or
  after_step_law t e f = rw (e, f)

  -- `[,`
  pub lone_step : (t : Token) (z : ℕ) → is_mark (closer kind) t.form ≡ false → is_mark "," t.form ≡ true → empty_by_comma sw kind ≡ true → eqb z 0 ≡ true
      → step sw limits (inner_at kind l ts ks stack m (slot_of z)) t ≡ go (config (frame kind l ts ks ∷ stack) (inside lone) m)
  unfolding step mode_step slot_step close_or
  lone_step t z e f g h = rw (h, e, f, g)

  pub lone_wants : Wants sw limits (closer_byte kind) (config (frame kind l ts ks ∷ stack) (inside lone) m)
  unfolding step mode_step slot_step close_or at_end
  lone_wants =
      record {
        others = λ t n. rw (not_mark t.form (closer kind) n);
        ends = λ place. refl;
      }

  -- a child is due
  pub child_step_law : (t : Token) (z : ℕ) → is_mark (closer kind) t.form ≡ false → (eqb z 0 && (is_mark "," t.form && empty_by_comma sw kind)) ≡ false
      → step sw limits (inner_at kind l ts ks stack m (slot_of z)) t ≡ child_step limits (inner_at kind l ts ks stack m (slot_of z)) (frame kind l ts ks) stack t
  unfolding step mode_step slot_step close_or
  child_step_law t z e f = pick (eqb z 0) f
    where
      pick : (b : Bool) → (b && (is_mark "," t.form && empty_by_comma sw kind)) ≡ false
          → slot_step sw limits (config (frame kind l ts ks ∷ stack) (inside (cond b first more)) m) t (cond b first more) (frame kind l ts ks ∷ stack)
          ≡ child_step limits (config (frame kind l ts ks ∷ stack) (inside (cond b first more)) m) (frame kind l ts ks) stack t
      pick true q = rw (e, q)
      pick false q = rw e

-- a value's step does not look at the mode
pub mode_free : (limits : Limits) (stack : List Frame) (p q : Mode) (n : ℕ) (fresh any : Bool) (l : Label) (t : Token) (b : Begins)
    → value_step limits (config stack p n) fresh any l t b ≡ value_step limits (config stack q n) fresh any l t b
unfolding value_step no_node counted
mode_free limits stack p q n fresh any l t (container kind) = refl
mode_free limits stack p q n fresh any l t (scalar s) = refl
mode_free limits stack p q n fresh any l t identifier = refl
mode_free limits stack p q n fresh any l t nothing = refl

-- a value's first token
module _ (sw : Switches) (limits : Limits) (s : List ℕ) (from : ℕ) (k : TokenKind) (start stop : ℕ) (p : Peeked sw s from k start stop) where
  pub value_opens : (any : Bool) (key : Option Span) (stack : List Frame) (m : ℕ)
      → run_from sw limits s from (config stack (value any key) m) ≡ opened_here sw limits s start stop any key m stack
  unfolding step mode_step fresh_value opened
  value_opens any key stack m =
      peek_run sw limits s from (config stack (value any key) m) k start stop p
      ∙ ap (λ (x : Step). after_step start x (λ d. run_from sw limits s stop d))
      (mode_free limits stack (value any key) (value any none) m true any (label start key none) (token_at sw s start stop) (begins (span_of (token_at sw s start stop)) (form_at sw s start)))

  -- a child of an array or a tuple
  pub child_opens : (kind : Kind) (l : Label) (ts : Forest) (ks : List (List ℕ)) (stack : List Frame) (m z : ℕ) → is_object kind ≡ false
      → is_mark (closer kind) (form_at sw s start) ≡ false → (eqb z 0 && (is_mark "," (form_at sw s start) && empty_by_comma sw kind)) ≡ false
      → run_from sw limits s from (inner_at kind l ts ks stack m (slot_of z)) ≡ opened_here sw limits s start stop true none m (frame kind l ts ks ∷ stack)
  unfolding child_step fresh_value opened
  child_opens kind l ts ks stack m z o e f =
      peek_run sw limits s from (inner_at kind l ts ks stack m (slot_of z)) k start stop p
      ∙ ap (λ (x : Step). after_step start x (λ d. run_from sw limits s stop d))
      (child_step_law sw limits kind l ts ks stack m (token_at sw s start stop) z e f
      ∙ ap (λ (b : Bool). cond b (key_step (frame kind l ts ks) stack m (span_of (token_at sw s start stop)) (key_of (form_at sw s start))) (fresh_value limits (inner_at kind l ts ks stack m (slot_of z)) true none (token_at sw s start stop))) o
      ∙ mode_free limits (frame kind l ts ks ∷ stack) (inside (slot_of z)) (value true none) m true true (label start none none) (token_at sw s start stop) (begins (span_of (token_at sw s start stop)) (form_at sw s start)))

  -- the end of a container
  pub item_closes : (kind : Kind) (l : Label) (ts : Forest) (ks : List (List ℕ)) (stack : List Frame) (m : ℕ) (slot : Slot) → is_mark (closer kind) (form_at sw s start) ≡ true
      → run_from sw limits s from (config (frame kind l ts ks ∷ stack) (inside slot) m) ≡ run_from sw limits s stop (ended stack m l.name (branch (head_by l stop) kind ts))
  item_closes kind l ts ks stack m slot e =
      peek_go sw limits s from (config (frame kind l ts ks ∷ stack) (inside slot) m) k start stop (ended stack m l.name (branch (head_by l stop) kind ts)) p
      (close_step sw limits kind l ts ks stack m (token_at sw s start stop) e slot)
