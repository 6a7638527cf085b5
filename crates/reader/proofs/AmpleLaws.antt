-- A value has at most as many nodes as bytes: with a node for each byte of a text, none is missing, and how many more there are changes
-- nothing.
-- Assumes nothing.
use mathlib.Core.Path.{◌≡◌, refl, sym, ap, ◌∙◌}
use Prim.Native.Nat.{ℕ, suc, ◌*◌, ◌<◌, ◌≤◌, min}
use native.Mathlib.Omega.{arith}
use mathlib.Core.Bool.{Bool, true, false, not, cond, ◌&&◌}
use mathlib.Core.Option.{Option, none, some}
use mathlib.Core.List.{List, [], ◌∷◌}
use lib.Dec.{leb}
use lib.ListN.{length}
use borrow.Author.Tests.{lt-leb, leb-true, leb-false}
use Rattle.text.specs.declared.switches.Switches.{Switches}
use Rattle.text.specs.Utf8.{utf8, is_whole, whole_front}
use Rattle.text.proofs.Choice.{cond-pair}
use Rattle.lexer.specs.Token as L
use Rattle.lexer.specs.Token.{Token, Tokens, tokens}
use Rattle.lexer.proofs.TokenLaws.{Within, tokens_within}
use Rattle.reader.specs.Tree.{Span, Tree, node_words}
use Rattle.reader.specs.declared.tree.Limits.{Limits}
use Rattle.reader.specs.Syntax.{Label, Frame, Slot, first, lone, after, more, Mode, value, named, inner, close, inside, colon, done, Config, label, Step, go, refuse, Begins, container, scalar, identifier, nothing, span_of, is_mark, closer, is_object, is_comma, empty_by_comma, key_of, begins, with_stop, finished, ended, refuse_if, holds, key_step, close_or, no_node, counted, value_step, fresh_value, child_step, slot_step, mode_step, step, Outcome, refused, after_step, run, before}
use Rattle.reader.specs.Reading.{max_text, node_limit, outcome, reading_to}

-- ---- one token

pub finished_nodes : (fs : List Frame) (n : ℕ) (t : Tree) → (finished fs n t).nodes ≡ n
unfolding finished
finished_nodes [] n t = refl
finished_nodes (f ∷ fs) n t = refl

pub ended_nodes : (fs : List Frame) (n : ℕ) (o : Option Span) (t : Tree) → (ended fs n o t).nodes ≡ n
unfolding ended
ended_nodes fs n none t = finished_nodes fs n t
ended_nodes fs n (some s) t = refl

-- a token begins one value at the most
unfoldable Grows : (nodes : ℕ) → Step → Type 0
Grows n (go d) = d.nodes ≤ suc n
Grows n (refuse k) = Unit {0}

-- two steps are one, and it begins one value at the most
unfoldable Alike : (nodes : ℕ) → Step → Step → Type 0
Alike n s s' = (s ≡ s') × Grows n s

alike_if : (n : ℕ) (b b' : Bool) (k : ℕ) (s s' : Step) → b ≡ b' → Alike n s s' → Alike n (refuse_if b k s) (refuse_if b' k s')
unfolding Alike Grows refuse_if
alike_if n b b' k s s' e h = ((λ i. refuse_if (e i) k (h.0 i)), on b)
  where
    on : (x : Bool) → Grows n (refuse_if x k s)
    on true = tt
    on false = h.1

goes : (n : ℕ) (d : Config) → d.nodes ≤ suc n → Alike n (go d) (go d)
unfolding Alike Grows
goes n d h = (refl, h)

stops : (n k : ℕ) → Alike n (refuse k) (refuse k)
unfolding Alike Grows
stops n k = (refl, tt)

begun : (fresh : Bool) (n : ℕ) → cond fresh (suc n) n ≤ suc n
begun true n = omega arith
begun false n = omega arith

-- in limits of one depth, each with a node left
module _ (sw : Switches) (l l' : Limits) (deep : l.depth ≡ l'.depth) (c : Config) (t : Token) (left : c.nodes < l.nodes) (left' : c.nodes < l'.nodes) where
  abbrev Same : Step → Step → Type 0
  Same = Alike c.nodes

  node_left : (fresh : Bool) → no_node l fresh c ≡ no_node l' fresh c
  unfolding no_node
  node_left true = lt-leb l.nodes c.nodes left ∙ sym (lt-leb l'.nodes c.nodes left')
  node_left false = refl

  ends : (n : ℕ) (fs : List Frame) (o : Option Span) (u : Tree) → n ≤ suc c.nodes → Same (go (ended fs n o u)) (go (ended fs n o u))
  ends n fs o u h = goes c.nodes (ended fs n o u) (let e = ended_nodes fs n o u in omega arith)

  value_same : (fresh any : Bool) (a : Label) (b : Begins) → Same (value_step l c fresh any a t b) (value_step l' c fresh any a t b)
  unfolding value_step counted
  value_same fresh any a (container kind) =
      alike_if c.nodes _ _ 9 _ _ (ap (λ (n : ℕ). leb n (length c.stack)) deep)
      (alike_if c.nodes _ _ 10 _ _ (node_left fresh) (goes c.nodes _ (begun fresh c.nodes)))
  value_same fresh any a (scalar s) =
      alike_if c.nodes (not any) (not any) 7 _ _ refl
      (alike_if c.nodes _ _ 10 _ _ (node_left fresh) (ends _ c.stack a.name _ (begun fresh c.nodes)))
  value_same fresh any a identifier =
      alike_if c.nodes (not fresh) (not fresh) 7 _ _ refl
      (alike_if c.nodes _ _ 10 _ _ (node_left fresh) (goes c.nodes _ (begun fresh c.nodes)))
  value_same fresh any a nothing = stops c.nodes 7

  child_same : (f : Frame) (fs : List Frame) → Same (child_step l c f fs t) (child_step l' c f fs t)
  unfolding child_step fresh_value key_step
  child_same f fs =
      cond-pair Same (is_object f.kind) (of_key (key_of t.form)) (value_same true true (label t.start none none) (begins (span_of t) t.form))
    where
      of_key : (k : Option (List ℕ)) → Same (key_step f fs c.nodes (span_of t) k) (key_step f fs c.nodes (span_of t) k)
      of_key none = stops c.nodes 7
      of_key (some k) = alike_if c.nodes (holds f.keys k) (holds f.keys k) 8 _ _ refl (goes c.nodes _ (omega arith))

  close_same : (f : Frame) (fs : List Frame) (s s' : Step) → Same s s' → Same (close_or c f fs t s) (close_or c f fs t s')
  unfolding close_or
  close_same f fs s s' h = cond-pair Same (is_mark (closer f.kind) t.form) (ends c.nodes fs f.label.name _ (omega arith)) h

  slot_same : (slot : Slot) (fs : List Frame) → Same (slot_step sw l c t slot fs) (slot_step sw l' c t slot fs)
  unfolding slot_step
  slot_same slot [] = stops c.nodes 7
  slot_same first (f ∷ fs) =
      close_same f fs _ _
      (cond-pair Same (is_comma t.form && empty_by_comma sw f.kind) (goes c.nodes _ (omega arith)) (child_same f fs))
  slot_same lone (f ∷ fs) = close_same f fs _ _ (stops c.nodes 7)
  slot_same after (f ∷ fs) = close_same f fs _ _ (cond-pair Same (is_comma t.form) (goes c.nodes _ (omega arith)) (stops c.nodes 7))
  slot_same more (f ∷ fs) = close_same f fs _ _ (child_same f fs)

  mode_same : (m : Mode) → Same (mode_step sw l c t m) (mode_step sw l' c t m)
  unfolding mode_step fresh_value
  mode_same (value any key) = value_same true any (label t.start key none) (begins (span_of t) t.form)
  mode_same (named any a) = cond-pair Same (is_mark "(" t.form) (goes c.nodes _ (omega arith)) (stops c.nodes 7)
  mode_same (inner any a) = value_same false any a (begins (span_of t) t.form)
  mode_same (close tree) =
      cond-pair Same (is_mark ")" t.form)
      (goes c.nodes (finished c.stack c.nodes (with_stop t.stop tree))
      (let e = finished_nodes c.stack c.nodes (with_stop t.stop tree) in omega arith))
      (stops c.nodes 7)
  mode_same (inside slot) = slot_same slot c.stack
  mode_same (colon key) = cond-pair Same (is_mark ":" t.form) (goes c.nodes _ (omega arith)) (stops c.nodes 7)
  mode_same (done tree) = stops c.nodes 7

  step_same : Same (step sw l c t) (step sw l' c t)
  unfolding step
  step_same = mode_same c.mode

-- ---- all tokens

after_same : (n place : ℕ) (s s' : Step) (rest rest' : Config → Outcome) → Alike n s s' → ((d : Config) → d.nodes ≤ suc n → rest d ≡ rest' d)
    → after_step place s rest ≡ after_step place s' rest'
unfolding Alike Grows after_step
after_same n place s s' rest rest' h k = on s h.1 ∙ ap (λ (x : Step). after_step place x rest') h.0
  where
    on : (x : Step) → Grows n x → after_step place x rest ≡ after_step place x rest'
    on (go d) g = k d g
    on (refuse number) g = refl

module _ (sw : Switches) (l l' : Limits) (deep : l.depth ≡ l'.depth) (n : ℕ) (ample : n ≤ l.nodes) (ample' : n ≤ l'.nodes) where
  -- no more values have begun than bytes stand before
  run_same : (ts : Tokens) (at : ℕ) → Within n at ts → (c : Config) → c.nodes ≤ at → run sw l ts c ≡ run sw l' ts c
  unfolding run Within
  run_same (L.next t ts) at w c h =
      after_same c.nodes t.start (step sw l c t) (step sw l' c t) (λ d. run sw l ts d) (λ d. run sw l' ts d)
      (step_same sw l l' deep c t (omega arith) (omega arith))
      (λ d g. run_same ts t.stop w.3 d (omega arith))
  run_same (L.end place) at w c h = refl
  run_same (Tokens.fault number place) at w c h = refl

-- with a node for each byte
pub outcome_same : (sw : Switches) (any : Bool) (depth n m : ℕ) (text : List ℕ) → length text ≤ n → length text ≤ m
    → outcome sw any (record { depth = depth; nodes = n }) text ≡ outcome sw any (record { depth = depth; nodes = m }) text
unfolding outcome before
outcome_same sw any depth n m text h k =
    ap (λ (o : Outcome). cond (leb (length text) max_text) (cond (is_whole (utf8 text)) o (refused 2 (whole_front (utf8 text)))) (refused 1 max_text))
    (run_same sw (record { depth = depth; nodes = n }) (record { depth = depth; nodes = m }) refl (length text) h k (tokens sw text) 0 (tokens_within sw text)
    (before any) (omega arith))

-- of a table, the words for as many nodes as the text has bytes are enough
pub words_enough : (sw : Switches) (depth words : ℕ) (text : List ℕ)
    → reading_to sw depth (min words (node_words * length text)) text ≡ reading_to sw depth words text
unfolding reading_to node_limit
words_enough sw depth words text = by (leb (node_limit words) (length text)) refl
  where
    front : ℕ
    front = min words (node_words * length text)

    by : (b : Bool) → leb (node_limit words) (length text) ≡ b → reading_to sw depth front text ≡ reading_to sw depth words text
    by true e =
        let h = leb-true (node_limit words) (length text) e in
        let q : node_limit front ≡ node_limit words = omega arith in
        ap (λ (n : ℕ). outcome sw false (record { depth = depth; nodes = n }) text) q
    by false e =
        let h = leb-false (node_limit words) (length text) e in
        outcome_same sw false depth (node_limit front) (node_limit words) text (omega arith) (omega arith)
