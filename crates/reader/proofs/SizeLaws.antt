-- A taken tree has no more nodes than the limit, so that its words fit the table, and the table keeps its length.
-- Assumes nothing.
use Rattle.std.specs.Prelude.{Ok, Err}
use mathlib.Core.Path.{◌≡◌, refl, sym, ap, ◌∙◌}
use Prim.Native.Nat.{ℕ, suc, ◌+◌, ◌-◌, ◌/◌, ◌≤◌, min, zero-le}
use native.Mathlib.Nat.{div-mul-le_self}
use native.Mathlib.Omega.{arith}
use mathlib.Core.Bool.{Bool, true, false, not, cond, ◌&&◌}
use mathlib.Core.Option.{Option, none, some}
use mathlib.Core.List.{List, [], ◌∷◌, ◌++◌, append-nil, append_assoc}
use lib.Dec.{T, leb, nleb→lt}
use lib.ListN.{length, replicate, length-append, length-replicate}
use Rattle.text.specs.declared.switches.Switches.{Switches}
use Rattle.text.specs.Utf8.{utf8, is_whole}
use Rattle.lexer.specs.Token as L
use Rattle.lexer.specs.Token.{Token, Tokens, tokens}
use Rattle.text.proofs.Choice.{cond_both}
use Rattle.reader.specs.Tree.{Span, Tree, leaf, branch, Forest, nil, cons, snoc, count, size, sizes, rows, rows_all, padded, no_parent, node_words}
use Rattle.reader.specs.declared.tree.Limits.{Limits}
use Rattle.reader.specs.Syntax.{Label, Frame, Slot, first, lone, after, more, Mode, value, named, inner, close, inside, colon, done, Config, Step, go, refuse, Begins, container, scalar, identifier, nothing, span_of, is_mark, closer, is_object, key_of, begins, head_by, with_stop, label, finished, ended, go_to, refuse_if, is_comma, empty_by_comma, holds, key_step, close_or, no_node, counted, value_step, fresh_value, child_step, slot_step, mode_step, step, Outcome, taken, refused, at_end, after_step, run, before}
use Rattle.text.specs.Refusal.{Refusal}
use Rattle.reader.specs.Reading.{outcome, reading, is_taken, node_limit, limits_of, node_count, table_of, answer_of, max_text}
use Rattle.reader.proofs.StopLaws.{stops_size}
use Rattle.reader.proofs.TableLaws.{length_rows}

pub sizes_snoc : (f : Forest) (t : Tree) → sizes (snoc f t) ≡ sizes f + size t
unfolding size snoc
sizes_snoc nil t = omega arith
sizes_snoc (cons u f) t = let e = sizes_snoc f t in omega arith

pub count_snoc : (f : Forest) (t : Tree) → count (snoc f t) ≡ suc (count f)
unfolding count snoc
count_snoc nil t = refl
count_snoc (cons u f) t = ap suc (count_snoc f t)

-- one child more: its words come last
pub rows_all_snoc : (parent n : ℕ) (f : Forest) (t : Tree) → rows_all parent n (snoc f t) ≡ rows_all parent n f ++ rows parent (n + sizes f) t
unfolding rows size snoc
rows_all_snoc parent n nil t =
    let e : n ≡ n + 0 = omega arith in
    append-nil (rows parent n t) ∙ ap (λ (m : ℕ). rows parent m t) e
rows_all_snoc parent n (cons u f) t =
    let e : n + size u + sizes f ≡ n + (size u + sizes f) = omega arith in
    ap (λ (l : List ℕ). rows parent n u ++ l) (rows_all_snoc parent (n + size u) f t)
    ∙ sym (append_assoc (rows parent n u) (rows_all parent (n + size u) f) (rows parent (n + size u + sizes f) t))
    ∙ ap (λ (m : ℕ). rows parent n u ++ rows_all parent (n + size u) f ++ rows parent m t) e

-- the nodes of the open containers with their finished children, and of what the mode holds
unfoldable pub frames_size : List Frame → ℕ
frames_size [] = 0
frames_size (f ∷ fs) = suc (sizes f.children) + frames_size fs

unfoldable pub mode_size : Mode → ℕ
mode_size (value any key) = 0
mode_size (named any l) = 1
mode_size (inner any l) = 1
mode_size (close tree) = size tree
mode_size (inside slot) = 0
mode_size (colon key) = 0
mode_size (done tree) = size tree

module _ (limits : Limits) where
  unfoldable pub Counted : Config → Type 0
  Counted c = (c.nodes ≡ frames_size c.stack + mode_size c.mode) × (c.nodes ≤ limits.nodes)

  unfoldable pub CountedStep : Step → Type 0
  CountedStep (go c) = Counted c
  CountedStep (refuse k) = Unit {0}

  refuse_or : (b : Bool) (k : ℕ) (s : Step) → (T (not b) → CountedStep s) → CountedStep (refuse_if b k s)
  unfolding refuse_if CountedStep
  refuse_or true k s g = tt
  refuse_or false k s g = g tt

  finished_counted : (n : ℕ) (fs : List Frame) (t : Tree) → n ≡ frames_size fs + size t → n ≤ limits.nodes → Counted (finished fs n t)
  unfolding finished Counted frames_size mode_size
  finished_counted n [] t e l = (e, l)
  finished_counted n (f ∷ fs) t e l = let q = sizes_snoc f.children t in (omega arith, l)

  ended_counted : (n : ℕ) (fs : List Frame) (o : Option Span) (t : Tree) → n ≡ frames_size fs + size t → n ≤ limits.nodes → Counted (ended fs n o t)
  unfolding ended Counted mode_size
  ended_counted n fs none t e l = finished_counted n fs t e l
  ended_counted n fs (some s) t e l = (e, l)

  -- a value that begins: one node more if it is fresh, else the node that its identifier has taken
  before_value : Bool → Config → Type 0
  before_value fresh c = (c.nodes ≡ frames_size c.stack + cond fresh 0 1) × (c.nodes ≤ limits.nodes)

  after_value : (fresh : Bool) (c : Config) → before_value fresh c → T (not (no_node limits fresh c))
      → (counted limits fresh c ≡ frames_size c.stack + 1) × (counted limits fresh c ≤ limits.nodes)
  unfolding before_value no_node counted
  after_value true c b t = let h = nleb→lt limits.nodes c.nodes t in (omega arith, omega arith)
  after_value false c b t = b

  value_counted : (c : Config) (fresh any : Bool) (l : Label) (t : Token) (b : Begins) → before_value fresh c
      → CountedStep (value_step limits c fresh any l t b)
  unfolding value_step CountedStep Counted frames_size mode_size size
  value_counted c fresh any l t (container k) h =
      refuse_or (leb limits.depth (length c.stack)) 9 _ (λ _. refuse_or (no_node limits fresh c) 10 _
      (λ q. let w = after_value fresh c h q in (omega arith, w.1)))
  value_counted c fresh any l t (scalar s) h =
      refuse_or (not any) 7 _ (λ _. refuse_or (no_node limits fresh c) 10 _
      (λ q. let w = after_value fresh c h q in ended_counted (counted limits fresh c) c.stack l.name (leaf (head_by l t.stop) s) w.0 w.1))
  value_counted c fresh any l t identifier h =
      refuse_or (not fresh) 7 _ (λ _. refuse_or (no_node limits fresh c) 10 _ (λ q. after_value fresh c h q))
  value_counted c fresh any l t nothing h = tt

  fresh_counted : (c : Config) (any : Bool) (key : Option Span) (t : Token) → mode_size c.mode ≡ 0 → Counted c → CountedStep (fresh_value limits c any key t)
  unfolding fresh_value before_value Counted
  fresh_counted c any key t e g = value_counted c true any (label t.start key none) t (begins (span_of t) t.form) (omega arith, g.1)

  key_counted : (c : Config) (f : Frame) (fs : List Frame) (span : Span) (k : Option (List ℕ)) → c.nodes ≡ frames_size (f ∷ fs) → c.nodes ≤ limits.nodes
      → CountedStep (key_step f fs c.nodes span k)
  unfolding key_step CountedStep Counted frames_size mode_size
  key_counted c f fs span none e l = tt
  key_counted c f fs span (some k) e l = refuse_or (holds f.keys k) 8 _ (λ _. (omega arith, l))

  close_counted : (c : Config) (f : Frame) (fs : List Frame) (t : Token) (other : Step) → c.nodes ≡ frames_size (f ∷ fs) → c.nodes ≤ limits.nodes
      → CountedStep other → CountedStep (close_or c f fs t other)
  unfolding close_or CountedStep frames_size size
  close_counted c f fs t other e l g =
      cond_both CountedStep (is_mark (closer f.kind) t.form)
      (λ _. ended_counted c.nodes fs f.label.name (branch (head_by f.label t.stop) f.kind f.children) (omega arith) l)
      (λ _. g)

  slot_counted : (sw : Switches) (c : Config) (t : Token) (slot : Slot) (fs : List Frame) → c.stack ≡ fs → mode_size c.mode ≡ 0 → Counted c → CountedStep (slot_step sw limits c t slot fs)
  unfolding slot_step child_step CountedStep Counted mode_size
  slot_counted sw c t slot [] q e g = tt
  slot_counted sw c t slot (f ∷ fs) q e g = go_on slot
    where
      n : c.nodes ≡ frames_size (f ∷ fs)
      n = let p = ap frames_size q in omega arith

      child : CountedStep (child_step limits c f fs t)
      child =
          cond_both CountedStep (is_object f.kind) (λ _. key_counted c f fs (span_of t) (key_of t.form) n g.1) (λ _. fresh_counted c true none t e g)

      same : (m : Mode) → mode_size m ≡ 0 → CountedStep (go_to c m)
      same m k = (omega arith, g.1)

      go_on : (slot' : Slot) → CountedStep (slot_step sw limits c t slot' (f ∷ fs))
      go_on first = close_counted c f fs t _ n g.1 (cond_both CountedStep (is_comma t.form && empty_by_comma sw f.kind) (λ _. same (inside lone) refl) (λ _. child))
      go_on lone = close_counted c f fs t (refuse 7) n g.1 tt
      go_on after = close_counted c f fs t _ n g.1 (cond_both CountedStep (is_comma t.form) (λ _. same (inside more) refl) (λ _. tt))
      go_on more = close_counted c f fs t _ n g.1 child

  pub mode_counted : (sw : Switches) (c : Config) (t : Token) (m : Mode) → c.mode ≡ m → Counted c → CountedStep (mode_step sw limits c t m)
  unfolding mode_step CountedStep Counted mode_size before_value
  mode_counted sw c t (value any key) e g = fresh_counted c any key t (ap mode_size e) g
  mode_counted sw c t (named any l) e g =
      cond_both CountedStep (is_mark "(" t.form) (λ _. (let p = ap mode_size e in omega arith, g.1)) (λ _. tt)
  mode_counted sw c t (inner any l) e g =
      let p = ap mode_size e in
      value_counted c false any l t (begins (span_of t) t.form) (omega arith, g.1)
  mode_counted sw c t (close tree) e g =
      cond_both CountedStep (is_mark ")" t.form)
      (λ _.
      let p = ap mode_size e in
      let q = stops_size t.stop tree in
      finished_counted c.nodes c.stack (with_stop t.stop tree) (omega arith) g.1)
      (λ _. tt)
  mode_counted sw c t (inside slot) e g = slot_counted sw c t slot c.stack refl (ap mode_size e) g
  mode_counted sw c t (colon key) e g =
      cond_both CountedStep (is_mark ":" t.form) (λ _. (let p = ap mode_size e in omega arith, g.1)) (λ _. tt)
  mode_counted sw c t (done tree) e g = tt

  unfoldable pub OutcomeFits : Outcome → Type 0
  OutcomeFits (taken tree) = size tree ≤ limits.nodes
  OutcomeFits (refused number place) = Unit {0}

  end_fits : (c : Config) (place : ℕ) (m : Mode) → c.mode ≡ m → Counted c → OutcomeFits (at_end place m)
  unfolding at_end OutcomeFits Counted mode_size
  end_fits c place (value any key) e g = tt
  end_fits c place (named any l) e g = tt
  end_fits c place (inner any l) e g = tt
  end_fits c place (close tree) e g = tt
  end_fits c place (inside slot) e g = tt
  end_fits c place (colon key) e g = tt
  end_fits c place (done tree) e g = let p = ap mode_size e in omega arith

  after_fits : (place : ℕ) (s : Step) (rest : Config → Outcome) → CountedStep s → ((c : Config) → Counted c → OutcomeFits (rest c)) → OutcomeFits (after_step place s rest)
  unfolding after_step CountedStep OutcomeFits
  after_fits place (go c) rest g k = k c g
  after_fits place (refuse number) rest g k = tt

  run_fits : (sw : Switches) (ts : Tokens) (c : Config) → Counted c → OutcomeFits (run sw limits ts c)
  unfolding run step OutcomeFits
  run_fits sw (L.next t ts) c g =
      after_fits t.start (step sw limits c t) (λ d. run sw limits ts d) (mode_counted sw c t c.mode refl g) (λ d h. run_fits sw ts d h)
  run_fits sw (L.end place) c g = end_fits c place c.mode refl g
  run_fits sw (Tokens.fault number place) c g = tt

  pub outcome_fits : (sw : Switches) (any : Bool) (text : List ℕ) → OutcomeFits (outcome sw any limits text)
  unfolding outcome OutcomeFits before Counted frames_size mode_size
  outcome_fits sw any text =
      cond_both OutcomeFits (leb (length text) max_text)
      (λ _. cond_both OutcomeFits (is_whole (utf8 text)) (λ _. run_fits sw (tokens sw text) (before any) (omega arith, zero-le)) (λ _. tt))
      (λ _. tt)

pub outcome_count : (limits : Limits) (o : Outcome) → OutcomeFits limits o → node_count o ≤ limits.nodes
unfolding OutcomeFits node_count
outcome_count limits (taken t) h = h
outcome_count limits (refused number place) h = zero-le

-- "nodes at most the smaller of 4,096 and the lent table's words divided by 12"
pub count_law : (sw : Switches) (words : ℕ) (text : List ℕ) → node_count (reading sw words text) ≤ min 4096 (words / node_words)
unfolding reading limits_of node_limit
count_law sw words text = outcome_count (limits_of words) (outcome sw false (limits_of words) text) (outcome_fits (limits_of words) sw false text)

table_length : (words : ℕ) (o : Outcome) → node_count o ≤ words / node_words → length (table_of words o) ≡ words
unfolding table_of node_count padded
table_length words (taken t) h =
    let l = length_rows no_parent 0 t in
    let a = length-append (rows no_parent 0 t) (replicate (words - length (rows no_parent 0 t)) 0) in
    let b = length-replicate {A = ℕ} (words - length (rows no_parent 0 t)) 0 in
    let d = div-mul-le_self words 12 in
    omega arith
table_length words (refused number place) h = length-replicate words 0

-- the table keeps its length
pub table_law : (sw : Switches) (words : ℕ) (text : List ℕ) → length (table_of words (reading sw words text)) ≡ words
table_law sw words text = let h = count_law sw words text in table_length words (reading sw words text) (omega arith)

-- ---- what an answer tells: that the text is taken, and the count

pub taken_is : (o : Outcome) (n : ℕ) → answer_of o ≡ Ok n → is_taken o ≡ true
unfolding answer_of is_taken
taken_is (taken tree) n e = refl
taken_is (refused k p) n e = cc

pub taken_not : (o : Outcome) (f : Refusal) → answer_of o ≡ Err f → is_taken o ≡ false
unfolding answer_of is_taken
taken_not (taken tree) f e = cc
taken_not (refused k p) f e = refl

pub taken_nodes : (o : Outcome) (n : ℕ) → answer_of o ≡ Ok n → n ≡ node_count o
unfolding answer_of node_count
taken_nodes (taken tree) n e = cc
taken_nodes (refused k p) n e = cc

pub refused_nodes : (o : Outcome) (f : Refusal) → answer_of o ≡ Err f → 0 ≡ node_count o
unfolding answer_of node_count
refused_nodes (taken tree) f e = cc
refused_nodes (refused k p) f e = refl
