-- Values, identifiers, and the value in an identifier's brackets: what their readers have done, one law for each way out.
-- Assumes nothing.
use Rattle.std.specs.Prelude.{Ok, Err}
use mathlib.Core.Path.{◌≡◌, refl, ap, sym, subst, ◌∙◌}
use mathlib.Core.List.{List}
use mathlib.Core.Option.{Option, none, some}
use mathlib.Core.Bool.{Bool, true, false, not, cond, ◌&&◌, false≢true}
use Prim.Native.Nat.{ℕ, suc, ◌+◌, ◌*◌, ◌<◌, ◌≤◌}
use native.Mathlib.Omega.{arith}
use lib.Dec.{leb}
use lib.ListN.{length, set, get_or}
use lib.Seq.{sets}
use borrow.Author.Tests.{le-leb, lt-leb, eq-eqb}
use Rattle.text.specs.declared.switches.Switches.{Switches}
use Rattle.lexer.specs.declared.item.TokenKind.{TokenKind}
use Rattle.lexer.specs.Token as L
use Rattle.reader.specs.declared.tree.Words.{Words}
use Rattle.reader.specs.declared.tree.Limits.{Limits}
use Rattle.text.specs.Refusal.{Refusal, refusal}
use Rattle.reader.specs.declared.tree.Rules.{Rules}
use Rattle.reader.specs.declared.tree.Due.{Due}
use Rattle.reader.specs.declared.tree.Label as CL
use Rattle.lexer.specs.declared.item.Token as CT
use Rattle.text.specs.declared.span.Span as CS
use Rattle.reader.specs.declared.tree.Begin.{Begin}
use Rattle.std.specs.declared.option.Option as Rust
use Rattle.reader.specs.declared.values.Progress.{Progress}
use Rattle.std.specs.declared.result.Result.{Result}
use Rattle.reader.specs.Tree.{Span, leaf, size, head_of, rows, node_words}
use Rattle.reader.specs.Syntax.{Label, label, Frame, value, named, inner, close, config, Step, go, refuse_if, Begins, scalar, identifier, nothing, begins, span_of, is_mark, head_by, with_stop, ended, finished, no_node, counted, value_step, mode_step, step, Outcome, at_end, after_step}
use Rattle.reader.specs.Internal.Tokens.{form_at, token_at, LeafIs, BeginIs, Begun, begins_at}
use Rattle.reader.specs.Kinds.{number_of_kind}
use Rattle.reader.specs.Internal.Ahead.{ahead_after}
use Rattle.reader.specs.Internal.Values.{span_at, label_of, SpansApart, named_label, named_due, row_words, row_of, run_from, nodes_at, opened, Ready, Placed, is_full, leaf_progress, leaf_table, ValueRead, ValueRefused, ProgressIs, opened_by, ReadAs}
use Rattle.reader.proofs.StopLaws.{stops_size, stops_key, stops_start, stops_stop}
use Rattle.reader.proofs.StepRun.{Peeked, Marked, Wants, NotMarked, PastMark, peek_run, mark_go, not_mark, mode_free, past_refuses}
use Rattle.reader.proofs.ItemRun.{span_some}
use Rattle.text.proofs.ListLaws.{get_d_before_sets}
use Rattle.reader.proofs.RowLaws.{leaf_row, stop_row}
use Rattle.reader.proofs.BodyRun.{no_node_law, count_one, node_left}

-- ---- what a token begins

module _ {sw : Switches} {s : List ℕ} {start stop : ℕ} {r : Rust.Option Begin} where
  pub begun_as : (q : Rust.Option Begin) → r ≡ q → Begun sw s start stop r → BeginIs sw s start stop q
  begun_as q e h = subst (BeginIs sw s start stop) e h.is

-- ---- values that hold no others

module _ (sw : Switches) (limits : Limits) (s : List ℕ) (start stop : ℕ) (fresh any : Bool) (p : CL.Label) (n d : ℕ) (v : Words) (W : LeafIs sw s start stop v) where
  unfoldable ω : List Frame → Outcome
  ω stack = opened sw limits s start stop fresh any (label_of p) n (begins (span_of (token_at sw s start stop)) (form_at sw s start)) stack

  leaf_run : (stack : List Frame)
      → ω stack ≡ after_step start (value_step limits (config stack (value any none) (nodes_at fresh n)) fresh any (label_of p) (token_at sw s start stop) (scalar W.value)) (λ c. run_from sw limits s stop c)
  unfolding opened ω
  leaf_run stack = ap (λ (b : Begins). after_step start (value_step limits (config stack (value any none) (nodes_at fresh n)) fresh any (label_of p) (token_at sw s start stop) b) (λ c. run_from sw limits s stop c)) W.is

  leaf_not : any ≡ false → (tab : List ℕ) → ValueRefused (opened sw limits s start stop fresh any (label_of p) n (begins (span_of (token_at sw s start stop)) (form_at sw s start))) d n tab tab 7 start
  unfolding value_step refuse_if after_step ω
  leaf_not e tab = record { ran = λ stack h. leaf_run stack ∙ rw e; kept = λ x h. refl }

  leaf_full : any ≡ true → (fresh && leb limits.nodes n) ≡ true → (tab : List ℕ) → ValueRefused (opened sw limits s start stop fresh any (label_of p) n (begins (span_of (token_at sw s start stop)) (form_at sw s start))) d n tab tab 10 start
  unfolding value_step refuse_if after_step ω
  leaf_full e f tab =
      record {
        kept = λ x h. refl;
        ran =
            λ stack h.
            leaf_run stack
            ∙ ap (λ (x : Bool). after_step start (refuse_if (not x) 7 (refuse_if (no_node limits fresh (config stack (value any none) (nodes_at fresh n))) 10 (go (ended stack (counted limits fresh (config stack (value any none) (nodes_at fresh n))) (label_of p).name (leaf (head_by (label_of p) stop) W.value))))) (λ c. run_from sw limits s stop c)) e
            ∙ ap (λ (x : Bool). after_step start (refuse_if x 10 (go (ended stack (counted limits fresh (config stack (value any none) (nodes_at fresh n))) (label_of p).name (leaf (head_by (label_of p) stop) W.value)))) (λ c. run_from sw limits s stop c)) (no_node_law limits stack (value any none) fresh n ∙ f);
      }

  leaf_value : SpansApart p → any ≡ true → (fresh && leb limits.nodes n) ≡ false → n < limits.nodes → start < stop → stop ≤ length s → (parent : ℕ) (tin out : List ℕ)
      → out ≡ sets tin (node_words * n) (row_words (number_of_kind v.kind) parent p stop (n + 1) v.low v.high v.extra)
      → ValueRead sw limits s (opened sw limits s start stop fresh any (label_of p) n (begins (span_of (token_at sw s start stop)) (form_at sw s start))) (label_of p) start d parent n tin out stop (n + 1)
  unfolding value_step refuse_if after_step ω size head_of head_by
  leaf_value ok e f r o i parent tin out w =
      record {
        tree = leaf (head_by (label_of p) stop) W.value;
        keyed = refl;
        begun = refl;
        stopped = refl;
        grew = refl;
        below = omega arith;
        ahead = o;
        inside = i;
        wrote = w ∙ ap (sets tin (node_words * n)) (leaf_row p ok parent n stop W.value v W.words);
        ran =
            λ stack h.
            leaf_run stack
            ∙ ap (λ (x : Bool). after_step start (refuse_if (not x) 7 (refuse_if (no_node limits fresh (config stack (value any none) (nodes_at fresh n))) 10 (go (ended stack (counted limits fresh (config stack (value any none) (nodes_at fresh n))) (label_of p).name (leaf (head_by (label_of p) stop) W.value))))) (λ c. run_from sw limits s stop c)) e
            ∙ ap (λ (x : Bool). after_step start (refuse_if x 10 (go (ended stack (counted limits fresh (config stack (value any none) (nodes_at fresh n))) (label_of p).name (leaf (head_by (label_of p) stop) W.value)))) (λ c. run_from sw limits s stop c)) (no_node_law limits stack (value any none) fresh n ∙ f)
            ∙ ap (λ (x : ℕ). run_from sw limits s stop (ended stack x (label_of p).name (leaf (head_by (label_of p) stop) W.value))) (count_one limits stack (value any none) fresh n);
      }

-- what `put_leaf` has answered and written
pub leaf_read : {rules : Rules} {s : List ℕ} {due : Due} {p : CS.Span} {w : Words} {tin tout : List ℕ} {r : Result Progress Refusal} → Ready rules.limits tin due → Placed s p
    → LeafIs rules.sw s p.start p.stop w → r ≡ leaf_progress rules.limits due p → tout ≡ leaf_table rules.limits due p w tin
    → ReadAs rules s due p (begins_at rules.sw s p) tin tout r
unfolding leaf_progress leaf_table
leaf_read {rules} {s} {due} {p} {w} {tin} {tout} {r} R P W e v = by due.any (is_full rules.limits due) refl refl e v
  where
    same_table : {number place : ℕ} → tout ≡ tin → ValueRefused (opened_by rules s due p (begins_at rules.sw s p)) due.spot.depth due.spot.node tin tin number place
        → ValueRefused (opened_by rules s due p (begins_at rules.sw s p)) due.spot.depth due.spot.node tin tout number place
    same_table q S = record { ran = S.ran; kept = λ x h. ap (λ (l : List ℕ). get_or l x 0) q }

    by : (a f : Bool) → due.any ≡ a → is_full rules.limits due ≡ f
        → r ≡ cond a (cond f (Err (refusal 10 p.start)) (Ok (record { stop = p.stop; next = (due.spot.node + 1) }))) (Err (refusal 7 p.start))
        → tout ≡ cond a (cond f tin (sets tin (node_words * due.spot.node) (row_of due w p.stop (due.spot.node + 1)))) tin
        → ReadAs rules s due p (begins_at rules.sw s p) tin tout r
    by true true a f q u =
        record { is = subst (ProgressIs rules.sw rules.limits s (opened_by rules s due p (begins_at rules.sw s p)) (label_of due.label) p.start due.spot.depth due.spot.parent due.spot.node tin tout) (sym q) (same_table u (leaf_full rules.sw rules.limits s p.start p.stop due.fresh due.any due.label due.spot.node due.spot.depth w W a f tin)) }
    by true false a f q u =
        record { is = subst (ProgressIs rules.sw rules.limits s (opened_by rules s due p (begins_at rules.sw s p)) (label_of due.label) p.start due.spot.depth due.spot.parent due.spot.node tin tout) (sym q) (leaf_value rules.sw rules.limits s p.start p.stop due.fresh due.any due.label due.spot.node due.spot.depth w W R.label a f (node_left rules.limits.nodes due.fresh due.spot.node f R.counted) P.ordered P.inside due.spot.parent tin tout u) }
    by false f a g q u =
        record { is = subst (ProgressIs rules.sw rules.limits s (opened_by rules s due p (begins_at rules.sw s p)) (label_of due.label) p.start due.spot.depth due.spot.parent due.spot.node tin tout) (sym q) (same_table u (leaf_not rules.sw rules.limits s p.start p.stop due.fresh due.any due.label due.spot.node due.spot.depth w W a tin)) }

-- ---- tokens that begin nothing

pub nothing_refused : (sw : Switches) (limits : Limits) (s : List ℕ) (start stop : ℕ) (fresh any : Bool) (l : Label) (n : ℕ) (b : Begins) (d : ℕ) (tab : List ℕ) → b ≡ nothing
    → ValueRefused (opened sw limits s start stop fresh any l n b) d n tab tab 7 start
unfolding opened value_step after_step
nothing_refused sw limits s start stop fresh any l n b d tab e =
    record { ran = λ stack h. ap (λ (x : Begins). opened sw limits s start stop fresh any l n x stack) e; kept = λ x h. refl }

-- ---- identifiers

-- no identifier in an identifier's bracket
pub name_twice : (sw : Switches) (limits : Limits) (s : List ℕ) (start stop : ℕ) (fresh any : Bool) (l : Label) (n d : ℕ) (tab : List ℕ) → fresh ≡ false
    → ValueRefused (opened sw limits s start stop fresh any l n identifier) d n tab tab 7 start
unfolding opened value_step refuse_if after_step
name_twice sw limits s start stop fresh any l n d tab e = record { ran = λ stack h. rw e; kept = λ x h. refl }

-- the label of a value with no name
no_name : (p : CL.Label) → p.name.stop ≡ 0 → (label_of p).name ≡ none
unfolding label_of span_at
no_name p e = rw (eq-eqb p.name.stop 0 e)

-- the value in the bracket of an identifier is due
pub named_ready : {limits : Limits} {s tab : List ℕ} {due other : Due} {name : CS.Span} → other ≡ named_due due name → Ready limits tab due → Placed s name → due.spot.node < limits.nodes → Ready limits tab other
named_ready {limits} {s} {tab} {due} {other} {name} e R P h =
    let o = P.ordered in
    subst (Ready limits tab) (sym e)
    (record {
      table = R.table;
      counted = λ _. h;
      below = R.below;
      label =
          record {
            keys = R.label.keys;
            names = λ q. let z : ⊥ = omega arith in absurd z;
          };
      unnamed = λ q. absurd (false≢true q);
    })

-- the value in the bracket of an identifier
module _ (sw : Switches) (limits : Limits) (s : List ℕ) (from : ℕ) (any : Bool) (l : Label) (n : ℕ) where
  inner_run : (k : TokenKind) (start stop : ℕ) → Peeked sw s from k start stop → (stack : List Frame)
      → run_from sw limits s from (config stack (inner any l) (suc n)) ≡ opened sw limits s start stop false any l n (begins (span_of (token_at sw s start stop)) (form_at sw s start)) stack
  unfolding step mode_step opened
  inner_run k start stop q stack =
      peek_run sw limits s from (config stack (inner any l) (suc n)) k start stop q
      ∙ ap (λ (x : Step). after_step start x (λ c. run_from sw limits s stop c)) (mode_free limits stack (inner any l) (value any none) (suc n) false any l (token_at sw s start stop) (begins (span_of (token_at sw s start stop)) (form_at sw s start)))

module _ (sw : Switches) (limits : Limits) (s : List ℕ) (start stop : ℕ) (fresh any : Bool) (p : CL.Label) (n d : ℕ) (new : fresh ≡ true) where
  pub name_full : limits.nodes ≤ n → (tab : List ℕ) → ValueRefused (opened sw limits s start stop fresh any (label_of p) n identifier) d n tab tab 10 start
  unfolding opened value_step refuse_if no_node after_step
  name_full h tab = record { ran = λ stack e. rw (new, le-leb limits.nodes n h); kept = λ x g. refl }

  module _ (h : n < limits.nodes) (o : start < stop) where
    -- the label with the identifier's name, as the code has it
    abbrev r : CL.Label
    r = named_label p (record { start = start; stop = stop })

    name_label : label_of r ≡ label p.start (span_at p.key.start p.key.stop) (some (record { start = start; stop = stop }))
    unfolding label_of
    name_label = ap (label p.start (span_at p.key.start p.key.stop)) (span_some start stop o)

    name_run : (stack : List Frame) → opened sw limits s start stop fresh any (label_of p) n identifier stack ≡ run_from sw limits s stop (config stack (named any (label_of r)) (suc n))
    unfolding opened value_step refuse_if no_node counted after_step span_of label_of
    name_run stack =
        ap (λ (x : Bool). opened sw limits s start stop x any (label_of p) n identifier stack) new
        ∙ ap (λ (x : Bool). after_step start (refuse_if x 10 (go (config stack (named any (label (label_of p).start (label_of p).key (some (record { start = start; stop = stop })))) (suc n)))) (λ c. run_from sw limits s stop c)) (lt-leb limits.nodes n h)
        ∙ ap (λ (x : Label). run_from sw limits s stop (config stack (named any x) (suc n))) (sym name_label)

    named_wants : (stack : List Frame) → Wants sw limits 40 (config stack (named any (label_of r)) (suc n))
    unfolding step mode_step at_end
    named_wants stack = record { others = λ t q. rw (not_mark t.form "(" q); ends = λ place. refl }

    named_goes : (stack : List Frame) (a e : ℕ)
        → step sw limits (config stack (named any (label_of r)) (suc n)) (record { form = L.mark 40; start = a; stop = e }) ≡ go (config stack (inner any (label_of r)) (suc n))
    unfolding step mode_step is_mark
    named_goes stack a e = refl

    -- no bracket, or no token in it
    pub name_not : (f : Refusal) (tab : List ℕ) → stop ≤ length s → ahead_after sw s stop 40 ≡ Err f
        → ValueRefused (opened sw limits s start stop fresh any (label_of p) n identifier) d n tab tab f.number f.place
    unfolding at_end
    name_not f tab i q =
        record {
          kept = λ x h. refl;
          ran =
              λ stack e.
              name_run stack
              ∙ past_refuses sw s stop 40 i f q limits (config stack (named any (label_of r)) (suc n)) (config stack (inner any (label_of r)) (suc n)) (named_wants stack) (named_goes stack) (λ place. refl);
        }

    module _ (t : CT.Token) (q : PastMark sw s stop 40 t) where
      name_open : (stack : List Frame) → opened sw limits s start stop fresh any (label_of p) n identifier stack ≡ opened sw limits s t.span.start t.span.stop false any (label_of r) n (begins_at sw s t.span) stack
      name_open stack =
          name_run stack
          ∙ mark_go sw limits s stop (config stack (named any (label_of r)) (suc n)) 40 q.place (config stack (inner any (label_of r)) (suc n)) q.mark (named_goes stack q.mark.start q.place)
          ∙ inner_run sw limits s q.place any (label_of r) n t.kind t.span.start t.span.stop q.token stack

      pub name_refused : (tin out : List ℕ) (number place : ℕ) → ValueRefused (opened sw limits s t.span.start t.span.stop false any (label_of r) n (begins_at sw s t.span)) d n tin out number place
          → ValueRefused (opened sw limits s start stop fresh any (label_of p) n identifier) d n tin out number place
      name_refused tin out number place T = record { ran = λ stack y. name_open stack ∙ T.ran stack y; kept = T.kept }

      module _ (parent : ℕ) (tin out : List ℕ) (j m : ℕ) (T : ValueRead sw limits s (opened sw limits s t.span.start t.span.stop false any (label_of r) n (begins_at sw s t.span)) (label_of r) t.span.start d parent n tin out j m) where
        closed_run : (stack : List Frame) → length stack ≡ d → opened sw limits s start stop fresh any (label_of p) n identifier stack ≡ run_from sw limits s j (config stack (close T.tree) m)
        unfolding ended
        closed_run stack y =
            name_open stack ∙ T.ran stack y ∙ ap (λ (x : Label). run_from sw limits s j (ended stack m x.name T.tree)) name_label

        close_wants : (stack : List Frame) → Wants sw limits 41 (config stack (close T.tree) m)
        unfolding step mode_step at_end
        close_wants stack = record { others = λ t w. rw (not_mark t.form ")" w); ends = λ place. refl }

        pub name_shut_not : (number place : ℕ) → NotMarked sw s j 41 number place → ValueRefused (opened sw limits s start stop fresh any (label_of p) n identifier) d n tin out number place
        name_shut_not number place w =
            record {
              ran = λ stack y. closed_run stack y ∙ w.ran limits (config stack (close T.tree) m) (close_wants stack);
              kept = λ x h. ap (λ (l : List ℕ). get_or l x 0) T.wrote ∙ get_d_before_sets (rows parent n T.tree) tin x (node_words * n) h;
            }

        pub name_read : p.name.stop ≡ 0 → (f : ℕ) → Marked sw s j 41 f → (last : List ℕ) → last ≡ set out (node_words * n + 3) f
            → ValueRead sw limits s (opened sw limits s start stop fresh any (label_of p) n identifier) (label_of p) start d parent n tin last f m
        unfolding step mode_step is_mark ended label_of
        name_read unnamed f w last v =
            let i = w.inside in
            let g = T.grew in
            let z = stops_size f T.tree in
            record {
              tree = with_stop f T.tree;
              keyed = stops_key f T.tree ∙ T.keyed ∙ ap (λ (x : Label). x.key) name_label;
              begun = stops_start f T.tree ∙ T.begun ∙ ap (λ (x : Label). x.start) name_label;
              stopped = stops_stop f T.tree;
              grew = omega arith;
              below = T.below;
              ahead = omega (arith, q.mark.ahead, q.mark.some, q.token.ahead, T.ahead, w.ahead, w.some);
              inside = i;
              wrote = stop_row tin out last parent n f T.tree T.wrote v;
              ran =
                  λ stack y.
                  closed_run stack y
                  ∙ mark_go sw limits s j (config stack (close T.tree) m) 41 f (finished stack m (with_stop f T.tree)) w refl
                  ∙ ap (λ (x : Option Span). run_from sw limits s f (ended stack m x (with_stop f T.tree))) (sym (no_name p unnamed));
            }
