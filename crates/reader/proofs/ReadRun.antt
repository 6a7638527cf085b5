-- The whole text: what its reading has answered and written, one law for each way out.
-- Assumes nothing.
use Rattle.std.specs.Prelude.{Ok, Err}
use mathlib.Core.Path.{◌≡◌, refl, ap, sym, subst, ◌∙◌}
use mathlib.Core.List.{List, [], ◌++◌}
use mathlib.Core.Option.{none}
use mathlib.Core.Bool.{Bool, true, false, ◌&&◌}
use Prim.Native.Nat.{ℕ, ◌*◌, ◌/◌, ◌<◌, ◌≤◌}
use native.Mathlib.Nat.{zero-add}
use native.Mathlib.Omega.{arith}
use lib.Dec.{eqb}
use lib.ListN.{length, replicate, drop, length-replicate}
use lib.Seq.{sets, sets-eq}
use borrow.Author.Tests.{le-leb, lt-leb}
use Rattle.text.specs.declared.switches.Switches.{Switches}
use Rattle.text.specs.Utf8.{utf8, is_whole, whole_front}
use Rattle.text.proofs.Utf8Laws.{utf8_whole, utf8_less}
use Rattle.lexer.specs.declared.item.TokenKind.{TokenKind}
use Rattle.lexer.specs.declared.item.Next.{Next}
use Rattle.std.specs.declared.result.Result.{Result}
use Rattle.lexer.specs.declared.item.Next.TheVariants as N
use Rattle.lexer.specs.Token.{tokens, tokens_from}
use Rattle.lexer.specs.Answer.{first_of, refused_next}
use Rattle.text.proofs.ListLaws.{drop_zeros}
use Rattle.reader.specs.declared.tree.Limits.{Limits}
use Rattle.reader.specs.declared.tree.Rules.{Rules}
use Rattle.text.specs.Refusal.{Refusal}
use Rattle.reader.specs.declared.read.Whole.{Whole}
use Rattle.reader.specs.Tree.{rows, no_parent, padded, node_words}
use Rattle.reader.specs.Syntax.{label, value, done, config, ended, finished, mode_step, step, Outcome, refused, at_end, run, before}
use Rattle.reader.specs.Reading.{max_text, max_nodes, node_limit, limits_to, limits_alone, outcome, reading_to, table_of, answer_of, spans, one_value}
use Rattle.reader.specs.Internal.Ahead.{ahead_at}
use Rattle.reader.specs.Internal.Values.{span_at, run_from, opened_here, Roomy, ValueRead, ValueRefused}
use Rattle.reader.specs.Internal.Whole.{alone_of, alone_at, TreeRead, TreeIs, WholeAt, JudgedAt}
use Rattle.reader.proofs.TableLaws.{length_rows}
use Rattle.reader.proofs.StepRun.{Peeked, peeked, ahead_refuses, peek_refuse, end_run, fault_run, value_opens}

module _ {rules : Rules} {any : Bool} {s tin tout : List ℕ} {r : Result Whole Refusal} where
  pub tree_is : {start stop nodes : ℕ} → r ≡ Ok (record { start = start; stop = stop; nodes = nodes }) → JudgedAt rules any s tin tout r → TreeRead rules.limits (outcome rules.sw any rules.limits s) tin tout start stop nodes
  tree_is e h = subst (TreeIs rules.limits (outcome rules.sw any rules.limits s) tin tout) e h.is

  pub tree_not : {f : Refusal} → r ≡ Err f → JudgedAt rules any s tin tout r → outcome rules.sw any rules.limits s ≡ refused f.number f.place
  tree_not e h = subst (TreeIs rules.limits (outcome rules.sw any rules.limits s) tin tout) e h.is

-- ---- one value and nothing after it

module _ (sw : Switches) (limits : Limits) (any : Bool) (s : List ℕ) where
  from_start : run sw limits (tokens sw s) (before any) ≡ run_from sw limits s 0 (config [] (value any none) 0)
  unfolding run_from tokens tokens_from before
  from_start = refl

  pub whole_none : (f : Refusal) → ahead_at sw s 0 ≡ Err f → run sw limits (tokens sw s) (before any) ≡ refused f.number f.place
  unfolding at_end
  whole_none f e = from_start ∙ ahead_refuses sw s 0 f e limits (config [] (value any none) 0) (λ place. refl)

  module _ (k : TokenKind) (start stop : ℕ) (p : Peeked sw s 0 k start stop) where
    pub whole_refused : (tin tout : List ℕ) (number place : ℕ) → ValueRefused (opened_here sw limits s start stop any (span_at 0 0) 0) 0 0 tin tout number place → run sw limits (tokens sw s) (before any) ≡ refused number place
    unfolding span_at
    whole_refused tin tout number place T = from_start ∙ value_opens sw limits s 0 k start stop p any none [] 0 ∙ T.ran [] refl

    module _ (tin tout : List ℕ) (j m : ℕ) (T : ValueRead sw limits s (opened_here sw limits s start stop any (span_at 0 0) 0) (label start (span_at 0 0) none) start 0 no_parent 0 tin tout j m) where
      to_done : run sw limits (tokens sw s) (before any) ≡ run_from sw limits s j (config [] (done T.tree) m)
      unfolding span_at ended finished
      to_done = from_start ∙ value_opens sw limits s 0 k start stop p any none [] 0 ∙ T.ran [] refl

      whole_taken : (place : ℕ) → first_of (tokens_from sw s j) ≡ Ok (N.End place) → TreeRead limits (run sw limits (tokens sw s) (before any)) tin tout start j m
      unfolding at_end
      whole_taken place e =
          record {
            tree = T.tree;
            is = to_done ∙ end_run sw limits s j (config [] (done T.tree) m) place e;
            begun = T.begun;
            stopped = T.stopped;
            grew = omega (arith, T.grew);
            below = T.below;
            wrote = T.wrote;
          }

      whole_more : (kind : TokenKind) (a b : ℕ) → Peeked sw s j kind a b → run sw limits (tokens sw s) (before any) ≡ refused 7 a
      unfolding step mode_step
      whole_more kind a b q = to_done ∙ peek_refuse sw limits s j (config [] (done T.tree) m) kind a b 7 q refl

      whole_bad : (number place : ℕ) → first_of (tokens_from sw s j) ≡ refused_next number place → run sw limits (tokens sw s) (before any) ≡ refused number place
      whole_bad number place e = to_done ∙ fault_run sw limits s j (config [] (done T.tree) m) number place e

      -- what `only_value` has answered
      whole_by : (x : Result Next Refusal) → first_of (tokens_from sw s j) ≡ x → TreeIs limits (run sw limits (tokens sw s) (before any)) tin tout (alone_of start j m x)
      unfolding alone_of
      whole_by (Ok (N.Token t)) e = whole_more t.kind t.span.start t.span.stop (peeked sw s j t.kind t.span.start t.span.stop T.inside e)
      whole_by (Ok (N.End place)) e = whole_taken place e
      whole_by (Err f) e = whole_bad f.number f.place e

      pub whole_is : (r : Result Whole Refusal) → r ≡ alone_at sw s start j m → TreeIs limits (run sw limits (tokens sw s) (before any)) tin tout r
      whole_is r e = subst (TreeIs limits (run sw limits (tokens sw s) (before any)) tin tout) (sym e) (whole_by (first_of (tokens_from sw s j)) refl)

-- ---- length, then UTF-8, then the rest

module _ (sw : Switches) (limits : Limits) (any : Bool) (s : List ℕ) where
  pub too_long : max_text < length s → outcome sw any limits s ≡ refused 1 max_text
  unfolding outcome
  too_long h = rw (lt-leb (length s) max_text h)

  utf8_is : (t : Bool) → is_whole (utf8 s) ≡ t → whole_front (utf8 s) < length s → t ≡ false
  utf8_is true e h = let w = utf8_whole s e in absurd (omega arith)
  utf8_is false e h = refl

  whole_not : (t : Bool) → is_whole (utf8 s) ≡ t → length s ≤ whole_front (utf8 s) → t ≡ true
  whole_not true e h = refl
  whole_not false e h = let w = utf8_less s e in absurd (omega arith)

  pub not_utf8 : (front : ℕ) → length s ≤ max_text → front ≡ whole_front (utf8 s) → front < length s → outcome sw any limits s ≡ refused 2 front
  unfolding outcome
  not_utf8 front h e l =
      let g : whole_front (utf8 s) < length s = omega arith in
      rw (le-leb (length s) max_text h, utf8_is (is_whole (utf8 s)) refl g) (ap (refused 2) (sym e))

  is_run : (front : ℕ) → length s ≤ max_text → front ≡ whole_front (utf8 s) → length s ≤ front → outcome sw any limits s ≡ run sw limits (tokens sw s) (before any)
  unfolding outcome
  is_run front h e l =
      let g : length s ≤ whole_front (utf8 s) = omega arith in
      rw (le-leb (length s) max_text h, whole_not (is_whole (utf8 s)) refl g)

  judged_is : (tin tout : List ℕ) (r : Result Whole Refusal) (o q : Outcome) → q ≡ o → TreeIs limits o tin tout r → TreeIs limits q tin tout r
  judged_is tin tout (Ok w) o q e T =
      record { tree = T.tree; is = e ∙ T.is; begun = T.begun; stopped = T.stopped; grew = T.grew; below = T.below; wrote = T.wrote }
  judged_is tin tout (Err f) o q e T = e ∙ T

pub judged : (rules : Rules) (any : Bool) (s tin tout : List ℕ) (r : Result Whole Refusal) (front : ℕ) → length s ≤ max_text → front ≡ whole_front (utf8 s) → length s ≤ front → WholeAt rules any s tin tout r
    → JudgedAt rules any s tin tout r
judged rules any s tin tout r front h e l T =
    record {
      is =
          judged_is rules.sw rules.limits any s tin tout r (run rules.sw rules.limits (tokens rules.sw s) (before any)) (outcome rules.sw any rules.limits s)
          (is_run rules.sw rules.limits any s front h e l) T.is;
    }

-- ---- the table

rows_on_zeros : (words : ℕ) (vs : List ℕ) → length vs ≤ words → sets (replicate words 0) 0 vs ≡ padded words vs
unfolding padded
rows_on_zeros words vs h =
    sets-eq vs (replicate words 0) 0 (rw (zero-add, length-replicate) h)
    ∙ ap (λ (k : ℕ). vs ++ drop k (replicate words 0)) (zero-add (length vs))
    ∙ ap (λ (l : List ℕ). vs ++ l) (drop_zeros (length vs) words)

limit_room : (words : ℕ) → node_words * node_limit words ≤ words
unfolding node_limit
limit_room words = omega arith

pub limit_low : (words q : ℕ) → q ≡ words / node_words → q < max_nodes → q ≡ node_limit words
unfolding node_limit
limit_low words q e h = omega arith

pub limit_high : (words q : ℕ) → q ≡ words / node_words → max_nodes ≤ q → max_nodes ≡ node_limit words
unfolding node_limit
limit_high words q e h = omega arith

-- what `judge` asks of the limit
pub limit_fits : (depth nodes : ℕ) (tab : List ℕ) → nodes ≡ node_limit (length tab) → Roomy (record { depth = depth; nodes = nodes }) tab
unfolding node_limit
limit_fits depth nodes tab e = record { room = omega arith; small = omega arith }

module _ (sw : Switches) (s : List ℕ) (depth words : ℕ) (limits : Limits) (e : limits ≡ limits_to depth words) (tin : List ℕ) (z : tin ≡ replicate words 0) where
  to_reading : reading_to sw depth words s ≡ outcome sw false limits s
  unfolding reading_to
  to_reading = ap (λ (x : Limits). outcome sw false x s) (sym e)

  pub read_taken : (tout : List ℕ) (start stop nodes : ℕ) → TreeRead limits (outcome sw false limits s) tin tout start stop nodes
      → (Ok nodes ≡ answer_of (reading_to sw depth words s)) × (tout ≡ table_of words (reading_to sw depth words s))
  unfolding answer_of table_of
  read_taken tout start stop nodes T =
      let w = limit_room words in
      let n : limits.nodes ≡ node_limit words = ap (λ (x : Limits). x.nodes) e in
      let b = T.below in
      let g = T.grew in (
        ap Ok g ∙ sym (ap answer_of (to_reading ∙ T.is)),
        T.wrote ∙ ap (λ (l : List ℕ). sets l 0 (rows no_parent 0 T.tree)) z
            ∙ rows_on_zeros words (rows no_parent 0 T.tree) (omega (arith, length_rows no_parent 0 T.tree))
            ∙ sym (ap (table_of words) (to_reading ∙ T.is)),
      )

  pub read_refused : (tout last : List ℕ) (f : Refusal) → length tout ≡ length tin → last ≡ replicate (length tout) 0 → outcome sw false limits s ≡ refused f.number f.place
      → (Err f ≡ answer_of (reading_to sw depth words s)) × (last ≡ table_of words (reading_to sw depth words s))
  unfolding answer_of table_of
  read_refused tout last f l w o =
      let n : length tout ≡ words = l ∙ ap length z ∙ length-replicate words 0 in
      (sym (ap answer_of (to_reading ∙ o)), w ∙ ap (λ (k : ℕ). replicate k 0) n ∙ sym (ap (table_of words) (to_reading ∙ o)))

-- ---- one value alone

module _ (sw : Switches) (any : Bool) (s tin tout : List ℕ) where
  pub alone_taken : (limits : Limits) (start stop nodes : ℕ) (r : Bool) → limits ≡ limits_alone → TreeRead limits (outcome sw any limits s) tin tout start stop nodes
      → r ≡ (eqb start 0 && eqb stop (length s)) → r ≡ one_value sw any s
  unfolding one_value spans
  alone_taken limits start stop nodes r e T q =
      q ∙ sym (ap (λ (x : Limits). spans (length s) (outcome sw any x s)) (sym e) ∙ ap (spans (length s)) T.is
      ∙ (λ i. eqb (T.begun i) 0 && eqb (T.stopped i) (length s)))

module _ (sw : Switches) (any : Bool) (s : List ℕ) where
  pub alone_refused : (limits : Limits) (number place : ℕ) → limits ≡ limits_alone → outcome sw any limits s ≡ refused number place → false ≡ one_value sw any s
  unfolding one_value spans
  alone_refused limits number place e o = sym (ap (λ (x : Limits). spans (length s) (outcome sw any x s)) (sym e) ∙ ap (spans (length s)) o)
