-- A value replaced by another in a text that reads: the new text reads, or a limit (9, 10) value-refused its reading.
-- Assumes nothing.
use mathlib.Core.Path.{◌≡◌, refl, sym, ap, ◌∙◌, subst}
use Prim.Native.Nat.{ℕ, zero, suc, ◌+◌, ◌≤◌, ◌<◌}
use native.Mathlib.Omega.{arith}
use mathlib.Core.Bool.{Bool, true, false, cond, false≢true}
use mathlib.Core.List.{List, ◌++◌}
use lib.Dec.{T, leb, ltb, eqb}
use lib.ListN.{length, take, drop}
use lib.Seq.{take_at, drop_at}
use borrow.Author.Tests.{eqb-true, lt-ltb, le-leb}
use Rattle.text.specs.declared.switches.Switches.{Switches}
use Rattle.text.specs.Utf8.{utf8, is_whole, whole_front}
use Rattle.text.proofs.Choice.{cond-case, cond-true, and_right}
use Rattle.text.proofs.Utf8Join.{AsciiHead, utf8_replace}
use Rattle.lexer.specs.Token.{Tokens, cut, tokens}
use Rattle.lexer.proofs.Seams.{heads, goes_on}
use Rattle.lexer.proofs.SeamLaws.{map_tokens, on_by, cut_alone}
use Rattle.lexer.proofs.WalkLaws.{walk_before}
use Rattle.reader.specs.Tree.{Tree, size, head_of}
use Rattle.reader.specs.declared.tree.Limits.{Limits}
use Rattle.reader.specs.Syntax.{Frame, finished, Outcome, taken, refused, run, before}
use Rattle.reader.specs.Reading.{outcome, reading, limits_of, limits_alone, is_taken, reads, node_count, table_of, word_of, spans, one_value, max_text}
use Rattle.reader.proofs.TableLaws.{any_at, table_span}
use Rattle.reader.proofs.LimitLaws.{Fair, FairIf}
use Rattle.reader.proofs.PathLaws.{Moves, path_run}
use Rattle.reader.proofs.FrameLaws.{whole_like, run_like}
use Rattle.reader.proofs.AwaitLaws.{Awaits}
use Rattle.reader.proofs.EdgeLaws.{ready_follows, ends_behind}
use Rattle.reader.proofs.MoveLaws.{rekeyed, shift_tree, Reads, reads_on, limit_stops, value_reads}
use Rattle.reader.proofs.KnownLaws.{Entered, Left, Node, all_known}

-- ---- the run of the renewed text

module _ (sw : Switches) (limits limits' : Limits) (s r : List ℕ) (tree u : Tree) (any : Bool) (start stop : ℕ) (node : Node sw limits s tree any start stop)
    (alone : run sw limits' (cut sw 0 0 r) (before any) ≡ taken u) (to_end : (head_of u).value.stop ≡ length r) where
  abbrev g : Entered sw limits s tree node.below start
  g = node.entered

  abbrev o : Left sw limits s tree node.below stop
  o = node.left

  -- the text with the value replaced, by the two cuts
  abbrev renewed : List ℕ
  renewed = g.pre ++ (r ++ o.rest)

  renewed_is : take start s ++ (r ++ drop stop s) ≡ renewed
  renewed_is =
      let a : take start s ≡ g.pre = ap (take start) (sym g.split) ∙ take_at g.pre g.rest start g.place in
      let b : drop stop s ≡ o.rest = ap (drop stop) (sym o.split) ∙ drop_at o.pre o.rest stop o.place in
      λ i. a i ++ (r ++ b i)

  behind : (heads goes_on o.rest ≡ false) × AsciiHead o.rest
  behind = ends_behind sw limits stop node.below o.nodes o.value tree o.rest o.goes

  -- up to the value nothing changes
  to_value : run sw limits (cut sw 0 0 renewed) (before false) ≡ run sw limits (cut sw 0 (0 + length g.pre) (r ++ o.rest)) g.at
  to_value =
      path_run sw limits 0 (before false)
      (walk_before sw (Moves sw limits) 0 (before false) g.path (r ++ o.rest)
      (ready_follows sw limits 0 (before false) g.path (r ++ o.rest) g.ready g.opens))

  -- behind it the machine goes on as before
  after_value : (at n : ℕ) (v : Tree) → Fair (run sw limits (cut sw 0 at o.rest) (finished node.below n v))
  unfolding FairIf
  after_value at n v =
      subst (λ (ts : Tokens). Fair (run sw limits ts (finished node.below n v))) (sym (cut_alone sw at o.rest))
      (subst (λ (x : Outcome). FairIf x (run sw limits (map_tokens (on_by at) (on_by at) (cut sw 0 0 o.rest)) (finished node.below n v)))
      (ap (λ (ts : Tokens). run sw limits ts (finished node.below o.nodes o.value)) (sym (cut_alone sw stop o.rest)) ∙ o.goes)
      (run_like sw limits limits (on_by stop) (on_by stop) (on_by at) (on_by at) (cut sw 0 0 o.rest) (whole_like node.below o.nodes n o.value v)))

  -- the replacement moves the machine as it does alone
  awaits : Awaits sw limits any g.at
  awaits = subst (λ (x : Bool). Awaits sw limits x g.at) node.kind g.awaits

  all_through : Reads sw limits (0 + length g.pre) r o.rest g.at awaits.key u → Fair (run sw limits (cut sw 0 0 renewed) (before false))
  unfolding Fair
  all_through (limit_stops k place l q) = subst Fair (sym (to_value ∙ q)) l
  all_through (reads_on nodes q) =
      let at : ℕ = 0 + length g.pre + length r in
      let v : Tree = rekeyed awaits.key (shift_tree (0 + length g.pre) u) in
      subst Fair (sym (to_value ∙ q))
      (subst (λ (fs : List Frame). Fair (run sw limits (cut sw 0 at o.rest) (finished fs nodes v))) (sym g.stack) (after_value at nodes v))

  -- the run of the renewed text is taken or stopped by a limit
  pub replaced_run : Fair (run sw limits (cut sw 0 0 (take start s ++ (r ++ drop stop s))) (before false))
  replaced_run =
      subst (λ (l : List ℕ). Fair (run sw limits (cut sw 0 0 l) (before false))) (sym renewed_is)
      (all_through (value_reads sw limits' limits any r u alone to_end (0 + length g.pre) o.rest g.at awaits behind.0))

  pub replaced_utf8 : is_whole (utf8 s) ≡ true → is_whole (utf8 r) ≡ true → is_whole (utf8 (take start s ++ (r ++ drop stop s))) ≡ true
  replaced_utf8 e k =
      ap (λ (l : List ℕ). is_whole (utf8 l)) renewed_is
      ∙ utf8_replace g.pre g.rest o.pre o.rest r g.low behind.1 (g.split ∙ sym o.split)
      (ap (λ (l : List ℕ). is_whole (utf8 l)) g.split ∙ e) k

-- ---- taken outcomes

pub outcome_taken : (sw : Switches) (any : Bool) (limits : Limits) (text : List ℕ) (tree : Tree) → outcome sw any limits text ≡ taken tree
    → (is_whole (utf8 text) ≡ true) × (run sw limits (cut sw 0 0 text) (before any) ≡ taken tree)
unfolding outcome tokens
outcome_taken sw any limits text tree h =
    let P : Outcome → Type 0 = λ o. o ≡ taken tree in
    let Q : Type 0 = (is_whole (utf8 text) ≡ true) × (run sw limits (cut sw 0 0 text) (before any) ≡ taken tree) in
    cond-case P Q (leb (length text) max_text) h
    (λ _ k. cond-case P Q (is_whole (utf8 text)) k (λ e r. (e, r)) (λ _ r. let q : ◌≡◌ {A = ℕ} 0 1 = cc in absurd (omega arith)))
    (λ _ r. let q : ◌≡◌ {A = ℕ} 0 1 = cc in absurd (omega arith))

-- a text within the size that is UTF-8 comes to its run
pub outcome_run : (sw : Switches) (any : Bool) (limits : Limits) (text : List ℕ) → is_whole (utf8 text) ≡ true → length text ≤ max_text
    → outcome sw any limits text ≡ run sw limits (tokens sw text) (before any)
unfolding outcome
outcome_run sw any limits text e h =
    let body = run sw limits (tokens sw text) (before any) in
    cond-true (leb (length text) max_text) (cond (is_whole (utf8 text)) body (refused 2 (whole_front (utf8 text)))) (refused 1 max_text) (le-leb (length text) max_text h)
    ∙ cond-true (is_whole (utf8 text)) body (refused 2 (whole_front (utf8 text))) e

pub reads_taken : (o : Outcome) → T (is_taken o) → (tree : Tree) × (o ≡ taken tree)
unfolding is_taken
reads_taken (taken t) h = (t, refl)
reads_taken (refused k place) h = absurd h

spans_taken : (n : ℕ) (o : Outcome) → spans n o ≡ true → (tree : Tree) × (o ≡ taken tree) × ((head_of tree).value.stop ≡ n)
unfolding spans
spans_taken n (taken t) h =
    (t, refl, eqb-true (head_of t).value.stop n (and_right (eqb (head_of t).value.start 0) (eqb (head_of t).value.stop n) h))
spans_taken n (refused k place) h = absurd (false≢true h)

-- ---- readings

any_is : (i : ℕ) → any_at false i ≡ ltb 0 i
unfolding any_at
any_is zero = refl
any_is (suc i) = sym (lt-ltb 0 (suc i) (omega arith))

module _ (sw : Switches) (words node : ℕ) (text r : List ℕ) where
  -- the text with the node's value replaced, in the reading o
  abbrev put_in : Outcome → List ℕ
  put_in o = take (word_of (table_of words o) node 2) text ++ (r ++ drop (word_of (table_of words o) node 3) text)

  known_reading : (tree u : Tree) → reading sw words text ≡ taken tree → outcome sw (ltb 0 node) limits_alone r ≡ taken u → (head_of u).value.stop ≡ length r
      → node < size tree → length (put_in (taken tree)) ≤ max_text → Fair (reading sw words (put_in (taken tree)))
  unfolding reading outcome tokens
  known_reading tree u e f z n l =
      let a = outcome_taken sw false (limits_of words) text tree e in
      let b = outcome_taken sw (ltb 0 node) limits_alone r u f in
      let start = word_of (table_of words (taken tree)) node 2 in
      let stop = word_of (table_of words (taken tree)) node 3 in
      let m : Node sw (limits_of words) text tree (ltb 0 node) start stop =
      subst (λ (x : Bool). Node sw (limits_of words) text tree x start stop) (any_is node)
      (table_span (Node sw (limits_of words) text tree) false words node tree (all_known sw (limits_of words) text tree a.1) n) in
      let p = replaced_utf8 sw (limits_of words) limits_alone text r tree u (ltb 0 node) start stop m b.1 z a.0 b.0 in
      let q = replaced_run sw (limits_of words) limits_alone text r tree u (ltb 0 node) start stop m b.1 z in
      let new = put_in (taken tree) in
      subst Fair (sym (outcome_run sw false (limits_of words) new p l)) q

-- a node of a text that reads, replaced by one value (a root for node 0), within the text's size: the new text reads, or a limit value-refused it
pub replaced_reading : (sw : Switches) (words node : ℕ) (text r : List ℕ) → T (reads sw words text) → node < node_count (reading sw words text)
    → one_value sw (ltb 0 node) r ≡ true
    → length (take (word_of (table_of words (reading sw words text)) node 2) text ++ (r ++ drop (word_of (table_of words (reading sw words text)) node 3) text)) ≤ max_text
    → Fair (reading sw words (take (word_of (table_of words (reading sw words text)) node 2) text ++ (r ++ drop (word_of (table_of words (reading sw words text)) node 3) text)))
unfolding reads one_value node_count
replaced_reading sw words node text r h k one =
    let w = reads_taken (reading sw words text) h in
    let v = spans_taken (length r) (outcome sw (ltb 0 node) limits_alone r) one in
    let P : Outcome → Type 0 = λ x. node < node_count x → length (put_in sw words node text r x) ≤ max_text → Fair (reading sw words (put_in sw words node text r x)) in
    subst P (sym w.1) (known_reading sw words node text r w.0 v.0 w.1 v.1 v.2) k
