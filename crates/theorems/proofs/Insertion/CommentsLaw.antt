-- Req 07: comments do not touch data.
-- Assumes nothing.
use mathlib.Core.Path.{◌≡◌, refl, sym, ap, ◌∙◌, subst}
use Prim.Native.Nat.{ℕ, ◌*◌, ◌≤◌, ◌<◌}
use native.Mathlib.Omega.{arith}
use mathlib.Core.Bool.{Bool, true, false, ◌&&◌, true≢false}
use mathlib.Core.List.{List, [], ◌∷◌}
use lib.Dec.{T, eqb, eqb→eq}
use lib.ListN.{length, get_or}
use Rattle.text.specs.declared.switches.Switches.{Switches}
use Rattle.text.specs.Utf8.{utf8, is_whole}
use Rattle.text.proofs.Choice.{cond_both, and_left, and_right}
use Rattle.lexer.specs.Token as L
use Rattle.lexer.specs.Token.{Tokens, cut, tokens}
use Rattle.lexer.proofs.TokenLaws.{Within, tokens_within}
use Rattle.lexer.proofs.SeamLaws.{map_token, map_tokens}
use Rattle.reader.specs.Tree.{Tree, size, node_words}
use Rattle.reader.specs.declared.tree.Limits.{Limits}
use Rattle.reader.specs.Syntax.{Outcome, taken, run, before}
use Rattle.reader.specs.Reading.{limits_of, reading, reads, is_taken, node_count, table_of, word_of, max_text}
use Rattle.reader.proofs.MapLaws.{map_config, map_stack, map_mode, map_some, map_outcome, map_tree, run_map}
use Rattle.reader.proofs.SizeLaws.{table_law}
use Rattle.reader.proofs.ReplaceLaws.{outcome_taken, outcome_run, reads_taken}
use Rattle.theorems.specs.Insertion.{is_gap, is_edge, Insertion, may_insert, inserted_at, with_gaps, put_below, new_start, new_stop, new_row, Kept, CommentsKept}
use Rattle.theorems.proofs.Insertion.GapLaws.{Blank, blank_none, gap_blank}
use Rattle.theorems.proofs.Insertion.CuttingLaws.{no_fault, Cutting, cutting}
use Rattle.theorems.proofs.Insertion.InterleaveLaws.{inserted_tokens, inserted_whole}
use Rattle.theorems.proofs.Insertion.RowLaws.{map_size, some_stop, as_is, table_moved, table_rest}

-- ---- insertions

module _ (sw : Switches) (text : List ℕ) where
  -- what is inserted at a place
  blank_at : (added : List Insertion) → may_insert sw text added ≡ true → (p : ℕ) → Blank (inserted_at added p)
  unfolding may_insert inserted_at
  blank_at [] m p = blank_none
  blank_at (i ∷ added) m p =
      let a = and_left (is_gap i.gap && is_edge (tokens sw text) i.place) (may_insert sw text added) m in
      let b = blank_at added (and_right (is_gap i.gap && is_edge (tokens sw text) i.place) (may_insert sw text added) m) p in
      cond_both Blank (eqb i.place p) (λ _. gap_blank i.gap (inserted_at added p) (and_left (is_gap i.gap) (is_edge (tokens sw text) i.place) a) b) (λ _. b)

  -- nothing but at edges
  edge_only : (added : List Insertion) → may_insert sw text added ≡ true → (p : ℕ) → is_edge (tokens sw text) p ≡ false → inserted_at added p ≡ []
  unfolding may_insert inserted_at
  edge_only [] m p e = refl
  edge_only (i ∷ added) m p e =
      let a = and_left (is_gap i.gap && is_edge (tokens sw text) i.place) (may_insert sw text added) m in
      let b = and_right (is_gap i.gap && is_edge (tokens sw text) i.place) (may_insert sw text added) m in
      let k = and_right (is_gap i.gap) (is_edge (tokens sw text) i.place) a in
      cond_both (λ (l : List ℕ). l ≡ []) (eqb i.place p)
      (λ t. absurd (true≢false (sym k ∙ ap (is_edge (tokens sw text)) (eqb→eq i.place p t) ∙ e))) (λ _. edge_only added b p e)

-- ---- no span of a taken text ends at 0

stops_some : (n at : ℕ) (ts : Tokens) → Within n at ts → map_tokens as_is some_stop ts ≡ ts
unfolding Within map_tokens map_token
stops_some n at (L.next t ts) w =
    let h = w.1 in
    let e : some_stop t.stop ≡ t.stop = omega arith in
    λ i. L.next (record { form = t.form; start = t.start; stop = e i }) (stops_some n t.stop ts w.3 i)
stops_some n at (L.end place) w = refl
stops_some n at (Tokens.fault number place) w = refl

module _ (sw : Switches) (limits : Limits) (any : Bool) (text : List ℕ) (tree : Tree) (taken-run : run sw limits (cut sw 0 0 text) (before any) ≡ taken tree) where
  -- the run of the tokens as they are is the run with its ends mapped to such as are not 0
  tree_some : map_tree as_is some_stop tree ≡ tree
  unfolding map_config map_stack map_mode map_some before map_outcome tokens
  tree_some =
      let e : taken (map_tree as_is some_stop tree) ≡ taken tree =
      ap (map_outcome as_is some_stop) (sym taken-run) ∙ sym (run_map as_is some_stop sw limits (cut sw 0 0 text) (before any))
      ∙ ap (λ (ts : Tokens). run sw limits ts (before any)) (stops_some (length text) 0 (cut sw 0 0 text) (tokens_within sw text)) ∙ taken-run in
      cc

  -- the run of the new text
  module _ (added : List Insertion) (may : may_insert sw text added ≡ true) where
    items : Cutting sw 0 text (cut sw 0 0 text)
    items = cutting sw 0 text (no_fault sw limits tree (cut sw 0 0 text) (before any) taken-run)

    only : (p : ℕ) → 0 < p → is_edge (cut sw 0 0 text) p ≡ false → inserted_at added p ≡ []
    unfolding tokens
    only p h e = edge_only sw text added may p e

    new_tokens : tokens sw (with_gaps added text) ≡ map_tokens (new_start (inserted_at added)) (new_stop (inserted_at added)) (cut sw 0 0 text)
    unfolding tokens with_gaps put_below
    new_tokens = inserted_tokens (inserted_at added) sw (blank_at sw text added may) items only

    new_run : run sw limits (tokens sw (with_gaps added text)) (before any) ≡ taken (map_tree (new_start (inserted_at added)) (new_stop (inserted_at added)) tree)
    unfolding map_config map_stack map_mode map_some before map_outcome
    new_run =
        ap (λ (ts : Tokens). run sw limits ts (before any)) new_tokens
        ∙ run_map (new_start (inserted_at added)) (new_stop (inserted_at added)) sw limits (cut sw 0 0 text) (before any)
        ∙ ap (map_outcome (new_start (inserted_at added)) (new_stop (inserted_at added))) taken-run

    new_whole : is_whole (utf8 text) ≡ true → is_whole (utf8 (with_gaps added text)) ≡ true
    unfolding with_gaps
    new_whole h = inserted_whole (inserted_at added) sw (blank_at sw text added may) items only h

-- ---- the theorem

kept : (sw : Switches) (words : ℕ) (text : List ℕ) (added : List Insertion) (tree : Tree) → reading sw words text ≡ taken tree → may_insert sw text added ≡ true
    → length (with_gaps added text) ≤ max_text → Kept sw words text added
unfolding reading reads is_taken node_count
kept sw words text added tree r m l =
    let lim = limits_of words in
    let g = inserted_at added in
    let w = outcome_taken sw false lim text tree r in
    let new : reading sw words (with_gaps added text) ≡ taken (map_tree (new_start g) (new_stop g) tree) =
    outcome_run sw false lim (with_gaps added text) (new_whole sw lim false text tree w.1 added m w.0) l ∙ new_run sw lim false text tree w.1 added m in
    let old : taken (map_tree as_is some_stop tree) ≡ reading sw words text = ap taken (tree_some sw lim false text tree w.1) ∙ sym r in
    record {
      still = ap is_taken new;
      as_many = ap node_count new ∙ map_size (new_start g) (new_stop g) tree ∙ sym (ap node_count r);
      same_data =
          record {
            as_long = table_law sw words (with_gaps added text) ∙ sym (table_law sw words text);
            words_are =
                λ node i n h.
                ap (λ (o : Outcome). word_of (table_of words o) node i) new
                ∙ table_moved g words tree node i (subst (λ (o : Outcome). node < node_count o) r n) h
                ∙ ap (λ (o : Outcome). get_or (new_row g (word_of (table_of words o) node)) i 0) old;
            rest_kept =
                λ k h.
                let s = map_size (new_start g) (new_stop g) tree in
                let n : node_words * size tree ≤ k = subst (λ (o : Outcome). node_words * node_count o ≤ k) r h in
                ap (λ (o : Outcome). get_or (table_of words o) k 0) new ∙ table_rest words (map_tree (new_start g) (new_stop g) tree) k (omega arith)
                ∙ sym (ap (λ (o : Outcome). get_or (table_of words o) k 0) r ∙ table_rest words tree k n);
          };
    }

pub comments_law : CommentsKept
unfolding CommentsKept reads
comments_law sw words text added r m l =
    let k = reads_taken (reading sw words text) (subst T (sym r) tt) in
    kept sw words text added k.0 k.1 m l
