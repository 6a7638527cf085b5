-- What is written, read: `[` and 0A, the kept lines one after the other, and `]`. Its tree, its nodes, and that it is UTF-8.
-- Assumes nothing.
use mathlib.Core.Path.{◌≡◌, refl, sym, ap, ◌∙◌}
use Prim.Native.Nat.{ℕ, suc, ◌+◌, ◌≤◌, ◌<◌}
use native.Mathlib.Omega.{arith}
use mathlib.Core.Bool.{true, false}
use mathlib.Core.Option.{none}
use mathlib.Core.List.{List, [], ◌∷◌, ◌++◌}
use lib.Dec.{T}
use lib.ListN.{length, length-append}
use borrow.Author.Tests.{lt-leb}
use Rattle.text.specs.declared.switches.Switches.{Switches}
use Rattle.text.specs.Bytes.{feed, one_of, class_of, is_letter_or_digit, is_word_byte, is_number_byte}
use Rattle.text.specs.Utf8.{lead, utf8_step, utf8, is_whole}
use Rattle.text.proofs.Choice.{cond_both}
use Rattle.text.proofs.Utf8Join.{utf8_append}
use Rattle.lexer.specs.Closing.{not_newline}
use Rattle.lexer.specs.Token as L
use Rattle.lexer.specs.Token.{Tokens, item_of, item, cut, tokens}
use Rattle.lexer.proofs.Seams.{heads, goes_on}
use Rattle.lexer.proofs.SeamLaws.{cut_past, cut_took}
use Rattle.lexer.proofs.FirstLaws.{newline_gap}
use Rattle.reader.specs.Tree.{Tree, Forest, nil, snoc, count, size, sizes}
use Rattle.reader.specs.declared.tree.Limits.{Limits}
use Rattle.reader.specs.Syntax.{Label, Slot, first, lone, after, more, label, is_mark, mark_begins, begins, head_by, finished, ended, refuse_if, close_or, no_node, counted, value_step, fresh_value, slot_step, mode_step, step, Outcome, taken, refused, at_end, after_step, run, before}
use Rattle.reader.specs.Reading.{max_text, node_limit, limits_to, limits_of, reading, reading_to, is_taken, node_count}
use Rattle.reader.proofs.ReplaceLaws.{outcome_taken, outcome_run, reads_taken}
use Rattle.salvage.specs.Salvage.{line_depth, line_reading, kept_of, nodes_of, kept_text, salvaged_text}
use Rattle.theorems.specs.Salvage.{moved, with_value, values_at, array_of}
use Rattle.theorems.proofs.Salvage.MovedLaws.{moved_size, beside, beside_nil, beside_snoc}
use Rattle.theorems.proofs.Salvage.LineLaws.{in_array, MayBegin, line_in}

-- ---- the marks

-- the array's label
abbrev root : Label
root = label 0 none none

module _ (sw : Switches) (limits : Limits) where
  -- 0A between tokens is passed over
  line_end : (at : ℕ) (z : List ℕ) → cut sw 0 at (0x0A ∷ z) ≡ cut sw 0 (at + 1) z
  unfolding not_newline
  line_end at z = cut_past sw at 0x0A [] z (newline_gap sw 0x0A z refl)

  -- `[` and 0A
  opens : (z : List ℕ) → 0 < limits.depth → 0 < limits.nodes
      → run sw limits (cut sw 0 0 (0x5B ∷ 0x0A ∷ z)) (before false) ≡ run sw limits (cut sw 0 2 z) (in_array root nil first 1)
  unfolding item item_of class_of one_of run after_step step mode_step before fresh_value begins mark_begins value_step no_node counted refuse_if
  opens z h k =
      ap (λ (ts : Tokens). run sw limits ts (before false)) (cut_took sw 0 0x5B [] (0x0A ∷ z) (L.mark 0x5B) refl)
      ∙ (rw (lt-leb limits.depth 0 h, lt-leb limits.nodes 0 k) refl)
      ∙ ap (λ (ts : Tokens). run sw limits ts (in_array root nil first 1)) (line_end 1 z)

  -- 0A, a comma and 0A behind a line
  parts : (kids : Forest) (n at : ℕ) (z : List ℕ)
      → run sw limits (cut sw 0 at (0x0A ∷ 0x2C ∷ 0x0A ∷ z)) (in_array root kids after n) ≡ run sw limits (cut sw 0 (at + 3) z) (in_array root kids more n)
  unfolding item item_of class_of one_of run after_step step mode_step slot_step close_or is_mark
  parts kids n at z =
      let e : at + 1 + 1 + 1 ≡ at + 3 = omega arith in
      ap (λ (ts : Tokens). run sw limits ts (in_array root kids after n))
      (line_end at (0x2C ∷ 0x0A ∷ z) ∙ cut_took sw (at + 1) 0x2C [] (0x0A ∷ z) (L.mark 0x2C) refl)
      ∙ ap (λ (ts : Tokens). run sw limits ts (in_array root kids more n)) (line_end (at + 1 + 1) z ∙ ap (λ (p : ℕ). cut sw 0 p z) e)

  -- `]`, and nothing behind it
  closes : (kids : Forest) (n at : ℕ) (slot : Slot) → MayBegin slot
      → run sw limits (cut sw 0 at (0x5D ∷ [])) (in_array root kids slot n) ≡ taken (array_of (at + 1) kids)
  unfolding item item_of class_of one_of cut run after_step step mode_step slot_step close_or is_mark ended finished head_by at_end MayBegin
  closes kids n at slot y =
      ap (λ (ts : Tokens). run sw limits ts (in_array root kids slot n)) (cut_took sw at 0x5D [] [] (L.mark 0x5D) refl) ∙ on slot y
    where
      on : (s : Slot) → MayBegin s
          → run sw limits (L.next (record { form = L.mark 0x5D; start = at; stop = at + 1 }) (cut sw 0 (at + 1) [])) (in_array root kids s n)
          ≡ taken (array_of (at + 1) kids)
      on first y = refl
      on lone y = absurd y
      on after y = absurd y
      on more y = refl

-- ---- lines that read

-- a line that reads adds a value
value_count : (at : ℕ) (o : Outcome) (f : Forest) → T (is_taken o) → count (with_value at o f) ≡ suc (count f)
unfolding with_value count is_taken
value_count at (taken u) f t = refl
value_count at (refused number place) f t = absurd t

-- a line adds the nodes of its value
value_size : (at : ℕ) (o : Outcome) (f : Forest) → sizes (with_value at o f) ≡ node_count o + sizes f
unfolding with_value size node_count
value_size at (taken u) f = ap (λ (n : ℕ). n + sizes f) (moved_size at u)
value_size at (refused number place) f = omega arith

module _ (sw : Switches) (words : ℕ) where
  -- each of the lines reads by itself
  unfoldable pub Each : List (List ℕ) → Type 0
  Each [] = Unit {0}
  Each (line ∷ kept) = T (is_taken (line_reading sw words line)) × Each kept

  -- kept lines do
  pub kept_each : (lines : List (List ℕ)) → Each (kept_of sw words lines)
  unfolding Each kept_of
  kept_each [] = tt
  kept_each (line ∷ lines) =
      cond_both Each (is_taken (line_reading sw words line)) (λ t. (t, kept_each lines)) (λ _. kept_each lines)

  -- as many values as lines
  pub values_count : (kept : List (List ℕ)) → Each kept → (at : ℕ) → count (values_at sw words at kept) ≡ length kept
  unfolding Each values_at count
  values_count [] es at = refl
  values_count (line ∷ kept) es at = value_count at (line_reading sw words line) _ es.0 ∙ ap suc (values_count kept es.1 _)

  -- as many nodes as the lines' values have by themselves
  pub values_size : (kept : List (List ℕ)) (at : ℕ) → sizes (values_at sw words at kept) ≡ nodes_of sw words kept
  unfolding values_at nodes_of size
  values_size [] at = refl
  values_size (line ∷ kept) at =
      value_size at (line_reading sw words line) _ ∙ ap (λ (n : ℕ). node_count (line_reading sw words line) + n) (values_size kept _)

  -- ---- the lines in the array, and its end

  -- a line, what stands behind it, and then what the rest comes to
  line_then : (line : List ℕ) (kept : List (List ℕ)) (u : Tree) → line_reading sw words line ≡ taken u → (kids : Forest) (n at : ℕ) (slot : Slot)
      → MayBegin slot → nodes_of sw words (line ∷ kept) + n ≤ node_limit words → (o : Outcome)
      → run sw (limits_of words) (cut sw 0 (at + length line + 3) (kept_text kept)) (in_array root (snoc kids (moved at u)) more (size u + n)) ≡ o
      → run sw (limits_of words) (cut sw 0 at (kept_text (line ∷ kept))) (in_array root kids slot n) ≡ o
  unfolding kept_text nodes_of line_reading reading_to limits_of node_count heads goes_on is_number_byte is_word_byte is_letter_or_digit not_newline
  line_then line kept u q kids n at slot y room o then =
      let c : node_count (line_reading sw words line) ≡ size u = ap node_count q in
      line_in sw (limits_to line_depth words) (limits_of words) (omega arith) line u (outcome_taken sw false (limits_to line_depth words) line u q).1
      (0x0A ∷ 0x2C ∷ 0x0A ∷ kept_text kept) refl (λ _. refl) root kids slot y n at (omega arith)
      ∙ parts sw (limits_of words) (snoc kids (moved at u)) (size u + n) (at + length line) (kept_text kept) ∙ then

  -- they are the array's further children, in order
  body : (kept : List (List ℕ)) → Each kept → (kids : Forest) (n at : ℕ) (slot : Slot) → MayBegin slot → nodes_of sw words kept + n ≤ node_limit words
      → run sw (limits_of words) (cut sw 0 at (kept_text kept)) (in_array root kids slot n)
      ≡ taken (array_of (at + length (kept_text kept)) (beside kids (values_at sw words at kept)))
  unfolding Each kept_text values_at nodes_of with_value node_count MayBegin
  body [] es kids n at slot y room =
      closes sw (limits_of words) kids n at slot y ∙ ap (λ (f : Forest). taken (array_of (at + 1) f)) (sym (beside_nil kids))
  body (line ∷ kept) es kids n at slot y room =
      let w = reads_taken (line_reading sw words line) es.0 in
      let u = w.0 in
      let c : node_count (line_reading sw words line) ≡ size u = ap node_count w.1 in
      let l = length-append line (0x0A ∷ 0x2C ∷ 0x0A ∷ kept_text kept) in
      let rest = values_at sw words (at + length line + 3) kept in
      let e : at + length line + 3 + length (kept_text kept) ≡ at + length (line ++ (0x0A ∷ 0x2C ∷ 0x0A ∷ kept_text kept)) = omega arith in
      let f : beside (snoc kids (moved at u)) rest ≡ beside kids (with_value at (line_reading sw words line) rest) =
      beside_snoc kids (moved at u) rest ∙ ap (λ (o : Outcome). beside kids (with_value at o rest)) (sym w.1) in
      line_then line kept u w.1 kids n at slot y room _
      (body kept es.1 (snoc kids (moved at u)) (size u + n) (at + length line + 3) more tt (omega arith) ∙ (λ i. taken (array_of (e i) (f i))))

  -- ---- what is written

  -- it is UTF-8, as each line is
  kept_whole : (kept : List (List ℕ)) → Each kept → is_whole (utf8 (kept_text kept)) ≡ true
  unfolding Each kept_text utf8 feed utf8_step lead is_whole line_reading reading_to
  kept_whole [] es = refl
  kept_whole (line ∷ kept) es =
      let w = reads_taken (line_reading sw words line) es.0 in
      utf8_append line (0x0A ∷ 0x2C ∷ 0x0A ∷ kept_text kept) (outcome_taken sw false (limits_to line_depth words) line w.0 w.1).0
      ∙ utf8_append (0x0A ∷ 0x2C ∷ 0x0A ∷ []) (kept_text kept) refl ∙ kept_whole kept es.1

  written_whole : (kept : List (List ℕ)) → Each kept → is_whole (utf8 (salvaged_text kept)) ≡ true
  unfolding salvaged_text utf8 feed utf8_step lead is_whole
  written_whole kept es = utf8_append (0x5B ∷ 0x0A ∷ []) (kept_text kept) refl ∙ kept_whole kept es

  -- with room for the lines' nodes and the array's, and within 65,536 bytes, what is written reads, as an array of the lines' values
  pub written_reads : (kept : List (List ℕ)) → Each kept → length (salvaged_text kept) ≤ max_text → suc (nodes_of sw words kept) ≤ node_limit words
      → reading sw words (salvaged_text kept) ≡ taken (array_of (length (salvaged_text kept)) (values_at sw words 2 kept))
  unfolding reading salvaged_text beside tokens MayBegin limits_of
  written_reads kept es short room =
      let e : 2 + length (kept_text kept) ≡ suc (suc (length (kept_text kept))) = omega arith in
      outcome_run sw false (limits_of words) (salvaged_text kept) (written_whole kept es) short
      ∙ opens sw (limits_of words) (kept_text kept) (omega arith) (omega arith)
      ∙ body kept es nil 1 2 first tt (omega arith) ∙ ap (λ (n : ℕ). taken (array_of n (values_at sw words 2 kept))) e
