-- In a taken text every value's span runs forwards and ends within the text: words 2 and 3 of each node.
-- Assumes nothing.
use Prim.Native.Nat.{ℕ, ◌≤◌, ◌<◌}
use native.Mathlib.Nat.{le_trans}
use native.Mathlib.Omega.{arith}
use mathlib.Core.Bool.{Bool, true, false}
use mathlib.Core.List.{List}
use lib.ListN.{length}
use Rattle.text.specs.declared.switches.Switches.{Switches}
use Rattle.reader.specs.Tree.{Tree, leaf, branch, Forest, nil, cons, head_of}
use Rattle.reader.specs.Syntax.{Outcome, taken, refused}
use Rattle.reader.specs.Reading.{reading, limits_of, node_count, table_of, word_of}
use Rattle.reader.proofs.TableLaws.{AllSpans, AllSpansIn, table_span}
use Rattle.reader.proofs.NestLaws.{value_stop, Nest, NestIn, OutcomeNests, outcome_nests}

-- a span that ends by n
abbrev Ends : (n : ℕ) → Bool → (start stop : ℕ) → Type 0
Ends n any start stop = (start ≤ stop) × (stop ≤ n)

-- what nests in a span ends where the span does
mutual
  unfolding Nest AllSpans head_of

  nest_ends : (n : ℕ) (t : Tree) → Nest t → value_stop t ≤ n → AllSpans (Ends n) true t
  nest_ends n (leaf h s) m l = (m, l)
  nest_ends n (branch h k f) m l = ((m.0, l), nest_in_ends n h.value.start h.value.stop f m.1 l)

  nest_in_ends : (n a b : ℕ) (f : Forest) → NestIn a b f → b ≤ n → AllSpansIn (Ends n) f
  nest_in_ends n a b nil m l = tt
  nest_in_ends n a b (cons t f) m l = (nest_ends n t m.2 (le_trans m.1 l), nest_in_ends n a b f m.3 l)

-- ---- the table's words

-- words 2 and 3 of node i
abbrev pub WordsEnd : (n : ℕ) → List ℕ → (i : ℕ) → Type 0
WordsEnd n l i = (word_of l i 2 ≤ word_of l i 3) × (word_of l i 3 ≤ n)

table_ends : (n words : ℕ) (o : Outcome) (i : ℕ) → OutcomeNests n o → i < node_count o → WordsEnd n (table_of words o) i
unfolding OutcomeNests node_count
table_ends n words (taken t) i a h = table_span (Ends n) true words i t (nest_ends n t a.0 a.1) h
table_ends n words (refused number place) i a h = absurd (omega arith)

-- each node's span runs forwards and ends within the text
pub span_law : (sw : Switches) (words node : ℕ) (text : List ℕ) → node < node_count (reading sw words text)
    → WordsEnd (length text) (table_of words (reading sw words text)) node
unfolding reading
span_law sw words node text h = table_ends (length text) words (reading sw words text) node (outcome_nests sw false (limits_of words) text) h
