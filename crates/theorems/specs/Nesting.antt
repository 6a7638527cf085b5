-- Req 07: "Show also that every node's span lies inside its parent's."
-- Assumes nothing.
use Rattle.std.specs.Prelude.{ℕ, ◌≤◌, ◌<◌, List}
use Rattle.text.specs.declared.switches.Switches.{Switches}
use Rattle.reader.specs.Reading.{reading, node_count, table_of, word_of}

-- word 1 names an earlier node, the parent; the node's span, words 2 and 3, runs forwards, starts no earlier than the parent's and ends no
-- later
pub record InParent (table : List ℕ) (node : ℕ) : Type 0 where
  pub earlier : word_of table node 1 < node
  pub from : word_of table (word_of table node 1) 2 ≤ word_of table node 2
  pub forwards : word_of table node 2 ≤ word_of table node 3
  pub to : word_of table node 3 ≤ word_of table (word_of table node 1) 3

-- of every node but the root, in the table of every text (one that is refused has no nodes): in every edition, with a table of any size
unfoldable pub Nested : Type 0
Nested =
    (sw : Switches) (words : ℕ) (text : List ℕ) (node : ℕ) → 0 < node → node < node_count (reading sw words text)
    → InParent (table_of words (reading sw words text)) node
