-- The children of a node that are left for the walk over them. Nothing here has to be believed: what the functions on nodes promise does not name it.
-- Assumes nothing.
use Rattle.std.specs.Prelude.{ℕ, ◌+◌, ◌*◌, ◌≤◌, ◌≡◌, List, length}
use Rattle.reader.specs.Tree.{Forest, sizes, rows_all, node_words}
use Rattle.nodes.specs.Stands.{WordsAt}

-- some values stand in the table side by side from the node `next` on, with all their descendants before the node `end`
pub record Left (table : List ℕ) (next end : ℕ) : Type 0 where
  pub parent : ℕ
  pub rest : Forest
  pub words : WordsAt table (node_words * next) (rows_all parent next rest)
  pub room : node_words * (next + sizes rest) ≤ length table
  pub ends : next + sizes rest ≡ end
