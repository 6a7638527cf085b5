-- The walk over a node's children, as the code's iterator makes it, and a child as the code hands it out: src/children.rt.
-- Assumes nothing.
use Rattle.std.specs.Prelude.{ℕ, ◌<◌, ◌≤◌, ◌≡◌, List, Option, Some, None, MatchOption, ⊤}
use Rattle.reader.specs.Reading.{word_of}
use Rattle.nodes.specs.declared.node.Node.{Node}
use Rattle.nodes.specs.declared.children.Children.{Children}

-- the number of the node that is handed out, if one is
abbrev pub number_in : Option Node → Option ℕ
number_in None = None
number_in (Some node) = Some node.number

-- it is one of this table
abbrev pub InTable : List ℕ → Option Node → Type 0
InTable table r = MatchOption r ⊤ (λ node. node.table.now ≡ table)

-- a step gives the child that is next, and goes on to the node that its word 8 names; or there is none left. Nothing here has to be believed: what
-- the functions on nodes promise does not name it.
abbrev pub Steps : Children → Option Node → Children → Type 0
Steps s r t =
    (t.table.now ≡ s.table.now) × (t.end ≡ s.end)
    × MatchOption r (s.end ≤ s.next) (λ x. (x.table.now ≡ s.table.now) × (x.number ≡ s.next) × (x.number < s.end) × (t.next ≡ word_of s.table.now x.number 8))
