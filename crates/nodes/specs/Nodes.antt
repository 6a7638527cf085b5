-- The nodes of a reading by their numbers, and a value's children by key and by index: over the tree, not over the table's words.
-- Assumes nothing.
use Rattle.std.specs.Prelude.{ℕ, zero, suc, ◌+◌, ◌-◌, Bool, cond, List, ltb}
use Rattle.std.proofs.Math.Option.{Option, none, some}
use Rattle.text.specs.declared.switches.Switches.{Switches}
use Rattle.literals.specs.Content.{same_content}
use Rattle.reader.specs.Tree.{Span, Tree, leaf, branch, Forest, nil, cons, head_of, size, kind_number, scalar_number}
use Rattle.reader.specs.Syntax.{Outcome, taken, refused}
use Rattle.reader.specs.Content.{span_content}

-- ---- nodes by number

unfoldable mutual
  -- "nodes in order of their first byte, the root being 0": the value with the number i, if there is one
  pub node_at : Tree → (i : ℕ) → Option Tree
  node_at (leaf head scalar) zero = some (leaf head scalar)
  node_at (leaf head scalar) (suc i) = none
  node_at (branch head kind children) zero = some (branch head kind children)
  node_at (branch head kind children) (suc i) = node_in children i

  -- the same among values side by side, the first of which has the number 0
  pub node_in : Forest → (i : ℕ) → Option Tree
  node_in nil i = none
  node_in (cons t f) i = cond (ltb i (size t)) (node_at t i) (node_in f (i - size t))

-- the same in what reading a text comes to
unfoldable pub node_of : Outcome → (i : ℕ) → Option Tree
node_of (taken tree) i = node_at tree i
node_of (refused number place) i = none

-- "kind: 1 object, 2 array, 3 tuple, 4 text, 5 bytes, 6 integer, 7 decimal, 8 false, 9 true, 10 null"
unfoldable pub kind_of : Tree → ℕ
kind_of (leaf head scalar) = scalar_number scalar
kind_of (branch head kind children) = kind_number kind

-- the values directly inside
unfoldable pub children_of : Tree → Forest
children_of (leaf head scalar) = nil
children_of (branch head kind children) = children

-- ---- keys

-- the content of a key, if there is one. The tree has a key's span only: its content is that of the span in the text.
unfoldable pub content_of_key : Switches → (text : List ℕ) → Option Span → Option (List ℕ)
content_of_key sw text none = none
content_of_key sw text (some span) = span_content sw span.start span.stop text

-- "Two keys of one object are equal when their contents are equal bytes": the value's key has this content
unfoldable pub has_key : Switches → (text key : List ℕ) → Tree → Bool
has_key sw text key t = same_content (content_of_key sw text (head_of t).key) (some key)

-- ---- a child, with its number

-- a value and its number
pub record Numbered : Type 0 where
  pub number : ℕ
  pub value : Tree

-- from its parts
abbrev pub numbered : ℕ → Tree → Numbered
numbered n t = record { number = n; value = t }

-- the first that passes the test, of values side by side whose first has the number n
unfoldable pub first_that : (Tree → Bool) → (n : ℕ) → Forest → Option Numbered
first_that p n nil = none
first_that p n (cons t f) = cond (p t) (some (numbered n t)) (first_that p (n + size t) f)

-- the i-th of them, counted from 0
unfoldable pub nth : (i n : ℕ) → Forest → Option Numbered
nth i n nil = none
nth zero n (cons t f) = some (numbered n t)
nth (suc i) n (cons t f) = nth i (n + size t) f

-- the child with this key, of the value with the number n
unfoldable pub member : Switches → (text key : List ℕ) → (n : ℕ) → Tree → Option Numbered
member sw text key n t = first_that (has_key sw text key) (suc n) (children_of t)

-- the i-th child, of the value with the number n
unfoldable pub element : (i n : ℕ) → Tree → Option Numbered
element i n t = nth i (suc n) (children_of t)
