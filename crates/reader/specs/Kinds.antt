-- The code's kinds of nodes, src/kinds.rt, by their numbers. Assumes nothing.
use Rattle.std.specs.Prelude.{◌≡◌, ℕ, Result, MatchResult}
use Rattle.reader.specs.declared.kinds.NodeKind.{NodeKind}
use Rattle.reader.specs.declared.kinds.NodeKind.TheVariants as N
use Rattle.reader.specs.declared.kinds.UnknownKind.{UnknownKind}
use Rattle.reader.specs.declared.tree.Kind.{Kind}
use Rattle.reader.specs.declared.tree.Kind.TheVariants.{Object, Array, Tuple}

-- word 0: "kind: 1 object, 2 array, 3 tuple, 4 text, 5 bytes, 6 integer, 7 decimal, 8 false, 9 true, 10 null"
abbrev pub number_of_kind : NodeKind → ℕ
number_of_kind N.Object = 1
number_of_kind N.Array = 2
number_of_kind N.Tuple = 3
number_of_kind N.Text = 4
number_of_kind N.Bytes = 5
number_of_kind N.Integer = 6
number_of_kind N.Decimal = 7
number_of_kind N.False = 8
number_of_kind N.True = 9
number_of_kind N.Null = 10

-- a container's
abbrev pub container_kind : Kind → NodeKind
container_kind Object = N.Object
container_kind Array = N.Array
container_kind Tuple = N.Tuple

-- the kind with this number, or that no kind has it
abbrev pub Decodes : ℕ → Result NodeKind UnknownKind → Type 0
Decodes word r = MatchResult r (λ kind. number_of_kind kind ≡ word) (λ e. (e.0 ≡ word) × ((kind : NodeKind) → number_of_kind kind ≡ word → ⊥))
