-- A tree elsewhere: it is what the reader's laws say of a tree whose places are shifted, and has as many nodes. And trees side by side.
-- Assumes nothing.
use mathlib.Core.Path.{◌≡◌, refl, ap}
use Prim.Native.Nat.{ℕ, suc, ◌+◌}
use mathlib.Core.Option.{Option, none, some}
use Rattle.reader.specs.Tree as T
use Rattle.reader.specs.Tree.{Span, Head, Scalar, Tree, leaf, branch, Forest, nil, cons, snoc, size, sizes}
use Rattle.lexer.proofs.SeamLaws.{on_by}
use Rattle.reader.proofs.MapLaws.{map_span, map_some, map_head, map_scalar, map_tree, map_forest}
use Rattle.reader.proofs.MoveLaws.{shift_tree}
use Rattle.theorems.specs.Salvage.{moved_some, moved_head, moved_scalar, moved, moved_all}

-- ---- moved is shifted

module _ (by : ℕ) where
  some_shift : (s : Option Span) → moved_some by s ≡ map_some (on_by by) (on_by by) s
  unfolding moved_some map_some map_span
  some_shift none = refl
  some_shift (some s) = refl

  head_shift : (h : Head) → moved_head by h ≡ map_head (on_by by) (on_by by) h
  unfolding moved_head map_head map_span
  head_shift h = λ i. record { value = map_span (on_by by) (on_by by) h.value; key = some_shift h.key i; name = some_shift h.name i }

  scalar_shift : (s : Scalar) → moved_scalar by s ≡ map_scalar (on_by by) (on_by by) s
  unfolding moved_scalar map_scalar map_span
  scalar_shift (T.text token content) = refl
  scalar_shift (T.bytes token content) = refl
  scalar_shift (T.integer z) = refl
  scalar_shift (T.decimal minus m p) = refl
  scalar_shift T.false_value = refl
  scalar_shift T.true_value = refl
  scalar_shift T.null_value = refl

  mutual
    unfolding moved map_tree

    -- a tree moved is the tree with all its places shifted
    pub moved_shift : (t : Tree) → moved by t ≡ shift_tree by t
    moved_shift (leaf h s) = λ i. leaf (head_shift h i) (scalar_shift s i)
    moved_shift (branch h kind f) = λ i. branch (head_shift h i) kind (moved_shifts f i)

    moved_shifts : (f : Forest) → moved_all by f ≡ map_forest (on_by by) (on_by by) f
    moved_shifts nil = refl
    moved_shifts (cons t f) = λ i. cons (moved_shift t i) (moved_shifts f i)

  mutual
    unfolding moved size

    -- a tree moved has as many nodes
    pub moved_size : (t : Tree) → size (moved by t) ≡ size t
    moved_size (leaf h s) = refl
    moved_size (branch h kind f) = ap suc (moved_sizes f)

    moved_sizes : (f : Forest) → sizes (moved_all by f) ≡ sizes f
    moved_sizes nil = refl
    moved_sizes (cons t f) = λ i. moved_size t i + moved_sizes f i

-- ---- side by side

-- trees, and others behind them
unfoldable pub beside : Forest → Forest → Forest
beside nil g = g
beside (cons t f) g = cons t (beside f g)

pub beside_nil : (f : Forest) → beside f nil ≡ f
unfolding beside
beside_nil nil = refl
beside_nil (cons t f) = ap (cons t) (beside_nil f)

-- the last of the first is the first of the last
pub beside_snoc : (f : Forest) (t : Tree) (g : Forest) → beside (snoc f t) g ≡ beside f (cons t g)
unfolding beside snoc
beside_snoc nil t g = refl
beside_snoc (cons u f) t g = ap (cons u) (beside_snoc f t g)
