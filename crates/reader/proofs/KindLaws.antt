-- The kinds of the code's enum have the numbers of the tree's values, and are told by them.
-- Assumes nothing.
use Rattle.std.specs.Prelude.{ℕ, ◌<◌, ◌≤◌, cond, eqb, Result, Ok, Err, IsOk}
use native.Mathlib.Omega.{arith}
use mathlib.Core.Logic.{◌⊎◌, ⊎_elim}
use mathlib.Core.Path.{◌≡◌, refl, sym, ap, ◌∙◌, subst}
use Rattle.reader.specs.declared.kinds.NodeKind.{NodeKind}
use Rattle.reader.specs.declared.kinds.NodeKind.TheVariants as N
use Rattle.reader.specs.declared.kinds.UnknownKind.{UnknownKind}
use Rattle.reader.specs.declared.tree.Kind.{Kind}
use Rattle.reader.specs.declared.tree.Kind.TheVariants.{Object, Array, Tuple}
use Rattle.reader.specs.Tree.{Scalar, text, bytes, integer, decimal, false_value, true_value, null_value, kind_number, scalar_number}
use Rattle.reader.specs.Kinds.{number_of_kind, container_kind, Decodes}
use Rattle.reader.specs.Internal.Tokens.{scalar_kind}

pub container_says : (kind : Kind) → number_of_kind (container_kind kind) ≡ kind_number kind
unfolding kind_number
container_says Object = refl
container_says Array = refl
container_says Tuple = refl

pub scalar_says : (v : Scalar) → number_of_kind (scalar_kind v) ≡ scalar_number v
unfolding scalar_kind scalar_number
scalar_says (text token content) = refl
scalar_says (bytes token content) = refl
scalar_says (integer z) = refl
scalar_says (decimal minus m p) = refl
scalar_says false_value = refl
scalar_says true_value = refl
scalar_says null_value = refl

-- a kind's number is decoded
pub decoded : (word : ℕ) (r : Result NodeKind UnknownKind) (kind : NodeKind) → Decodes word r → number_of_kind kind ≡ word → IsOk r
decoded word (Ok k) kind D e = refl
decoded word (Err u) kind D e = absurd (D.1 kind e)

-- as the kind with that number
pub decoded_as : (word : ℕ) (r : Result NodeKind UnknownKind) (kind : NodeKind) → Decodes word r → r ≡ Ok kind → number_of_kind kind ≡ word
decoded_as word r kind D e = subst (Decodes word) e D

-- ---- two kinds differ in their numbers

by_number : ℕ → NodeKind
by_number n =
    cond (eqb n 1) N.Object (cond (eqb n 2) N.Array (cond (eqb n 3) N.Tuple (cond (eqb n 4) N.Text (cond (eqb n 5) N.Bytes
    (cond (eqb n 6) N.Integer (cond (eqb n 7) N.Decimal (cond (eqb n 8) N.False (cond (eqb n 9) N.True N.Null))))))))

number_back : (kind : NodeKind) → by_number (number_of_kind kind) ≡ kind
unfolding by_number
number_back N.Object = refl
number_back N.Array = refl
number_back N.Tuple = refl
number_back N.Text = refl
number_back N.Bytes = refl
number_back N.Integer = refl
number_back N.Decimal = refl
number_back N.False = refl
number_back N.True = refl
number_back N.Null = refl

pub number_tells : (kind other : NodeKind) → number_of_kind kind ≡ number_of_kind other → kind ≡ other
number_tells kind other e = sym (number_back kind) ∙ ap by_number e ∙ number_back other

-- a kind that is no container's
pub number_high : (kind : NodeKind) → (kind ≡ N.Object → ⊥) → (kind ≡ N.Array → ⊥) → (kind ≡ N.Tuple → ⊥) → 4 ≤ number_of_kind kind
number_high N.Object a b c = absurd (a refl)
number_high N.Array a b c = absurd (b refl)
number_high N.Tuple a b c = absurd (c refl)
number_high N.Text a b c = omega arith
number_high N.Bytes a b c = omega arith
number_high N.Integer a b c = omega arith
number_high N.Decimal a b c = omega arith
number_high N.False a b c = omega arith
number_high N.True a b c = omega arith
number_high N.Null a b c = omega arith

-- a container's
pub number_low : (kind : NodeKind) → (kind ≡ N.Object) ⊎ ((kind ≡ N.Array) ⊎ (kind ≡ N.Tuple)) → number_of_kind kind < 4
number_low kind e =
    ⊎_elim (λ a. let z = ap number_of_kind a in omega arith) (⊎_elim (λ a. let z = ap number_of_kind a in omega arith) (λ a. let z = ap number_of_kind a in omega arith)) e
