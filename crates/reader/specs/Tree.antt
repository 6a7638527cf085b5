-- The tree that a taken text is read as, and the table, which is the tree laid flat (document 01, "The table").
-- The kinds of containers are the code's own enum, src/tree.rt.
-- Assumes nothing.
use Rattle.std.specs.Prelude.{ℕ, suc, ◌+◌, ◌-◌, ◌/◌, ◌%◌, ◌^◌, Bool, cond, List, [], ◌∷◌, ◌++◌, length, replicate, ℤ, pos, negsuc}
use Rattle.std.proofs.Math.Option.{Option, none, some}
use Rattle.reader.specs.declared.tree.Kind.{Kind}
use Rattle.reader.specs.declared.tree.Kind.TheVariants.{Object, Array, Tuple}

-- bytes from `start` to before `stop`: "Ends are one past"
pub record Span : Type 0 where
  pub start : ℕ
  pub stop : ℕ

-- "start and end of the value, its identifier and bracket included", the key token's span, the identifier name's span
pub record Head : Type 0 where
  pub value : Span
  pub key : Option Span
  pub name : Option Span

-- the values that hold no others: a string with its token's span and its content, an integer, a decimal with its sign, m and p
pub data Scalar : Type 0 where
  text bytes : (token : Span) (content : List ℕ) → Scalar
  integer : ℤ → Scalar
  decimal : (minus : Bool) (m : ℕ) (p : ℤ) → Scalar
  false_value true_value null_value : Scalar

mutual
  -- a value: one that holds no others, or a container with its children in order
  pub data Tree : Type 0 where
    leaf : Head → Scalar → Tree
    branch : Head → Kind → Forest → Tree

  -- values side by side
  pub data Forest : Type 0 where
    nil : Forest
    cons : Tree → Forest → Forest

-- the head of any value
unfoldable pub head_of : Tree → Head
head_of (leaf head scalar) = head
head_of (branch head kind children) = head

-- the trees and one more at their end
unfoldable pub snoc : Forest → Tree → Forest
snoc nil t = cons t nil
snoc (cons u f) t = cons u (snoc f t)

-- how many values side by side: a container's "children"
unfoldable pub count : Forest → ℕ
count nil = 0
count (cons t f) = suc (count f)

unfoldable mutual
  -- the nodes of a value: one for it, and those of its children
  pub size : Tree → ℕ
  size (leaf head scalar) = 1
  size (branch head kind children) = suc (sizes children)

  -- the nodes of values side by side
  pub sizes : Forest → ℕ
  sizes nil = 0
  sizes (cons t f) = size t + sizes f

-- ---- the words of a node

-- "Twelve 32-bit words a node"
abbrev pub node_words : ℕ
node_words = 12

-- "4294967295 for the root"
abbrev pub no_parent : ℕ
no_parent = 4294967295

-- the low half of 64 bits
abbrev pub low32 : ℕ → ℕ
low32 n = n % 2 ^ 32

-- the high half of 64 bits
abbrev pub high32 : ℕ → ℕ
high32 n = n / 2 ^ 32

-- "the two's complement", of 64 bits
unfoldable pub twos_complement : ℤ → ℕ
twos_complement (pos n) = n
twos_complement (negsuc n) = 2 ^ 64 - suc n

-- "p + 1000", for p from -1000 on
unfoldable pub plus1000 : ℤ → ℕ
plus1000 (pos n) = n + 1000
plus1000 (negsuc n) = 1000 - suc n

-- word 0: "kind: 1 object, 2 array, 3 tuple"
unfoldable pub kind_number : Kind → ℕ
kind_number Object = 1
kind_number Array = 2
kind_number Tuple = 3

-- word 0: "4 text, 5 bytes, 6 integer, 7 decimal, 8 false, 9 true, 10 null"
unfoldable pub scalar_number : Scalar → ℕ
scalar_number (text token content) = 4
scalar_number (bytes token content) = 5
scalar_number (integer z) = 6
scalar_number (decimal minus m p) = 7
scalar_number false_value = 8
scalar_number true_value = 9
scalar_number null_value = 10

-- words 9, 10: "4, 5: span of the string token. 6: low and high half of the two's complement. 7: low and high half of m, top bit set for
-- a minus. Else 0, 0"; word 11: "4, 5: content length in bytes. 7: p + 1000. Else 0"; "A minus on -0.0 is kept"
unfoldable pub scalar_words : Scalar → List ℕ
scalar_words (text token content) = token.start ∷ token.stop ∷ length content ∷ []
scalar_words (bytes token content) = token.start ∷ token.stop ∷ length content ∷ []
scalar_words (integer z) = low32 (twos_complement z) ∷ high32 (twos_complement z) ∷ 0 ∷ []
scalar_words (decimal minus m p) = low32 m ∷ (high32 m + cond minus (2 ^ 31) 0) ∷ plus1000 p ∷ []
scalar_words false_value = 0 ∷ 0 ∷ 0 ∷ []
scalar_words true_value = 0 ∷ 0 ∷ 0 ∷ []
scalar_words null_value = 0 ∷ 0 ∷ 0 ∷ []

-- "0, 0 if none"
unfoldable pub span_words : Option Span → List ℕ
span_words none = 0 ∷ 0 ∷ []
span_words (some span) = span.start ∷ span.stop ∷ []

-- words 0 to 8; `after` is the "number of the first node after this one's descendants"
unfoldable pub head_words : (kind parent : ℕ) → Head → (after : ℕ) → List ℕ
head_words kind parent head after =
    kind ∷ parent ∷ head.value.start ∷ head.value.stop ∷ (span_words head.key ++ (span_words head.name ++ (after ∷ [])))

-- ---- the table

unfoldable mutual
  -- "nodes in order of their first byte, the root being 0": the words of a value with the number n and of its descendants.
  -- Of a container words 9, 10 are "children, 0".
  pub rows : (parent n : ℕ) → Tree → List ℕ
  rows parent n (leaf head scalar) = head_words (scalar_number scalar) parent head (suc n) ++ scalar_words scalar
  rows parent n (branch head kind children) =
      head_words (kind_number kind) parent head (suc n + sizes children) ++ (count children ∷ 0 ∷ 0 ∷ rows_all n (suc n) children)

  -- the words of values side by side with this parent, the first with the number n
  pub rows_all : (parent n : ℕ) → Forest → List ℕ
  rows_all parent n nil = []
  rows_all parent n (cons t f) = rows parent n t ++ rows_all parent (n + size t) f

-- "Words after the last node are 0": the given words, and zeros up to the table's length
unfoldable pub padded : (words : ℕ) → List ℕ → List ℕ
padded words s = s ++ replicate (words - length s) 0
