-- The words of a node: what stands in a table where a value stands as a node.
-- Only this file, and `children_words` in WalkLaws, open a row; the count of words a node has is `node_words`.
-- Assumes nothing.
use mathlib.Core.Path.{◌≡◌, refl, ap, ◌∙◌}
use Prim.Native.Nat.{ℕ, suc, ◌+◌, ◌*◌, ◌≤◌, ◌<◌}
use native.Mathlib.Omega.{arith}
use mathlib.Core.Option.{Option, none, some}
use mathlib.Core.List.{List, [], ◌∷◌, ◌++◌}
use lib.ListN.{length, get_or, length-append, get_or-append}
use lib.Seq.{get_or-append-add}
use Rattle.reader.specs.Tree as T
use Rattle.reader.specs.Tree.{Span, Head, Scalar, Tree, leaf, branch, head_of, size, sizes, count, span_words, head_words, kind_number, scalar_number, scalar_words, rows, rows_all, node_words}
use Rattle.reader.specs.Reading.{word_of}
use Rattle.reader.proofs.TableLaws.{length_rows}
use Rattle.reader.proofs.RowLaws.{size_pos}
use Rattle.nodes.specs.Nodes.{kind_of}
use Rattle.nodes.specs.Stands.{WordsAt, Node}

-- ---- what there may be none of

pub some_is : {A : Type 0} {a b : A} → some a ≡ some b → a ≡ b
some_is e = cc

pub none_is : {A B : Type 0} {b : B} → none ≡ some b → A
none_is e = let v : ◌≡◌ {A = ℕ} 0 1 = cc in absurd (omega arith)

-- ---- words in a table

module _ (table : List ℕ) where
  pub words_left : (at : ℕ) (a b : List ℕ) → WordsAt table at (a ++ b) → WordsAt table at a
  words_left at a b H = record { same = λ i h. H.same i (let l = length-append a b in omega arith) ∙ get_or-append a b 0 i h }

  pub words_right : (at to : ℕ) (a b : List ℕ) → to ≡ at + length a → WordsAt table at (a ++ b) → WordsAt table to b
  words_right at to a b e H =
      record {
        same =
            λ i h.
            let q : to + i ≡ at + (length a + i) = omega arith in
            ap (λ (k : ℕ). get_or table k 0) q
            ∙ H.same (length a + i) (let l = length-append a b in omega arith)
            ∙ get_or-append-add a b i 0;
      }

-- ---- the words of a node

unfoldable pub first_of : Option Span → ℕ
first_of none = 0
first_of (some s) = s.start

unfoldable pub second_of : Option Span → ℕ
second_of none = 0
second_of (some s) = s.stop

two : (o : Option Span) → span_words o ≡ first_of o ∷ second_of o ∷ []
unfolding span_words first_of second_of
two none = refl
two (some s) = refl

-- words 0 to 8, spelled out
pub heads : (kind parent : ℕ) (h : Head) (next : ℕ)
    → head_words kind parent h next ≡ kind ∷ parent ∷ h.value.start ∷ h.value.stop ∷ first_of h.key ∷ second_of h.key ∷ first_of h.name ∷ second_of h.name ∷ next ∷ []
unfolding head_words
heads kind parent h next = λ i. kind ∷ parent ∷ h.value.start ∷ h.value.stop ∷ (two h.key i ++ (two h.name i ++ (next ∷ [])))

-- word 9: of a container "children", of other values their first own word
unfoldable pub own_word : Tree → ℕ
own_word (leaf h s) = get_or (scalar_words s) 0 0
own_word (branch h k f) = count f

-- word 0 tells containers from other values
pub scalar_high : (s : Scalar) → 4 ≤ scalar_number s
unfolding scalar_number
scalar_high (T.text t c) = omega arith
scalar_high (T.bytes t c) = omega arith
scalar_high (T.integer z) = omega arith
scalar_high (T.decimal minus m p) = omega arith
scalar_high T.false_value = omega arith
scalar_high T.true_value = omega arith
scalar_high T.null_value = omega arith

-- the words of a row that navigation reads
row_front : (parent n : ℕ) (t : Tree)
    → (get_or (rows parent n t) 0 0 ≡ kind_of t) × (get_or (rows parent n t) 1 0 ≡ parent)
    × (get_or (rows parent n t) 2 0 ≡ (head_of t).value.start) × (get_or (rows parent n t) 3 0 ≡ (head_of t).value.stop)
unfolding rows kind_of head_of head_words
row_front parent n (leaf h s) = (refl, refl, refl, refl)
row_front parent n (branch h k f) = (refl, refl, refl, refl)

row_next : (parent n : ℕ) (t : Tree) → get_or (rows parent n t) 8 0 ≡ n + size t
unfolding rows size
row_next parent n (leaf h s) =
    let e : suc n ≡ n + 1 = omega arith in
    (λ i. get_or (heads (scalar_number s) parent h (suc n) i ++ scalar_words s) 8 0) ∙ e
row_next parent n (branch h k f) =
    let e : suc n + sizes f ≡ n + suc (sizes f) = omega arith in
    (λ i. get_or (heads (kind_number k) parent h (suc n + sizes f) i ++ (count f ∷ 0 ∷ 0 ∷ rows_all n (suc n) f)) 8 0) ∙ e

row_count : (parent n : ℕ) (t : Tree) → get_or (rows parent n t) 9 0 ≡ own_word t
unfolding rows own_word
row_count parent n (leaf h s) = λ i. get_or (heads (scalar_number s) parent h (suc n) i ++ scalar_words s) 9 0
row_count parent n (branch h k f) = λ i. get_or (heads (kind_number k) parent h (suc n + sizes f) i ++ (count f ∷ 0 ∷ 0 ∷ rows_all n (suc n) f)) 9 0

row_key : (parent n : ℕ) (t : Tree) → (get_or (rows parent n t) 4 0 ≡ first_of (head_of t).key) × (get_or (rows parent n t) 5 0 ≡ second_of (head_of t).key)
unfolding rows head_of
row_key parent n (leaf h s) =
    ((λ i. get_or (heads (scalar_number s) parent h (suc n) i ++ scalar_words s) 4 0), (λ i. get_or (heads (scalar_number s) parent h (suc n) i ++ scalar_words s) 5 0))
row_key parent n (branch h k f) = (
  (λ i. get_or (heads (kind_number k) parent h (suc n + sizes f) i ++ (count f ∷ 0 ∷ 0 ∷ rows_all n (suc n) f)) 4 0),
  (λ i. get_or (heads (kind_number k) parent h (suc n + sizes f) i ++ (count f ∷ 0 ∷ 0 ∷ rows_all n (suc n) f)) 5 0),
)

-- words 9 to 11 of a value that holds no others
row_own : (parent n : ℕ) (h : Head) (s : Scalar) (i : ℕ) → get_or (rows parent n (leaf h s)) (9 + i) 0 ≡ get_or (scalar_words s) i 0
unfolding rows
row_own parent n h s i =
    (λ j. get_or (heads (scalar_number s) parent h (suc n) j ++ scalar_words s) (9 + i) 0)
    ∙ get_or-append-add (scalar_number s ∷ parent ∷ h.value.start ∷ h.value.stop ∷ first_of h.key ∷ second_of h.key ∷ first_of h.name ∷ second_of h.name ∷ suc n ∷ []) (scalar_words s) i 0

module _ (table : List ℕ) (n : ℕ) (t : Tree) (N : Node table n t) where
  -- word w of node n is word w of the value's row
  pub word_is : (w : ℕ) → w < node_words → word_of table n w ≡ get_or (rows N.parent n t) w 0
  word_is w h = N.words.same w (let l = length_rows N.parent n t in let p = size_pos t in omega arith)

  -- and lies in the table
  pub word_in : (w : ℕ) → w < node_words → node_words * n + w < length table
  word_in w h = let r = N.room in let p = size_pos t in omega arith

  pub word_kind : word_of table n 0 ≡ kind_of t
  word_kind = word_is 0 (omega arith) ∙ (row_front N.parent n t).0

  -- "parent's number"
  pub word_parent : word_of table n 1 ≡ N.parent
  word_parent = word_is 1 (omega arith) ∙ (row_front N.parent n t).1

  -- "start and end of the value"
  pub word_span : (word_of table n 2 ≡ (head_of t).value.start) × (word_of table n 3 ≡ (head_of t).value.stop)
  word_span = (word_is 2 (omega arith) ∙ (row_front N.parent n t).2, word_is 3 (omega arith) ∙ (row_front N.parent n t).3)

  -- "number of the first node after this one's descendants"
  pub word_next : word_of table n 8 ≡ n + size t
  word_next = word_is 8 (omega arith) ∙ row_next N.parent n t

  pub word_count : word_of table n 9 ≡ own_word t
  word_count = word_is 9 (omega arith) ∙ row_count N.parent n t

  pub word_key : (word_of table n 4 ≡ first_of (head_of t).key) × (word_of table n 5 ≡ second_of (head_of t).key)
  word_key = (word_is 4 (omega arith) ∙ (row_key N.parent n t).0, word_is 5 (omega arith) ∙ (row_key N.parent n t).1)

pub word_own : (table : List ℕ) (n : ℕ) (h : Head) (s : Scalar) → Node table n (leaf h s) → (i : ℕ) → i < 3 → word_of table n (9 + i) ≡ get_or (scalar_words s) i 0
word_own table n h s N i l = word_is table n (leaf h s) N (9 + i) (omega arith) ∙ row_own N.parent n h s i
