-- A node's children in a table: the first is the node after it, the next one after a child is named by its word 8; and the walk over them,
-- which a loop keeps.
-- Assumes nothing.
use Rattle.std.specs.Prelude.{Some}
use Rattle.std.specs.declared.option.Option as Rust
use Rattle.nodes.specs.Children.{InTable}
use mathlib.Core.Path.{◌≡◌, refl, sym, ap, ◌∙◌, subst}
use Prim.Native.Nat.{ℕ, zero, suc, ◌+◌, ◌*◌, ◌≤◌, ◌<◌}
use native.Mathlib.Omega.{arith}
use mathlib.Core.Logic.{∥∥₁_elim, ∥∥₁_map}
use native.Mathlib.Bridge.{le_prop}
use mathlib.Core.Option.{some}
use mathlib.Core.List.{List, [], ◌∷◌}
use lib.ListN.{length}
use Rattle.reader.specs.declared.tree.Kind.{Kind}
use Rattle.reader.specs.Tree.{Head, Tree, leaf, branch, Forest, nil, cons, size, sizes, count, head_words, kind_number, rows, rows_all, node_words}
use Rattle.reader.specs.Reading.{word_of}
use Rattle.reader.proofs.TableLaws.{length_rows}
use Rattle.reader.proofs.RowLaws.{size_pos}
use Rattle.nodes.specs.Nodes.{children_of, Numbered, nth}
use Rattle.nodes.specs.Stands.{WordsAt, Node, Stands}
use Rattle.nodes.specs.Left.{Left}
use Rattle.nodes.specs.declared.node.Node as CN
use Rattle.nodes.specs.declared.children.Children.{Children}
use Rattle.nodes.proofs.WordLaws.{some_is, none_is, words_left, words_right, heads, word_parent, word_next}

-- the values f stand in the table side by side, the first as the node x: they are the last children of n
pub record Ahead (table : List ℕ) (n x : ℕ) (f : Forest) : Type 0 where
  pub words : WordsAt table (node_words * x) (rows_all n x f)
  pub room : node_words * (x + sizes f) ≤ length table
  pub ends : x + sizes f ≡ word_of table n 8

-- ---- from a node to its children, and from a child to the next

children_words : (table : List ℕ) (parent n : ℕ) (h : Head) (k : Kind) (f : Forest) → WordsAt table (node_words * n) (rows parent n (branch h k f))
    → WordsAt table (node_words * suc n) (rows_all n (suc n) f)
unfolding rows
children_words table parent n h k f H =
    let l = ap (λ (x : List ℕ). length x) (heads (kind_number k) parent h (suc n + sizes f)) in
    words_right table (node_words * n + 9) (node_words * suc n) (count f ∷ 0 ∷ 0 ∷ []) (rows_all n (suc n) f) (omega arith)
    (words_right table (node_words * n) (node_words * n + 9) (head_words (kind_number k) parent h (suc n + sizes f)) (count f ∷ 0 ∷ 0 ∷ rows_all n (suc n) f) (omega arith) H)

-- all children are ahead: the first is n + 1
pub ahead_all : (table : List ℕ) (n : ℕ) (t : Tree) → Node table n t → Ahead table n (n + 1) (children_of t)
unfolding children_of rows size
ahead_all table n (leaf h s) N =
    let e = word_next table n (leaf h s) N in
    let r = N.room in
    record { words = record { same = λ i l. absurd (omega arith) }; room = omega arith; ends = omega arith }
ahead_all table n (branch h k f) N =
    let e = word_next table n (branch h k f) N in
    let r = N.room in
    let q : n + 1 ≡ suc n = omega arith in
    record {
      words = rw q (children_words table N.parent n h k f N.words);
      room = omega arith;
      ends = omega arith;
    }

module _ (table : List ℕ) (n x : ℕ) (t : Tree) (f : Forest) (A : Ahead table n x (cons t f)) where
  -- the next child is a node
  pub ahead_node : Node table x t
  unfolding rows size
  ahead_node =
      let r = A.room in
      record { parent = n; words = words_left table (node_words * x) (rows n x t) (rows_all n (x + size t) f) A.words; room = omega arith }

  -- its word 1 is the parent's number
  pub ahead_parent : word_of table x 1 ≡ n
  unfolding ahead_node
  ahead_parent = word_parent table x t ahead_node

  -- and behind it, by its word 8, are the others
  pub ahead_next : Ahead table n (x + size t) f
  unfolding rows size
  ahead_next =
      let r = A.room in
      let e = A.ends in
      let l = length_rows n x t in
      record {
        words = words_right table (node_words * x) (node_words * (x + size t)) (rows n x t) (rows_all n (x + size t) f) (omega arith) A.words;
        room = omega arith;
        ends = omega arith;
      }

-- the i-th of those ahead is the first of some that are, and the next one is the first of the others
pub record Nth (table : List ℕ) (n i x : ℕ) (f : Forest) (c : Numbered) : Type 0 where
  pub later : Forest
  pub ahead : Ahead table n c.number (cons c.value later)
  pub next : nth (suc i) x f ≡ nth 0 (c.number + size c.value) later

pub nth_ahead : (table : List ℕ) (n i x : ℕ) (f : Forest) (c : Numbered) → Ahead table n x f → nth i x f ≡ some c → Nth table n i x f c
unfolding nth
nth_ahead table n i x nil c A e = none_is e
nth_ahead table n zero x (cons t f) c A e =
    subst (Nth table n 0 x (cons t f)) (some_is e) (record { later = f; ahead = A; next = refl })
nth_ahead table n (suc i) x (cons t f) c A e =
    let r = nth_ahead table n i (x + size t) f c (ahead_next table n x t f A) e in
    record { later = r.later; ahead = r.ahead; next = r.next }

-- ---- the walk over a node's children: what a loop keeps

-- The loop has come to x, and P is so of x and of those ahead: as a rule, that the definition's own recursion makes of those ahead what it
-- makes of all, with the loop's accumulators filled in, if it has any.
pub record Walk (P : ℕ → Forest → Type 0) (table : List ℕ) (n x : ℕ) : Type 0 where
  pub rest : Forest
  pub ahead : Ahead table n x rest
  pub so : P x rest

-- there is a child at x
pub record Here (P : ℕ → Forest → Type 0) (table : List ℕ) (n x : ℕ) : Type 0 where
  pub value : Tree
  pub later : Forest
  pub ahead : Ahead table n x (cons value later)
  pub so : P x (cons value later)
  pub node : Node table x value
  pub next : word_of table x 8 ≡ x + size value
  pub up : x < word_of table x 8
  pub within : word_of table x 8 ≤ word_of table n 8

module _ (P : ℕ → Forest → Type 0) (table : List ℕ) (n : ℕ) where
  pub walk_start : (t : Tree) → Node table n t → P (n + 1) (children_of t) → Walk P table n (n + 1)
  walk_start t N p = record { rest = children_of t; ahead = ahead_all table n t N; so = p }

  here_by : (x : ℕ) (f : Forest) → Ahead table n x f → P x f → x < word_of table n 8 → Here P table n x
  unfolding size
  here_by x nil B p h = let z = B.ends in absurd (omega arith)
  here_by x (cons t f) B p h =
      let w = word_next table x t (ahead_node table n x t f B) in
      let q = size_pos t in
      let z = B.ends in
      record {
        value = t;
        later = f;
        ahead = B;
        so = p;
        node = ahead_node table n x t f B;
        next = w;
        up = omega arith;
        within = omega arith;
      }

  pub walk_here : (x : ℕ) → Walk P table n x → x < word_of table n 8 → Here P table n x
  walk_here x W h = here_by x W.rest W.ahead W.so h

  done_by : (x : ℕ) (f : Forest) → Ahead table n x f → P x f → word_of table n 8 ≤ x → P x nil
  unfolding size
  done_by x nil B p h = p
  done_by x (cons t f) B p h = let z = B.ends in let q = size_pos t in absurd (omega arith)

  pub walk_done : (x : ℕ) → Walk P table n x → word_of table n 8 ≤ x → P x nil
  walk_done x W h = done_by x W.rest W.ahead W.so h

-- on to the next child, perhaps with other accumulators
pub walk_next : (P Q : ℕ → Forest → Type 0) (table : List ℕ) (n x y : ℕ) (H : Here P table n x) → y ≡ word_of table x 8
    → Q (x + size H.value) H.later → Walk Q table n y
walk_next P Q table n x y H e q =
    rw (e ∙ H.next) (record { rest = H.later; ahead = ahead_next table n x H.value H.later H.ahead; so = q })

-- ---- the walk as the code's iterator makes it

-- the children of the node n are left
left_all : (table : List ℕ) (n end : ℕ) → end ≡ word_of table n 8 → Stands table n → Left table (n + 1) end
left_all table n end e S =
    let A = ahead_all table n S.value S.node in
    let z = A.ends in
    record { parent = n; rest = children_of S.value; words = A.words; room = A.room; ends = omega arith }

pub all_left : (table : List ℕ) (n end : ℕ) → ∥ Stands table n ∥₁ → end ≡ word_of table n 8 → ∥ Left table (n + 1) end ∥₁
all_left table n end S e = ∥∥₁_map S (left_all table n end e)

-- the first of those that are left, and a step over it
record LeftOn (table : List ℕ) (x y end : ℕ) : Type 0 where
  pub stands : Stands table x
  pub up : x < y
  pub within : y ≤ end
  pub left : Left table y end

left_on : (table : List ℕ) (x y end : ℕ) → x < end → y ≡ word_of table x 8 → Left table x end → LeftOn table x y end
unfolding rows size
left_on table x y end h e L = by L.rest L.words L.room L.ends
  where
    by : (f : Forest) → WordsAt table (node_words * x) (rows_all L.parent x f) → node_words * (x + sizes f) ≤ length table → x + sizes f ≡ end → LeftOn table x y end
    by nil w r z = absurd (omega arith)
    by (cons t f) w r z =
        let N : Node table x t = record { parent = L.parent; words = words_left table (node_words * x) (rows L.parent x t) (rows_all L.parent (x + size t) f) w; room = omega arith } in
        let q = word_next table x t N in
        let p = size_pos t in
        let l = length_rows L.parent x t in
        record {
          stands = record { value = t; node = N };
          up = omega arith;
          within = omega arith;
          left =
              rw (e ∙ q) (record {
                parent = L.parent;
                rest = f;
                words = words_right table (node_words * x) (node_words * (x + size t)) (rows L.parent x t) (rows_all L.parent (x + size t) f) (omega arith) w;
                room = omega arith;
                ends = omega arith;
              });
        }

module _ (table : List ℕ) (x y end : ℕ) (h : x < end) (e : y ≡ word_of table x 8) (L : ∥ Left table x end ∥₁) where
  pub next_up : x < y
  next_up = ∥∥₁_elim L le_prop (λ l. (left_on table x y end h e l).up)

  pub next_within : y ≤ end
  next_within = ∥∥₁_elim L le_prop (λ l. (left_on table x y end h e l).within)

  pub next_left : ∥ Left table y end ∥₁
  next_left = ∥∥₁_map L (λ l. (left_on table x y end h e l).left)

pub next_stands : (table : List ℕ) (x end : ℕ) → x < end → ∥ Left table x end ∥₁ → ∥ Stands table x ∥₁
next_stands table x end h L = ∥∥₁_map L (λ l. (left_on table x (word_of table x 8) end h refl l).stands)

-- the iterator walks over the children of the node n
pub record WalksOver (table : List ℕ) (n : ℕ) (s : Children) : Type 0 where
  pub table_is : s.table.now ≡ table
  pub end_is : s.end ≡ word_of table n 8

-- what a loop on the iterator begins with, where P is so of the first child
pub walks_start : (P : ℕ → Type 0) (table : List ℕ) (n : ℕ) (r s : Children) → s ≡ r → r.table.now ≡ table → r.next ≡ n + 1 → r.end ≡ word_of table n 8 → P (n + 1)
    → WalksOver table n s × P s.next
walks_start P table n r s e t x z p = rw e (record { table_is = t; end_is = z }, subst P (sym x) p)

-- it gave the child x, and goes on
pub record Gave (table : List ℕ) (n x : ℕ) (s t : Children) : Type 0 where
  pub at : s.next ≡ x
  pub before : x < s.end
  pub ends : s.end ≡ word_of table n 8
  pub on : t.next ≡ word_of table x 8
  pub over : WalksOver table n t

pub gave : (table : List ℕ) (n : ℕ) (x : CN.Node) (s t : Children) → WalksOver table n s
    → (t.table.now ≡ s.table.now) × (t.end ≡ s.end) × ((x.table.now ≡ s.table.now) × (x.number ≡ s.next) × (x.number < s.end) × (t.next ≡ word_of s.table.now x.number 8))
    → (x.table.now ≡ table) × Gave table n x.number s t
gave table n x s t O h = (
  h.2.0 ∙ O.table_is,
  record {
    at = sym h.2.1;
    before = h.2.2;
    ends = O.end_is;
    on = h.2.3 ∙ ap (λ (l : List ℕ). word_of l x.number 8) O.table_is;
    over = record { table_is = h.0 ∙ O.table_is; end_is = h.1 ∙ O.end_is };
  },
)

-- a child that was handed out is one of the table
pub handed : (table : List ℕ) (r : Rust.Option CN.Node) (x : CN.Node) → InTable table r → r ≡ Some x → x.table.now ≡ table
handed table r x T e = subst (InTable table) e T
