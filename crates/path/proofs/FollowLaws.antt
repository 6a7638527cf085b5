-- One step of a path, and the path: the ways out of the code.
-- Assumes nothing.
use Rattle.std.specs.Prelude.{Some, None, Ok, Err}
use mathlib.Core.Path.{◌≡◌, refl, sym, ap, ◌∙◌, subst}
use Prim.Native.Nat.{ℕ, zero, suc, ◌+◌, ◌-◌, ◌*◌, ◌≤◌, ◌<◌}
use native.Mathlib.Numerals.{add-one}
use native.Mathlib.Omega.{arith}
use mathlib.Core.Bool.{Bool, true, false, cond}
use mathlib.Core.Logic.{◌⊎◌, ⊎_elim, ∥∥₁_elim}
use native.Mathlib.Bridge.{le_prop}
use mathlib.Core.Option.{Option, none, some}
use mathlib.Core.List.{List, [], ◌∷◌}
use lib.Dec.{ltb}
use lib.ListN.{length, take, drop}
use lib.Seq.{take_all}
use borrow.Author.Rules.{part_to_end}
use native.Mathlib.Decide.{dec_lt}
use borrow.Author.Tests.{ltb-false}
use Rattle.text.specs.declared.switches.Switches.{Switches}
use Rattle.text.specs.Bytes.{front}
use Rattle.text.specs.Refusal.{Refusal, refusal}
use Rattle.lexer.proofs.ItemCases.{front_le}
use Rattle.reader.specs.declared.kinds.NodeKind.{NodeKind}
use Rattle.reader.specs.declared.kinds.NodeKind.TheVariants as Named
use Rattle.reader.specs.Kinds.{number_of_kind}
use Rattle.reader.proofs.KindLaws.{number_tells}
use Rattle.reader.specs.Tree.{Tree, leaf, branch, Forest, nil, cons, size, sizes, kind_number, node_words}
use Rattle.reader.specs.declared.tree.Kind.TheVariants.{Object, Array, Tuple}
use Rattle.reader.specs.Syntax.{Outcome, taken, refused}
use Rattle.reader.specs.Reading.{word_of, table_of, answer_of}
use Rattle.reader.proofs.RowLaws.{size_pos}
use Rattle.nodes.specs.Nodes.{kind_of, children_of, Numbered, numbered, nth, has_key, member, element}
use Rattle.nodes.specs.Answers.{childAnswer}
use Rattle.nodes.specs.Stands.{Node, Stands, KindIs, MemberIs, ElementIs}
use Rattle.std.specs.declared.option.Option as Rust
use Rattle.nodes.proofs.WordLaws.{scalar_high, word_next}
use Rattle.nodes.proofs.NodeLaws.{Among, first_among, nth_among, child_stands, root_node}
use Rattle.nodes.proofs.ChildLaws.{answer_at, answer_nothing}
use Rattle.path.specs.Path.{pieces, steps, index, indexed, child, onward, follow, found}
use Rattle.path.specs.Internal.{is_step_byte, below, index_answer, IndexedIs, ChildIs, FollowIs}
use Rattle.std.specs.declared.result.Result.{Result}
use Rattle.path.proofs.StepLaws.{last_step, first_step}

-- ---- by index

-- no child has an index as large as the count of nodes
nth_past : (i n : ℕ) (f : Forest) → sizes f ≤ i → nth i n f ≡ none
unfolding nth size
nth_past i n nil h = refl
nth_past zero n (cons t f) h = let p = size_pos t in absurd (omega arith)
nth_past (suc i) n (cons t f) h = let p = size_pos t in nth_past i (n + size t) f (omega arith)

element_past : (i n : ℕ) (t : Tree) → size t ≤ i → element i n t ≡ none
unfolding element children_of size
element_past i n (leaf h s) l = nth_past i (suc n) nil (omega arith)
element_past i n (branch h k f) l = nth_past i (suc n) f (omega arith)

-- a node's size by its word 8
pub node_size : (table : List ℕ) (n end : ℕ) (t : Tree) → Node table n t → end ≡ word_of table n 8 → end ≡ n + size t
node_size table n end t N e = e ∙ word_next table n t N

-- the nodes of a value end after its own, and within the table
pub node_up : (table : List ℕ) (n end : ℕ) → ∥ Stands table n ∥₁ → end ≡ word_of table n 8 → n ≤ end
node_up table n end S e = ∥∥₁_elim S le_prop (λ s. let z = node_size table n end s.value s.node e in omega arith)

pub node_room : (table : List ℕ) (n end : ℕ) → ∥ Stands table n ∥₁ → end ≡ word_of table n 8 → node_words * end ≤ length table
node_room table n end S e = ∥∥₁_elim S le_prop (λ s. let z = node_size table n end s.value s.node e in let r = s.node.room in omega arith)

index_is : (limit i : ℕ) (o : Option ℕ) → Some i ≡ index_answer (below limit o) → o ≡ some i
unfolding below index_answer
index_is limit i none e = cc
index_is limit i (some j) e = go (ltb j limit) e
  where
    go : (b : Bool) → Some i ≡ index_answer (cond b (some j) none) → some j ≡ some i
    go true q = cc
    go false q = cc

index_past : (limit : ℕ) (o : Option ℕ) (P : Option ℕ → Type 0) → None ≡ index_answer (below limit o) → P none → ((j : ℕ) → limit ≤ j → P (some j)) → P o
unfolding below index_answer
index_past limit none P e a b = a
index_past limit (some j) P e a b = go (ltb j limit) refl e
  where
    go : (t : Bool) → ltb j limit ≡ t → None ≡ index_answer (cond t (some j) none) → P (some j)
    go true k q = let v : ◌≡◌ {A = ℕ} 0 1 = cc in absurd (omega arith)
    go false k q = b j (ltb-false j limit k)

module _ (step table : List ℕ) (n end limit : ℕ) (w : end ≡ word_of table n 8) (l : limit ≡ end - n) where
  pub indexed_at : (i : ℕ) (r : Rust.Option ℕ) → Some i ≡ index_answer (below limit (index step)) → ElementIs i table n r → IndexedIs step table n r
  unfolding indexed
  indexed_at i r e E = record { is = λ t N. E.is t N ∙ ap childAnswer (sym (ap (indexed n t) (index_is limit i (index step) e))) }

  pub indexed_none : None ≡ index_answer (below limit (index step)) → IndexedIs step table n None
  unfolding indexed childAnswer
  indexed_none e =
      record {
        is =
            λ t N.
            index_past limit (index step) (λ (o : Option ℕ). None ≡ childAnswer (indexed n t o)) e refl
            (λ j h. let z = node_size table n end t N w in sym (ap childAnswer (element_past j n t (omega arith))));
      }

-- ---- one step, by the kind

module _ (sw : Switches) (text step : List ℕ) (n : ℕ) where
  of_object : (t : Tree) → kind_of t ≡ 1 → member sw text step n t ≡ child sw text n t step
  unfolding kind_of kind_number child
  of_object (leaf h s) e = let q = scalar_high s in absurd (omega arith)
  of_object (branch h Object f) e = refl
  of_object (branch h Array f) e = absurd (omega arith)
  of_object (branch h Tuple f) e = absurd (omega arith)

  of_array : (t : Tree) → 2 ≤ kind_of t → kind_of t ≤ 3 → indexed n t (index step) ≡ child sw text n t step
  unfolding kind_of kind_number child
  of_array (leaf h s) e g = let q = scalar_high s in absurd (omega arith)
  of_array (branch h Object f) e g = absurd (omega arith)
  of_array (branch h Array f) e g = refl
  of_array (branch h Tuple f) e g = refl

  of_other : (t : Tree) → (kind_of t ≡ 1 → ⊥) → (kind_of t ≡ 2 → ⊥) → (kind_of t ≡ 3 → ⊥) → none ≡ child sw text n t step
  unfolding kind_of kind_number child
  of_other (leaf h s) a b c = refl
  of_other (branch h Object f) a b c = absurd (a refl)
  of_other (branch h Array f) a b c = absurd (b refl)
  of_other (branch h Tuple f) a b c = absurd (c refl)

  module _ (table : List ℕ) (k : NodeKind) (K : KindIs table n (number_of_kind k)) where
    pub child_object : (r : Rust.Option ℕ) → k ≡ Named.Object → MemberIs sw text step table n r → ChildIs sw text step table n r
    child_object r e M = record { is = λ t N. M.is t N ∙ ap childAnswer (of_object t (sym (K.is t N) ∙ ap number_of_kind e)) }

    pub child_array : (r : Rust.Option ℕ) → (k ≡ Named.Array) ⊎ (k ≡ Named.Tuple) → IndexedIs step table n r → ChildIs sw text step table n r
    child_array r e M =
        record {
          is =
              λ t N.
              let q = K.is t N in
              M.is t N ∙ ap childAnswer
              (⊎_elim (λ a. let z = ap number_of_kind a in of_array t (omega arith) (omega arith)) (λ a. let z = ap number_of_kind a in of_array t (omega arith) (omega arith)) e);
        }

    pub child_other : (k ≡ Named.Object → ⊥) → (k ≡ Named.Array → ⊥) → (k ≡ Named.Tuple → ⊥) → ChildIs sw text step table n None
    unfolding childAnswer
    child_other a b c =
        record {
          is =
              λ t N.
              let q = K.is t N in
              ap childAnswer (of_other t (λ e. a (number_tells k Named.Object (q ∙ e))) (λ e. b (number_tells k Named.Array (q ∙ e))) (λ e. c (number_tells k Named.Tuple (q ∙ e))));
        }

  -- the child that a step leads to is one
  indexed_among : (t : Tree) (o : Option ℕ) (c : Numbered) → indexed n t o ≡ some c → Among (suc n) (children_of t) c
  unfolding indexed element
  indexed_among t none c e = let v : ◌≡◌ {A = ℕ} 0 1 = cc in absurd (omega arith)
  indexed_among t (some i) c e = nth_among i (suc n) (children_of t) c e

  pub child_among : (t : Tree) (c : Numbered) → child sw text n t step ≡ some c → Among (suc n) (children_of t) c
  unfolding child member
  child_among (leaf h s) c e = let v : ◌≡◌ {A = ℕ} 0 1 = cc in absurd (omega arith)
  child_among (branch h Object f) c e = first_among (has_key sw text step) (suc n) (children_of (branch h Object f)) c e
  child_among (branch h Array f) c e = indexed_among (branch h Array f) (index step) c e
  child_among (branch h Tuple f) c e = indexed_among (branch h Tuple f) (index step) c e

-- ---- what an answer tells

pub record Gone (sw : Switches) (text step table : List ℕ) (n : ℕ) (t : Tree) (m : ℕ) : Type 0 where
  pub value : Tree
  pub is : child sw text n t step ≡ some (numbered m value)
  pub node : Node table m value

module _ (sw : Switches) (text step table : List ℕ) (n : ℕ) (r : Rust.Option ℕ) (K : ChildIs sw text step table n r) where
  pub gone : (m : ℕ) → r ≡ Some m → (t : Tree) → Node table n t → Gone sw text step table n t m
  gone m e t N =
      let g = answer_at (child sw text n t step) m (sym (K.is t N) ∙ e) in
      record {
        value = g.0;
        is = g.1;
        node = child_stands table n t (numbered m g.0) N (child_among sw text step n t (numbered m g.0) g.1);
      }

  -- where a step has led to, a value stands
  pub gone_stands : (m : ℕ) → r ≡ Some m → Stands table n → Stands table m
  gone_stands m e S = let G = gone m e S.value S.node in record { value = G.value; node = G.node }

  pub no_child : r ≡ None → (t : Tree) → Node table n t → child sw text n t step ≡ none
  no_child e t N = answer_nothing (child sw text n t step) (sym (K.is t N) ∙ e)

-- ---- the path

module _ (path : List ℕ) (e : ℕ) (q : e ≡ front is_step_byte path) (h : e < length path) where
  split_path : pieces path ≡ take e path ∷ pieces (take (length path - (e + 1)) (drop (e + 1) path))
  split_path = first_step path e q h ∙ ap (λ (l : List ℕ). take e path ∷ pieces l) (sym (part_to_end path (e + 1)))

  -- "steps left fall"
  pub fewer_steps : length (pieces (take (length path - (e + 1)) (drop (e + 1) path))) < length (pieces path)
  fewer_steps = let l = ap (λ (x : List (List ℕ)). length x) split_path in omega arith

module _ (sw : Switches) (text table path : List ℕ) (n k e : ℕ) (r : Rust.Option ℕ) (q : e ≡ front is_step_byte path) (K : ChildIs sw text (take e path) table n r) where
  whole_path : e ≡ length path → pieces path ≡ take e path ∷ []
  whole_path z =
      let w : front is_step_byte path ≡ length path = sym q ∙ z in
      let l : length path ≤ e = omega arith in
      last_step path w ∙ ap (λ (x : List ℕ). x ∷ []) (sym (take_all e path l))

  pub follow_last : (m : ℕ) → r ≡ Some m → e ≡ length path → FollowIs sw text path table n k (Ok m)
  unfolding follow onward
  follow_last m g z =
      record {
        is =
            λ t N.
            let G = gone sw text (take e path) table n r K m g t N in
            sym (ap (λ (ss : List (List ℕ)). follow sw text k n t ss) (whole_path z)
            ∙ ap (λ (o : Option Numbered). onward k o (λ (c : Numbered). Ok c.number)) G.is);
      }

  pub follow_next : (m : ℕ) (a : Result ℕ Refusal) → r ≡ Some m → e < length path
      → FollowIs sw text (take (length path - (e + 1)) (drop (e + 1) path)) table m (k + 1) a → FollowIs sw text path table n k a
  unfolding follow onward
  follow_next m a g h A =
      record {
        is =
            λ t N.
            let G = gone sw text (take e path) table n r K m g t N in
            let rest = pieces (take (length path - (e + 1)) (drop (e + 1) path)) in
            A.is G.value G.node
            ∙ ap (λ (j : ℕ). follow sw text j m G.value rest) (add-one k)
            ∙ sym (ap (λ (ss : List (List ℕ)). follow sw text k n t ss) (split_path path e q h)
            ∙ ap (λ (o : Option Numbered). onward k o (λ (c : Numbered). follow sw text (suc k) c.number c.value rest)) G.is);
      }

  pub follow_missing : r ≡ None → FollowIs sw text path table n k (Err (refusal 23 k))
  unfolding follow onward
  follow_missing g = record { is = λ t N. sym (missing_by t (no_child sw text (take e path) table n r K g t N)) }
    where
      missing_by : (t : Tree) → child sw text n t (take e path) ≡ none → follow sw text k n t (pieces path) ≡ Err (refusal 23 k)
      missing_by t d =
          elim (dec_lt e (length path)) [
            | yes h ↦
                let rest = pieces (take (length path - (e + 1)) (drop (e + 1) path)) in
                ap (λ (ss : List (List ℕ)). follow sw text k n t ss) (split_path path e q h)
                ∙ ap (λ (o : Option Numbered). onward k o (λ (c : Numbered). follow sw text (suc k) c.number c.value rest)) d
            | no h ↦
                let w = front_le is_step_byte path in
                let z : e ≡ length path = omega arith in
                ap (λ (ss : List (List ℕ)). follow sw text k n t ss) (whole_path z)
                ∙ ap (λ (o : Option Numbered). onward k o (λ (c : Numbered). Ok c.number)) d
          ]

-- ---- the call

-- the root of a text that was taken stands in the table
pub root_stands : (words : ℕ) (o : Outcome) (table : List ℕ) (n : ℕ) → table ≡ table_of words o → answer_of o ≡ Ok n → Stands table 0
unfolding answer_of
root_stands words (taken tree) table n w e = record { value = tree; node = subst (λ (t : List ℕ). Node t 0 tree) (sym w) (root_node words tree) }
root_stands words (refused number place) table n w e = let v : ◌≡◌ {A = ℕ} 0 1 = cc in absurd (omega arith)

module _ (sw : Switches) (text path : List ℕ) where
  pub found_root : (o : Outcome) (n : ℕ) → answer_of o ≡ Ok n → length path ≡ 0 → Ok 0 ≡ found sw text path o
  unfolding answer_of found steps follow
  found_root (taken tree) n e z = sym (ap (λ (ss : List (List ℕ)). follow sw text 0 0 tree ss) (no_steps path z))
    where
      no_steps : (s : List ℕ) → length s ≡ 0 → steps s ≡ []
      no_steps [] l = refl
      no_steps (b ∷ s) l = absurd (omega arith)
  found_root (refused number place) n e z = cc

  pub found_on : (words : ℕ) (o : Outcome) (table : List ℕ) (n : ℕ) (a : Result ℕ Refusal) → table ≡ table_of words o → answer_of o ≡ Ok n → (length path ≡ 0 → ⊥)
      → FollowIs sw text path table 0 0 a → a ≡ found sw text path o
  unfolding answer_of found steps pieces
  found_on words (taken tree) table n a w e z A =
      A.is tree (subst (λ (t : List ℕ). Node t 0 tree) (sym w) (root_node words tree))
      ∙ ap (λ (ss : List (List ℕ)). follow sw text 0 0 tree ss) (all_steps path z)
    where
      all_steps : (s : List ℕ) → (length s ≡ 0 → ⊥) → pieces s ≡ steps s
      all_steps [] l = absurd (l refl)
      all_steps (b ∷ s) l = refl
  found_on words (refused number place) table n a w e z A = cc

  pub found_refused : (o : Outcome) (f : Refusal) → answer_of o ≡ Err f → Err f ≡ found sw text path o
  unfolding answer_of found
  found_refused (taken tree) f e = cc
  found_refused (refused number place) f e = cc
