-- The nodes of a text that was taken: the claims of specs/Nodes.antt, by the laws of the crate `nodes`.
-- Assumes nothing.
use mathlib.Core.Path.{◌≡◌, refl, sym, ap, ◌∙◌, subst}
use Prim.Native.Nat.{ℕ, zero, suc, ◌+◌, ◌≤◌, ◌<◌}
use native.Mathlib.Numerals.{add-one}
use native.Mathlib.Omega.{arith}
use mathlib.Core.Option.{Option, none, some}
use mathlib.Core.List.{List}
use lib.ListN.{get_or}
use Rattle.text.specs.declared.switches.Switches.{Switches}
use Rattle.text.proofs.SameLaws.{same_refl}
use Rattle.literals.specs.Content.{same_content}
use Rattle.reader.specs.Tree as T
use Rattle.reader.specs.Tree.{Span, Head, Scalar, Tree, leaf, branch, Forest, nil, cons, head_of, size, sizes, count, scalar_words}
use Rattle.reader.specs.Syntax.{taken}
use Rattle.reader.specs.Reading.{reading, table_of, word_of}
use Rattle.reader.specs.Content.{span_content}
use Rattle.nodes.specs.Nodes.{node_of, kind_of, children_of, Numbered, numbered, nth, content_of_key, has_key, element}
use Rattle.nodes.specs.Stands.{Node}
use Rattle.nodes.specs.Range.{InRange}
use Rattle.nodes.specs.InternalTrees.{AllScalars, StringIs}
use Rattle.nodes.proofs.WordLaws.{some_is, none_is, first_of, second_of, own_word, scalar_high, word_is, word_next, word_count, word_key, word_own}
use Rattle.nodes.proofs.WalkLaws.{Ahead, ahead_all, ahead_node, ahead_parent, Nth, nth_ahead}
use Rattle.nodes.proofs.NodeLaws.{root_parent, nth_among, child_node, node_table, node_stands, node_count_law, node_taken}
use Rattle.nodes.proofs.ParentLaws.{node_child}
use Rattle.nodes.proofs.ValueLaws.{reading_ranged, reading_strings}
use Rattle.nodes.proofs.KeyLaws.{scalars_node, child_keyed, only_member, same_member}
use Rattle.theorems.specs.Nodes.{IsNode, Children, NodesNumbered, WordsStand, ChildrenFollow, ParentsNamed, StringsByWords, KeysDiffer, NumbersInRange}

pub nodes_numbered : NodesNumbered
unfolding NodesNumbered
nodes_numbered sw words text =
    record {
      each = λ n h. let r = node_stands words n (reading sw words text) h in (r.0, r.1);
      no_other = λ n t e. node_count_law n (reading sw words text) t e;
    }

pub words_stand : WordsStand
unfolding WordsStand
words_stand sw words text n t e =
    let N = node_table words n (reading sw words text) t e in
    record { parent = N.parent; words_are = λ w h. word_is (table_of words (reading sw words text)) n t N w h }

-- ---- children

first_number : (x : ℕ) (f : Forest) (c : Numbered) → nth 0 x f ≡ some c → c.number ≡ x
unfolding nth
first_number x nil c e = none_is e
first_number x (cons t f) c e = ap (λ (d : Numbered). d.number) (sym (some_is e))

no_first : (x : ℕ) (f : Forest) → nth 0 x f ≡ none → sizes f ≡ 0
unfolding nth sizes
no_first x nil e = refl
no_first x (cons t f) e = cc

-- there are as many as are counted
nth_some : (i x : ℕ) (f : Forest) → i < count f → (c : Numbered) × (nth i x f ≡ some c)
unfolding nth count
nth_some i x nil h = absurd (omega arith)
nth_some zero x (cons t f) h = (numbered x t, refl)
nth_some (suc i) x (cons t f) h = nth_some i (x + size t) f (omega arith)

nth_none : (i x : ℕ) (f : Forest) → count f ≤ i → nth i x f ≡ none
unfolding nth count
nth_none i x nil h = refl
nth_none zero x (cons t f) h = absurd (omega arith)
nth_none (suc i) x (cons t f) h = nth_none i (x + size t) f (omega arith)

-- word 9 of a container
own_count : (t : Tree) → kind_of t ≤ 3 → own_word t ≡ count (children_of t)
unfolding kind_of own_word children_of
own_count (leaf h s) l = let z = scalar_high s in absurd (omega arith)
own_count (branch h k f) l = refl

size_by : (t : Tree) → size t ≡ suc (sizes (children_of t))
unfolding size children_of
size_by (leaf h s) = refl
size_by (branch h k f) = refl

module _ (sw : Switches) (words : ℕ) (text : List ℕ) (n : ℕ) (t : Tree) (e : IsNode sw words text n t) where
  abbrev table : List ℕ
  table = table_of words (reading sw words text)

  stands : Node table n t
  stands = node_table words n (reading sw words text) t e

  place : (i : ℕ) (c : Numbered) → element i n t ≡ some c → Nth table n i (suc n) (children_of t) c
  unfolding element
  place i c q = nth_ahead table n i (suc n) (children_of t) c (subst (λ (x : ℕ). Ahead table n x (children_of t)) (add-one n) (ahead_all table n t stands)) q

  -- word 8 of a child is the number after its descendants
  behind : (i : ℕ) (c : Numbered) (q : element i n t ≡ some c) → word_of table c.number 8 ≡ c.number + size c.value
  behind i c q =
      let r = place i c q in
      word_next table c.number c.value (ahead_node table n c.number c.value r.later r.ahead)

  child_is : (i : ℕ) (c : Numbered) → element i n t ≡ some c → IsNode sw words text c.number c.value
  unfolding element node_of
  child_is i c q =
      let r = node_taken n (reading sw words text) t e in
      ap (λ o. node_of o c.number) r.1 ∙ child_node r.0 n t c r.2 (nth_among i (suc n) (children_of t) c q)

  further : (i : ℕ) (c : Numbered) (o : Option Numbered) (q : element i n t ≡ some c) → element (i + 1) n t ≡ o
      → nth 0 (c.number + size c.value) (place i c q).later ≡ o
  unfolding element
  further i c o q d = sym (place i c q).next ∙ ap (λ (j : ℕ). nth j (suc n) (children_of t)) (sym (add-one i)) ∙ d

  next_is : (i : ℕ) (c d : Numbered) → element i n t ≡ some c → element (i + 1) n t ≡ some d → d.number ≡ word_of table c.number 8
  next_is i c d q p = first_number (c.number + size c.value) (place i c q).later d (further i c (some d) q p) ∙ sym (behind i c q)

  last_is : (i : ℕ) (c : Numbered) → element i n t ≡ some c → element (i + 1) n t ≡ none → word_of table c.number 8 ≡ word_of table n 8
  unfolding sizes
  last_is i c q p =
      let r = place i c q in
      let z = no_first (c.number + size c.value) r.later (further i c none q p) in
      let a = r.ahead.ends in
      let b = behind i c q in
      omega arith

  pub children_of_law : Children sw words text n t
  unfolding element
  children_of_law =
      record {
        child_node = child_is;
        child_parent = λ i c q. let r = place i c q in ahead_parent table n c.number c.value r.later r.ahead;
        first = λ c q. first_number (suc n) (children_of t) c q ∙ sym (add-one n);
        next = next_is;
        last = last_is;
        no_child = λ q.
            let z = no_first (suc n) (children_of t) q in
            let w = word_next table n t stands in
            let y = size_by t in
            omega arith;
        counted = λ l i h. nth_some i (suc n) (children_of t) (let w = word_count table n t stands in let y = own_count t l in omega arith);
        no_more = λ l i h. nth_none i (suc n) (children_of t) (let w = word_count table n t stands in let y = own_count t l in omega arith);
      }

pub children_follow : ChildrenFollow
unfolding ChildrenFollow
children_follow sw words text n t e = children_of_law sw words text n t e

pub parents_named : ParentsNamed
unfolding ParentsNamed node_of
parents_named sw words text =
    record {
      root = λ t e. let r = node_taken 0 (reading sw words text) t e in ap (λ o. word_of (table_of words o) 0 1) r.1 ∙ root_parent words r.0;
      other = λ n t e h.
          let r = node_taken n (reading sw words text) t e in
          let c = node_child r.0 n t r.2 h in
          (c.parent, c.value, c.index, ap (λ o. node_of o c.parent) r.1 ∙ c.is_node_law, c.is_child);
    }

-- ---- contents, keys and numbers

module _ (sw : Switches) (words : ℕ) (text : List ℕ) (n : ℕ) (h : Head) (s : Scalar) (e : IsNode sw words text n (leaf h s)) where
  -- what is so of every such value of a taken text is so of this one
  scalar_has : (P : Scalar → Type 0) → ((tree : Tree) → reading sw words text ≡ taken tree → AllScalars P tree) → P s
  unfolding AllScalars
  scalar_has P all = let r = node_taken n (reading sw words text) (leaf h s) e in scalars_node P r.0 (leaf h s) n r.2 (all r.0 r.1)

  string : StringIs sw text s
  string = scalar_has (StringIs sw text) (λ tree q. reading_strings sw words text tree q)

  own_word_law : (i : ℕ) → i < 3 → word_of (table_of words (reading sw words text)) n (9 + i) ≡ get_or (scalar_words s) i 0
  own_word_law i l = word_own (table_of words (reading sw words text)) n h s (node_table words n (reading sw words text) (leaf h s) e) i l

  -- words 9 and 10 are a span that has this content
  words_content : (start stop : ℕ) (content : List ℕ) → get_or (scalar_words s) 0 0 ≡ start → get_or (scalar_words s) 1 0 ≡ stop
      → span_content sw start stop text ≡ some content
      → span_content sw (word_of (table_of words (reading sw words text)) n 9) (word_of (table_of words (reading sw words text)) n 10) text ≡ some content
  words_content start stop content a b c =
      let x = own_word_law 0 (omega arith) ∙ a in
      let y = own_word_law 1 (omega arith) ∙ b in
      (λ i. span_content sw (x i) (y i) text) ∙ c

pub strings_by_words : StringsByWords
unfolding StringsByWords StringIs scalar_words
strings_by_words sw words text =
    record {
      text_content = λ n h token content e.
          words_content sw words text n h (T.text token content) e token.start token.stop content refl refl (string sw words text n h (T.text token content) e);
      bytes_content = λ n h token content e.
          words_content sw words text n h (T.bytes token content) e token.start token.stop content refl refl (string sw words text n h (T.bytes token content) e);
    }

pub numbers_in_range : NumbersInRange
unfolding NumbersInRange
numbers_in_range sw words text n h s e = scalar_has sw words text n h s e InRange (λ tree q. reading_ranged sw words text tree q)

-- words 4 and 5 name the key
key_words : (sw : Switches) (text key table : List ℕ) (n : ℕ) (t : Tree) → Node table n t → content_of_key sw text (head_of t).key ≡ some key
    → span_content sw (word_of table n 4) (word_of table n 5) text ≡ some key
unfolding content_of_key first_of second_of
key_words sw text key table n t N e =
    let w = word_key table n t N in
    (λ i. span_content sw (w.0 i) (w.1 i) text) ∙ by (head_of t).key e
  where
    by : (o : Option Span) → content_of_key sw text o ≡ some key → span_content sw (first_of o) (second_of o) text ≡ some key
    by none q = none_is q
    by (some span) q = q

pub keys_differ : KeysDiffer
unfolding KeysDiffer has_key same_content
keys_differ sw words text n t e o =
    let r = node_taken n (reading sw words text) t e in
    record {
      content = λ i c q.
          let k = child_keyed sw words text r.0 r.1 n t r.2 o i c q in
          let N = node_table words c.number (reading sw words text) c.value (child_is sw words text n t e i c q) in (
            k.0,
            key_words sw text k.0 (table_of words (reading sw words text)) c.number c.value N k.1,
            ap (λ p. same_content p (some k.0)) k.1 ∙ sym (same_refl k.0),
          );
      differ = λ i j c d key x y p q. same_member sw words text r.0 r.1 n t r.2 o i j c d key x y p q;
      only = λ i c key q has. only_member sw words text r.0 r.1 n t r.2 o i c key q has;
    }
