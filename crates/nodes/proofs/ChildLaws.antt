-- The walks over a node's children, by key and by index, way out by way out.
-- Assumes nothing.
use Rattle.std.specs.Prelude.{Some, None, Result, IsOk}
use mathlib.Core.Path.{◌≡◌, refl, sym, ap, ◌∙◌, subst}
use Prim.Native.Nat.{ℕ, zero, suc, ◌+◌, ◌-◌, ◌*◌, ◌≤◌, ◌<◌}
use native.Mathlib.Numerals.{add-one}
use native.Mathlib.Omega.{arith}
use mathlib.Core.Bool.{Bool, true, false, cond}
use mathlib.Core.Logic.{∥∥₁_elim}
use denote.Struct.Props.{≡_prop}
use Rattle.std.specs.Coded.{coded_bool}
use mathlib.Core.Option.{Option, none, some}
use mathlib.Core.List.{List, [], ◌∷◌}
use Rattle.std.specs.Iterator.{Yields, SkipsThenYields}
use Rattle.nodes.specs.declared.node.Node as CN
use Rattle.nodes.specs.Children.{number_in, InTable, Steps}
use lib.ListN.{length}
use Rattle.text.specs.declared.switches.Switches.{Switches}
use Rattle.literals.specs.Content.{same_content}
use Rattle.reader.specs.declared.kinds.NodeKind.{NodeKind}
use Rattle.reader.specs.declared.kinds.UnknownKind.{UnknownKind}
use Rattle.reader.specs.Kinds.{number_of_kind, container_kind, Decodes}
use Rattle.reader.specs.Internal.Tokens.{scalar_kind}
use Rattle.reader.proofs.KindLaws.{container_says, scalar_says, decoded}
use Rattle.reader.specs.Tree.{Span, Tree, leaf, branch, nil, head_of, size, node_words}
use Rattle.reader.specs.Reading.{word_of}
use Rattle.reader.specs.Content.{span_content}
use Rattle.nodes.specs.Nodes.{kind_of, children_of, Numbered, numbered, first_that, nth, content_of_key, has_key, member, element}
use Rattle.nodes.specs.Answers.{childAnswer}
use Rattle.nodes.specs.Stands.{Node, Stands, KindIs, MemberIs, ElementIs}
use Rattle.std.specs.declared.option.Option as Rust
use Rattle.nodes.proofs.WordLaws.{first_of, second_of, word_in, word_key, word_kind}
use Rattle.nodes.specs.declared.children.Children.{Children}
use Rattle.nodes.proofs.WalkLaws.{Walk, Here, walk_start, walk_here, walk_done, walk_next, WalksOver, Gave, gave}
use Rattle.nodes.proofs.ContentLaws.{nothing_there}

-- what a node's words 4 and 5 say of its key
pub key_asked : (sw : Switches) (text key table : List ℕ) (n : ℕ) (t : Tree) → Node table n t → same_content (span_content sw (word_of table n 4) (word_of table n 5) text) (some key) ≡ has_key sw text key t
unfolding has_key content_of_key same_content first_of second_of
key_asked sw text key table n t N =
    let w = word_key table n t N in
    (λ i. same_content (span_content sw (w.0 i) (w.1 i) text) (some key)) ∙ by (head_of t).key
  where
    by : (o : Option Span) → same_content (span_content sw (first_of o) (second_of o) text) (some key) ≡ same_content (content_of_key sw text o) (some key)
    by none = nothing_there sw text key
    by (some s) = refl

-- the words of a node lie in the table
pub stands_word : (table : List ℕ) (n : ℕ) → Stands table n → (w : ℕ) → w < node_words → node_words * n + w < length table
stands_word table n S w h = word_in table n S.value S.node w h

-- a value's kind, as the code's enum
kind_told : (t : Tree) → (k : NodeKind) × (number_of_kind k ≡ kind_of t)
unfolding kind_of
kind_told (leaf h s) = (scalar_kind s, scalar_says s)
kind_told (branch h k f) = (container_kind k, container_says k)

-- word 0 is a kind's number
pub kind_there : (table : List ℕ) (n word : ℕ) (r : Result NodeKind UnknownKind) → ∥ Stands table n ∥₁ → word ≡ word_of table n 0 → Decodes word r → IsOk r
kind_there table n word r S e D = ∥∥₁_elim S (≡_prop coded_bool _ _) by
  where
    by : Stands table n → IsOk r
    by s = let k = kind_told s.value in decoded word r k.0 D (k.1 ∙ sym (word_kind table n s.value s.node) ∙ sym e)

pub kind_answer : (table : List ℕ) (n r : ℕ) → r ≡ word_of table n 0 → KindIs table n r
kind_answer table n r e = record { is = λ t N. e ∙ word_kind table n t N }

-- ---- what an answer tells

pub answer_at : (o : Option Numbered) (m : ℕ) → childAnswer o ≡ Some m → (v : Tree) × (o ≡ some (numbered m v))
unfolding childAnswer
answer_at none m e = let v : ◌≡◌ {A = ℕ} 0 1 = cc in absurd (omega arith)
answer_at (some c) m e = (c.value, let q : c.number ≡ m = cc in ap (λ (k : ℕ). some (numbered k c.value)) q)

pub answer_nothing : (o : Option Numbered) → childAnswer o ≡ None → o ≡ none
unfolding childAnswer
answer_nothing none e = refl
answer_nothing (some c) e = cc

-- ---- the first child that passes a test

-- the loop has come to x, of whichever value stands there, and none before x passes
pub record FirstWalk (p : Tree → Bool) (table : List ℕ) (n x : ℕ) : Type 0 where
  pub of : (t : Tree) → Node table n t → Walk (λ y f. first_that p y f ≡ first_that p (suc n) (children_of t)) table n x

-- the answer is the number of the first child that passes, or that there is none
pub record FirstIs (p : Tree → Bool) (table : List ℕ) (n : ℕ) (r : Rust.Option ℕ) : Type 0 where
  pub is : (t : Tree) → Node table n t → r ≡ childAnswer (first_that p (suc n) (children_of t))

module _ (p : Tree → Bool) (table : List ℕ) (n : ℕ) where
  pub first_at : (x : ℕ) (s t : Children) → FirstWalk p table n s.next → Gave table n x s t → FirstWalk p table n x
  first_at x s t W G = subst (FirstWalk p table n) G.at W

  pub first_start : FirstWalk p table n (n + 1)
  first_start =
      record {
        of =
            λ t N. walk_start (λ y f. first_that p y f ≡ first_that p (suc n) (children_of t)) table n t N
            (ap (λ (m : ℕ). first_that p m (children_of t)) (add-one n));
      }

  FirstHere : Tree → (x : ℕ) → Type 0
  FirstHere t x = Here (λ y f. first_that p y f ≡ first_that p (suc n) (children_of t)) table n x

  module _ (x end : ℕ) (W : FirstWalk p table n x) (e : end ≡ word_of table n 8) where
    first_here : x < end → (t : Tree) → Node table n t → FirstHere t x
    unfolding FirstHere
    first_here h t N = walk_here (λ y f. first_that p y f ≡ first_that p (suc n) (children_of t)) table n x (W.of t N) (omega arith)

    pub first_hit : x < end → ((v : Tree) → Node table x v → p v ≡ true) → FirstIs p table n (Some x)
    unfolding FirstHere first_that childAnswer
    first_hit h passes = record { is = λ t N. at t (first_here h t N) }
      where
        at : (t : Tree) → FirstHere t x → Some x ≡ childAnswer (first_that p (suc n) (children_of t))
        at t H =
            sym (ap (λ (b : Bool). childAnswer (cond b (some (numbered x H.value)) (first_that p (x + size H.value) H.later))) (passes H.value H.node))
            ∙ ap childAnswer H.so

    pub first_on : (y : ℕ) → x < end → ((v : Tree) → Node table x v → p v ≡ false) → y ≡ word_of table x 8 → FirstWalk p table n y
    unfolding FirstHere first_that
    first_on y h fails g = record { of = λ t N. on t (first_here h t N) }
      where
        on : (t : Tree) → FirstHere t x → Walk (λ z f. first_that p z f ≡ first_that p (suc n) (children_of t)) table n y
        on t H =
            walk_next (λ z f. first_that p z f ≡ first_that p (suc n) (children_of t)) (λ z f. first_that p z f ≡ first_that p (suc n) (children_of t)) table n x y H g
            (sym (ap (λ (b : Bool). cond b (some (numbered x H.value)) (first_that p (x + size H.value) H.later)) (fails H.value H.node)) ∙ H.so)

    pub first_end : end ≤ x → FirstIs p table n None
    unfolding first_that childAnswer
    first_end h =
        record {
          is =
              λ t N. ap childAnswer (walk_done (λ y f. first_that p y f ≡ first_that p (suc n) (children_of t)) table n x (W.of t N) (omega arith));
        }

-- ---- by key

module _ (sw : Switches) (text key table : List ℕ) (n : ℕ) where
  -- what the code compares, at the child x
  key_told : (x a e : ℕ) (r b : Bool) → a ≡ word_of table x 4 → e ≡ word_of table x 5 → r ≡ same_content (span_content sw a e text) (some key) → r ≡ b
      → (v : Tree) → Node table x v → has_key sw text key v ≡ b
  key_told x a e r b p q s y v N =
      sym (key_asked sw text key table x v N) ∙ (λ i. same_content (span_content sw (sym p i) (sym q i) text) (some key)) ∙ sym s ∙ y

  pub member_hit : (s t : Children) (x a e : ℕ) (r : Bool) → FirstWalk (has_key sw text key) table n s.next → Gave table n x s t → a ≡ word_of table x 4
      → e ≡ word_of table x 5 → r ≡ same_content (span_content sw a e text) (some key) → r ≡ true → MemberIs sw text key table n (Some x)
  unfolding member
  member_hit s t x a e r W G p q f y =
      record { is = (first_hit (has_key sw text key) table n x s.end (first_at (has_key sw text key) table n x s t W G) G.ends G.before (key_told x a e r true p q f y)).is }

  pub member_on : (s t : Children) (x a e : ℕ) (r : Bool) → FirstWalk (has_key sw text key) table n s.next → Gave table n x s t → a ≡ word_of table x 4
      → e ≡ word_of table x 5 → r ≡ same_content (span_content sw a e text) (some key) → r ≡ false → FirstWalk (has_key sw text key) table n t.next
  member_on s t x a e r W G p q f y =
      first_on (has_key sw text key) table n x s.end (first_at (has_key sw text key) table n x s t W G) G.ends t.next G.before (key_told x a e r false p q f y) G.on

  pub member_end : (s : Children) → FirstWalk (has_key sw text key) table n s.next → WalksOver table n s → s.end ≤ s.next → MemberIs sw text key table n None
  unfolding member
  member_end s W O h = record { is = (first_end (has_key sw text key) table n s.next s.end W O.end_is h).is }

-- ---- by index

-- the loop has come to x, with `left` children to pass over
pub record ElementWalk (i : ℕ) (table : List ℕ) (n left x : ℕ) : Type 0 where
  pub of : (t : Tree) → Node table n t → Walk (λ y f. nth left y f ≡ element i n t) table n x

module _ (i : ℕ) (table : List ℕ) (n : ℕ) where
  pub element_start : ElementWalk i table n i (n + 1)
  unfolding element
  element_start =
      record { of = λ t N. walk_start (λ y f. nth i y f ≡ element i n t) table n t N (ap (λ (m : ℕ). nth i m (children_of t)) (add-one n)) }

  abbrev pub ElementHere : Tree → (left x : ℕ) → Type 0
  ElementHere t left x = Here (λ y f. nth left y f ≡ element i n t) table n x

  element_here : (left x end : ℕ) → ElementWalk i table n left x → end ≡ word_of table n 8 → x < end → (t : Tree) → Node table n t → ElementHere t left x
  element_here left x end W e h t N = walk_here (λ y f. nth left y f ≡ element i n t) table n x (W.of t N) (omega arith)

  hit_by : (t : Tree) (left x : ℕ) → ElementHere t left x → left ≡ 0 → Some x ≡ childAnswer (element i n t)
  unfolding nth childAnswer
  hit_by t zero x H z = ap childAnswer H.so
  hit_by t (suc left) x H z = absurd (omega arith)

  element_at : (left x : ℕ) (s t : Children) → ElementWalk i table n left s.next → Gave table n x s t → ElementWalk i table n left x
  element_at left x s t W G = subst (ElementWalk i table n left) G.at W

  pub element_hit : (left x : ℕ) (s t : Children) → ElementWalk i table n left s.next → Gave table n x s t → left ≡ 0 → ElementIs i table n (Some x)
  element_hit left x s t W G z = record { is = λ v N. hit_by v left x (element_here left x s.end (element_at left x s t W G) G.ends G.before v N) z }

  on_by_law : (t : Tree) (left x y : ℕ) → ElementHere t left x → (left ≡ 0 → ⊥) → y ≡ word_of table x 8 → Walk (λ z f. nth (left - 1) z f ≡ element i n t) table n y
  unfolding nth
  on_by_law t zero x y H z g = absurd (z refl)
  on_by_law t (suc left) x y H z g =
      let q : left ≡ suc left - 1 = omega arith in
      subst (λ (k : ℕ). Walk (λ z f. nth k z f ≡ element i n t) table n y) q
      (walk_next (λ z f. nth (suc left) z f ≡ element i n t) (λ z f. nth left z f ≡ element i n t) table n x y H g H.so)

  pub element_on : (left x : ℕ) (s t : Children) → ElementWalk i table n left s.next → Gave table n x s t → (left ≡ 0 → ⊥) → ElementWalk i table n (left - 1) t.next
  element_on left x s t W G z =
      record { of = λ v N. on_by_law v left x t.next (element_here left x s.end (element_at left x s t W G) G.ends G.before v N) z G.on }

  none_by : (t : Tree) (left x : ℕ) → nth left x nil ≡ element i n t → None ≡ childAnswer (element i n t)
  unfolding nth childAnswer
  none_by t zero x d = ap childAnswer d
  none_by t (suc left) x d = ap childAnswer d

  pub element_end : (left : ℕ) (s : Children) → ElementWalk i table n left s.next → WalksOver table n s → s.end ≤ s.next → ElementIs i table n None
  element_end left s W O h =
      let e = O.end_is in
      record { is = λ t N. none_by t left s.next (walk_done (λ y f. nth left y f ≡ element i n t) table n s.next (W.of t N) (omega arith)) }

  -- the walk after some steps
  passed_over : (left : ℕ) (xs : List CN.Node) (s t : Children) → Yields Steps s xs t → length xs ≤ left → WalksOver table n s → ElementWalk i table n left s.next
      → WalksOver table n t × ElementWalk i table n (left - length xs) t.next
  passed_over left [] s t y h O W =
      let e : left ≡ left - 0 = omega arith in
      subst (λ (u : Children). WalksOver table n u × ElementWalk i table n (left - 0) u.next) y (O, subst (λ (k : ℕ). ElementWalk i table n k s.next) e W)
  passed_over left (x ∷ xs) s t y h O W =
      let G = gave table n x s y.0 O y.1 in
      let e : left - 1 - length xs ≡ left - suc (length xs) = omega arith in
      subst (λ (k : ℕ). WalksOver table n t × ElementWalk i table n k t.next) e
      (passed_over (left - 1) xs y.0 t y.2 (omega arith) G.1.over (element_on left x.number s y.0 W G.1 (λ z. omega arith)))

  -- the i-th of the steps gives the answer
  pub element_nth : (r : Rust.Option CN.Node) (s u : Children) → SkipsThenYields Steps s i r u → WalksOver table n s → s.next ≡ n + 1
      → ElementIs i table n (number_in r) × InTable table r
  element_nth (Some x) s u y O z =
      let P = passed_over i y.0 s y.1.0 y.1.1 (omega arith) O (subst (ElementWalk i table n i) (sym z) element_start) in
      let G = gave table n x y.1.0 u P.0 y.1.2 in
      (element_hit (i - length y.0) x.number y.1.0 u P.1 G.1 (omega arith), G.0)
  element_nth None s u y O z =
      let P = passed_over i y.0 s y.1.0 y.1.1 (omega arith) O (subst (ElementWalk i table n i) (sym z) element_start) in
      (element_end (i - length y.0) y.1.0 P.1 P.0 y.1.2.2, tt)
