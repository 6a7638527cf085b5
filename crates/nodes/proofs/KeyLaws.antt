-- What is so of a whole tree is so of each of its nodes; and two keys of one object differ in content, so that the member with a key is the
-- only one that has it.
-- Assumes nothing.
use mathlib.Core.Path.{◌≡◌, refl, sym, ap, ◌∙◌, subst}
use Prim.Native.Nat.{ℕ, zero, suc, ◌+◌, ◌-◌}
use native.Mathlib.Omega.{arith}
use mathlib.Core.Bool.{Bool, true, false, ◌||◌, true≢false}
use mathlib.Core.Option.{Option, some}
use mathlib.Core.List.{List, [], ◌∷◌}
use Rattle.text.specs.declared.switches.Switches.{Switches}
use Rattle.text.specs.Bytes.{same_bytes}
use Rattle.text.proofs.Choice.{cond-case, cond-true, cond-false}
use Rattle.text.proofs.SameLaws.{same_is}
use Rattle.literals.specs.Content.{same_content}
use Rattle.reader.specs.declared.tree.Kind.{Kind}
use Rattle.reader.specs.declared.tree.Kind.TheVariants.{Object, Array, Tuple}
use Rattle.reader.specs.Tree.{Head, Scalar, Tree, leaf, branch, Forest, nil, cons, head_of, size, kind_number}
use Rattle.reader.specs.Syntax.{holds, taken}
use Rattle.reader.specs.Reading.{reading}
use Rattle.nodes.specs.Nodes.{node_at, node_in, kind_of, children_of, Numbered, numbered, first_that, nth, content_of_key, has_key, member, element}
use Rattle.nodes.specs.InternalTrees.{AllScalars, AllScalarsIn, KeysAre, Different, ChildKeys, AllKeyed, AllKeyedIn}
use Rattle.nodes.proofs.WordLaws.{some_is, none_is, scalar_high}
use Rattle.nodes.proofs.NodeLaws.{in_case}
use Rattle.nodes.proofs.ValueLaws.{reading_keyed}

-- ---- from a tree to its nodes

-- what goes from a container to its children, and from values side by side to each of them, goes to every node
module _ (Q : Tree → Type 0) (R : Forest → Type 0) (down : (h : Head) (k : Kind) (f : Forest) → Q (branch h k f) → R f)
    (apart : (t : Tree) (f : Forest) → R (cons t f) → Q t × R f) (u : Tree) where
  mutual
    unfolding node_at

    inherited : (t : Tree) (i : ℕ) → node_at t i ≡ some u → Q t → Q u
    inherited (leaf h s) zero e q = subst Q (some_is e) q
    inherited (leaf h s) (suc i) e q = none_is e
    inherited (branch h k f) zero e q = subst Q (some_is e) q
    inherited (branch h k f) (suc i) e q = inherited_in f i e (down h k f q)

    inherited_in : (f : Forest) (i : ℕ) → node_in f i ≡ some u → R f → Q u
    inherited_in nil i e r = none_is e
    inherited_in (cons t f) i e r =
        in_case (Q u) t u f i e (λ _ q. inherited t i q (apart t f r).0) (λ _ q. inherited_in f (i - size t) q (apart t f r).1)

pub scalars_node : (P : Scalar → Type 0) (t u : Tree) (i : ℕ) → node_at t i ≡ some u → AllScalars P t → AllScalars P u
unfolding AllScalars
scalars_node P t u i e a = inherited (AllScalars P) (AllScalarsIn P) (λ h k f q. q) (λ t f r. r) u t i e a

pub keyed_node : (sw : Switches) (text : List ℕ) (t u : Tree) (i : ℕ) → node_at t i ≡ some u → AllKeyed sw text t → AllKeyed sw text u
unfolding AllKeyed
keyed_node sw text t u i e a = inherited (AllKeyed sw text) (AllKeyedIn sw text) (λ h k f q. q.1) (λ t f r. r) u t i e a

-- and so of the first of values side by side that passes a test
pub scalars_first : (P : Scalar → Type 0) (p : Tree → Bool) (n : ℕ) (f : Forest) (c : Numbered) → first_that p n f ≡ some c → AllScalarsIn P f
    → AllScalars P c.value
unfolding AllScalars first_that
scalars_first P p n nil c e a = none_is e
scalars_first P p n (cons t f) c e a =
    cond-case (λ (o : Option Numbered). o ≡ some c) (AllScalars P c.value) (p t) e
    (λ _ q. subst (λ (d : Numbered). AllScalars P d.value) (some_is q) a.0) (λ _ q. scalars_first P p (n + size t) f c q a.1)

-- ---- the members of an object

or_second : (a b : Bool) → b ≡ true → a || b ≡ true
or_second true b e = refl
or_second false b e = e

module _ (sw : Switches) (text : List ℕ) where
  key_is : (k key : List ℕ) (t : Tree) → content_of_key sw text (head_of t).key ≡ some k → has_key sw text key t ≡ same_bytes k key
  unfolding has_key same_content
  key_is k key t e = ap (λ (o : Option (List ℕ)). same_content o (some key)) e

  -- every one of them has a key
  pub each_keyed : (f : Forest) (ks : List (List ℕ)) (i n : ℕ) (c : Numbered) → KeysAre sw text f ks → nth i n f ≡ some c
      → (k : List ℕ) × (content_of_key sw text (head_of c.value).key ≡ some k)
  unfolding KeysAre nth
  each_keyed nil ks i n c a e = none_is e
  each_keyed (cons t f) [] i n c a e = absurd a
  each_keyed (cons t f) (k ∷ ks) zero n c a e = (k, ap (λ (d : Numbered). content_of_key sw text (head_of d.value).key) (sym (some_is e)) ∙ a.0)
  each_keyed (cons t f) (k ∷ ks) (suc i) n c a e = each_keyed f ks i (n + size t) c a.1 e

  module _ (key : List ℕ) where
    -- the first of them is this child
    at_front : (t : Tree) (f : Forest) (n : ℕ) (c : Numbered) → nth 0 n (cons t f) ≡ some c → has_key sw text key c.value ≡ true
        → has_key sw text key t ≡ true
    unfolding nth
    at_front t f n c e has = ap (λ (d : Numbered). has_key sw text key d.value) (some_is e) ∙ has

    -- one with this key has it among the keys
    held : (f : Forest) (ks : List (List ℕ)) (i n : ℕ) (c : Numbered) → KeysAre sw text f ks → nth i n f ≡ some c → has_key sw text key c.value ≡ true
        → holds ks key ≡ true
    unfolding KeysAre nth holds
    held nil ks i n c a e has = none_is e
    held (cons t f) [] i n c a e has = absurd a
    held (cons t f) (k ∷ ks) zero n c a e has =
        let q : same_bytes k key ≡ true = sym (key_is k key t a.0) ∙ at_front t f n c e has in
        rw q
    held (cons t f) (k ∷ ks) (suc i) n c a e has = or_second (same_bytes k key) (holds ks key) (held f ks i (n + size t) c a.1 e has)

    -- so one before it has another
    not_before : (t : Tree) (f : Forest) (k : List ℕ) (ks : List (List ℕ)) (i n : ℕ) (c : Numbered) → content_of_key sw text (head_of t).key ≡ some k
        → KeysAre sw text f ks → holds ks k ≡ false → nth i n f ≡ some c → has_key sw text key c.value ≡ true → has_key sw text key t ≡ false
    not_before t f k ks i n c q a h e has = by (has_key sw text key t) refl
      where
        by : (b : Bool) → has_key sw text key t ≡ b → b ≡ false
        by false p = refl
        by true p =
            let s = same_is k key (sym (key_is k key t q) ∙ p) in
            absurd (true≢false (sym (held f ks i n c a e has) ∙ ap (holds ks) (sym s) ∙ h))

    -- the first with this key is the only one
    pub first_is : (f : Forest) (ks : List (List ℕ)) (i n : ℕ) (c : Numbered) → KeysAre sw text f ks → Different ks → nth i n f ≡ some c
        → has_key sw text key c.value ≡ true → first_that (has_key sw text key) n f ≡ some c
    unfolding KeysAre Different nth first_that
    first_is nil ks i n c a d e has = none_is e
    first_is (cons t f) [] i n c a d e has = absurd a
    first_is (cons t f) (k ∷ ks) zero n c a d e has =
        cond-true (has_key sw text key t) (some (numbered n t)) (first_that (has_key sw text key) (n + size t) f) (at_front t f n c e has) ∙ e
    first_is (cons t f) (k ∷ ks) (suc i) n c a d e has =
        cond-false (has_key sw text key t) (some (numbered n t)) (first_that (has_key sw text key) (n + size t) f)
        (not_before t f k ks i (n + size t) c a.0 a.1 d.0 e has)
        ∙ first_is f ks i (n + size t) c a.1 d.1 e has

    -- and two with it are one
    pub same_index : (f : Forest) (ks : List (List ℕ)) (i j n : ℕ) (c d : Numbered) → KeysAre sw text f ks → Different ks → nth i n f ≡ some c → nth j n f ≡ some d
        → has_key sw text key c.value ≡ true → has_key sw text key d.value ≡ true → i ≡ j
    unfolding KeysAre Different nth
    same_index nil ks i j n c d a D e g p q = none_is e
    same_index (cons t f) [] i j n c d a D e g p q = absurd a
    same_index (cons t f) (k ∷ ks) zero zero n c d a D e g p q = refl
    same_index (cons t f) (k ∷ ks) zero (suc j) n c d a D e g p q =
        absurd (true≢false (sym (at_front t f n c e p) ∙ not_before t f k ks j (n + size t) d a.0 a.1 D.0 g q))
    same_index (cons t f) (k ∷ ks) (suc i) zero n c d a D e g p q =
        absurd (true≢false (sym (at_front t f n d g q) ∙ not_before t f k ks i (n + size t) c a.0 a.1 D.0 e p))
    same_index (cons t f) (k ∷ ks) (suc i) (suc j) n c d a D e g p q = ap suc (same_index f ks i j (n + size t) c d a.1 D.1 e g p q)

-- ---- in a text that was taken

module _ (sw : Switches) (words : ℕ) (text : List ℕ) (tree : Tree) (e : reading sw words text ≡ taken tree) where
  -- the children of a node that is an object have keys, with different contents
  members : (n : ℕ) (t : Tree) → node_at tree n ≡ some t → kind_of t ≡ 1 → (ks : List (List ℕ)) × KeysAre sw text (children_of t) ks × Different ks
  unfolding kind_of kind_number children_of AllKeyed ChildKeys
  members n (leaf h s) q o = let z = scalar_high s in absurd (omega arith)
  members n (branch h Object f) q o = (keyed_node sw text tree (branch h Object f) n q (reading_keyed sw words text tree e)).0
  members n (branch h Array f) q o = absurd (omega arith)
  members n (branch h Tuple f) q o = absurd (omega arith)

  module _ (n : ℕ) (t : Tree) (q : node_at tree n ≡ some t) (o : kind_of t ≡ 1) where
    -- every one of them has a key, and its key has a content
    pub child_keyed : (i : ℕ) (c : Numbered) → element i n t ≡ some c → (k : List ℕ) × (content_of_key sw text (head_of c.value).key ≡ some k)
    unfolding element
    child_keyed i c d = let K = members n t q o in each_keyed sw text (children_of t) K.0 i (suc n) c K.1 d

    -- one that has this key is the member with this key
    pub only_member : (i : ℕ) (c : Numbered) (key : List ℕ) → element i n t ≡ some c → has_key sw text key c.value ≡ true → member sw text key n t ≡ some c
    unfolding element member
    only_member i c key d has = let K = members n t q o in first_is sw text key (children_of t) K.0 i (suc n) c K.1 K.2 d has

    -- and two that have it are one
    pub same_member : (i j : ℕ) (c d : Numbered) (key : List ℕ) → element i n t ≡ some c → element j n t ≡ some d → has_key sw text key c.value ≡ true
        → has_key sw text key d.value ≡ true → i ≡ j
    unfolding element
    same_member i j c d key x y p r = let K = members n t q o in same_index sw text key (children_of t) K.0 i j (suc n) c d K.1 K.2 x y p r
