-- What is so of every value of a text that was taken, as crates above this one may ask it of a tree. Nothing here has to be believed.
-- Assumes nothing.
use Rattle.std.specs.Prelude.{◌≡◌, ℕ, false, List, [], ◌∷◌}
use Rattle.std.proofs.Math.Option.{none, some}
use Rattle.text.specs.declared.switches.Switches.{Switches}
use Rattle.reader.specs.declared.tree.Kind.{Kind}
use Rattle.reader.specs.declared.tree.Kind.TheVariants.{Object, Array, Tuple}
use Rattle.reader.specs.Tree as T
use Rattle.reader.specs.Tree.{Scalar, Tree, leaf, branch, Forest, nil, cons, head_of}
use Rattle.reader.specs.Syntax.{holds}
use Rattle.reader.specs.Content.{span_content}
use Rattle.nodes.specs.Nodes.{content_of_key}

module _ (P : Scalar → Type 0) where
  unfoldable mutual
    -- P of every value in a tree that holds no others
    pub AllScalars : Tree → Type 0
    AllScalars (leaf h s) = P s
    AllScalars (branch h k f) = AllScalarsIn f

    pub AllScalarsIn : Forest → Type 0
    AllScalarsIn nil = Unit {0}
    AllScalarsIn (cons t f) = AllScalars t × AllScalarsIn f

-- ---- strings and keys

module _ (sw : Switches) (text : List ℕ) where
  -- a string's content is that of its token's span in the text
  unfoldable pub StringIs : Scalar → Type 0
  StringIs (T.text token content) = span_content sw token.start token.stop text ≡ some content
  StringIs (T.bytes token content) = span_content sw token.start token.stop text ≡ some content
  StringIs (T.integer z) = Unit {0}
  StringIs (T.decimal minus m p) = Unit {0}
  StringIs T.false_value = Unit {0}
  StringIs T.true_value = Unit {0}
  StringIs T.null_value = Unit {0}

  -- values side by side have keys with these contents, in order
  unfoldable pub KeysAre : Forest → List (List ℕ) → Type 0
  KeysAre nil [] = Unit {0}
  KeysAre nil (k ∷ ks) = ⊥
  KeysAre (cons t f) [] = ⊥
  KeysAre (cons t f) (k ∷ ks) = (content_of_key sw text (head_of t).key ≡ some k) × KeysAre f ks

-- no two are "equal bytes"
unfoldable pub Different : List (List ℕ) → Type 0
Different [] = Unit {0}
Different (k ∷ ks) = (holds ks k ≡ false) × Different ks

-- values side by side that have no keys
unfoldable pub NoKeys : Forest → Type 0
NoKeys nil = Unit {0}
NoKeys (cons t f) = ((head_of t).key ≡ none) × NoKeys f

module _ (sw : Switches) (text : List ℕ) where
  -- "Objects: `key : value`", no two keys of an object equal; "Arrays and tuples: the same without keys"
  unfoldable pub ChildKeys : Kind → Forest → Type 0
  ChildKeys Object f = (ks : List (List ℕ)) × KeysAre sw text f ks × Different ks
  ChildKeys Array f = NoKeys f
  ChildKeys Tuple f = NoKeys f

  unfoldable mutual
    -- this of every container in a tree
    pub AllKeyed : Tree → Type 0
    AllKeyed (leaf h s) = Unit {0}
    AllKeyed (branch h k f) = ChildKeys k f × AllKeyedIn f

    pub AllKeyedIn : Forest → Type 0
    AllKeyedIn nil = Unit {0}
    AllKeyedIn (cons t f) = AllKeyed t × AllKeyedIn f
