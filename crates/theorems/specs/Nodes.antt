-- The nodes of a text that was taken: every value has a number, the table's words say of each what the tree says, children follow one another
-- by word 8, and no two keys of an object have the same content. Requests that ask for a value by where it stands among the others rest on this.
-- By its contract `read_edition` (reader/src/read.rt) leaves the table that is spoken of here.
-- Assumes nothing.
use Rattle.std.specs.Prelude.{◌≡◌, ℕ, ◌+◌, ◌≤◌, ◌<◌, true, List, get_or}
use Rattle.std.proofs.Math.Option.{none, some}
use Rattle.text.specs.declared.switches.Switches.{Switches}
use Rattle.reader.specs.Tree as T
use Rattle.reader.specs.Tree.{Span, Head, Scalar, Tree, leaf, rows, node_words, no_parent}
use Rattle.reader.specs.Reading.{reading, node_count, table_of, word_of}
use Rattle.reader.specs.Content.{span_content}
use Rattle.nodes.specs.Nodes.{node_of, kind_of, Numbered, numbered, has_key, member, element}
use Rattle.nodes.specs.Range.{InRange}

module _ (sw : Switches) (words : ℕ) (text : List ℕ) where
  -- the value t has the number n in the reading of the text with a table of so many words
  abbrev pub IsNode : (n : ℕ) → Tree → Type 0
  IsNode n t = node_of (reading sw words text) n ≡ some t

  -- word w of node n in the table that the reading leaves
  abbrev pub word : (n w : ℕ) → ℕ
  word n w = word_of (table_of words (reading sw words text)) n w

  -- ---- numbers

  -- the numbers of nodes are those below the node count
  pub record NodeNumbers : Type 0 where
    pub each : (n : ℕ) → n < node_count (reading sw words text) → (t : Tree) × IsNode n t
    pub no_other : (n : ℕ) (t : Tree) → IsNode n t → n < node_count (reading sw words text)

  -- ---- words

  -- word w of node n is word w of its value's row; the parent's number, which is word 1, is in `Children`
  pub record Row (n : ℕ) (t : Tree) : Type 0 where
    pub parent : ℕ
    pub words_are : (w : ℕ) → w < node_words → word n w ≡ get_or (rows parent n t) w 0

  -- ---- children

  pub record Children (n : ℕ) (t : Tree) : Type 0 where
    -- a child is a node, and its word 1 is the "parent's number"
    pub child_node : (i : ℕ) (c : Numbered) → element i n t ≡ some c → IsNode c.number c.value
    pub child_parent : (i : ℕ) (c : Numbered) → element i n t ≡ some c → word c.number 1 ≡ n
    -- the first is the node after its parent; the next is word 8 of the one before it, the "number of the first node after this one's
    -- descendants"
    pub first : (c : Numbered) → element 0 n t ≡ some c → c.number ≡ n + 1
    pub next : (i : ℕ) (c d : Numbered) → element i n t ≡ some c → element (i + 1) n t ≡ some d → d.number ≡ word c.number 8
    -- word 8 of the last is its parent's word 8, which is the next number where there is no child
    pub last : (i : ℕ) (c : Numbered) → element i n t ≡ some c → element (i + 1) n t ≡ none → word c.number 8 ≡ word n 8
    pub no_child : element 0 n t ≡ none → word n 8 ≡ n + 1
    -- of a container word 9 is how many there are: "1-3: children"
    pub counted : kind_of t ≤ 3 → (i : ℕ) → i < word n 9 → (c : Numbered) × (element i n t ≡ some c)
    pub no_more : kind_of t ≤ 3 → (i : ℕ) → word n 9 ≤ i → element i n t ≡ none

  -- the root, which has no parent, is node 0; every other node is a child
  pub record Parents : Type 0 where
    pub root : (t : Tree) → IsNode 0 t → word 0 1 ≡ no_parent
    pub other : (n : ℕ) (t : Tree) → IsNode n t → 0 < n
        → (parent : ℕ) × (value : Tree) × (i : ℕ) × IsNode parent value × (element i parent value ≡ some (numbered n t))

  -- ---- contents

  -- words 9, 10 of a string: "span of the string token", whose content is the string's
  pub record Strings : Type 0 where
    pub text_content : (n : ℕ) (h : Head) (token : Span) (content : List ℕ) → IsNode n (leaf h (T.text token content))
        → span_content sw (word n 9) (word n 10) text ≡ some content
    pub bytes_content : (n : ℕ) (h : Head) (token : Span) (content : List ℕ) → IsNode n (leaf h (T.bytes token content))
        → span_content sw (word n 9) (word n 10) text ≡ some content

  pub record Keys (n : ℕ) (t : Tree) : Type 0 where
    -- words 4, 5 of a child: "span of the key token", which has a content
    pub content : (i : ℕ) (c : Numbered) → element i n t ≡ some c
        → (key : List ℕ) × (span_content sw (word c.number 4) (word c.number 5) text ≡ some key) × (has_key sw text key c.value ≡ true)
    -- two children that have the same key are one
    pub differ : (i j : ℕ) (c d : Numbered) (key : List ℕ) → element i n t ≡ some c → element j n t ≡ some d
        → has_key sw text key c.value ≡ true → has_key sw text key d.value ≡ true → i ≡ j
    -- so the child that has a key is the member with this key
    pub only : (i : ℕ) (c : Numbered) (key : List ℕ) → element i n t ≡ some c → has_key sw text key c.value ≡ true
        → member sw text key n t ≡ some c

-- ---- what is claimed, in every edition, of every text and every table; a text that is refused has no nodes

unfoldable pub NodesNumbered : Type 0
NodesNumbered = (sw : Switches) (words : ℕ) (text : List ℕ) → NodeNumbers sw words text

unfoldable pub WordsStand : Type 0
WordsStand = (sw : Switches) (words : ℕ) (text : List ℕ) (n : ℕ) (t : Tree) → IsNode sw words text n t → Row sw words text n t

unfoldable pub ChildrenFollow : Type 0
ChildrenFollow = (sw : Switches) (words : ℕ) (text : List ℕ) (n : ℕ) (t : Tree) → IsNode sw words text n t → Children sw words text n t

unfoldable pub ParentsNamed : Type 0
ParentsNamed = (sw : Switches) (words : ℕ) (text : List ℕ) → Parents sw words text

unfoldable pub StringsByWords : Type 0
StringsByWords = (sw : Switches) (words : ℕ) (text : List ℕ) → Strings sw words text

-- 8 "key already in this object": of an object, kind 1, that was taken, no two keys have the same content
unfoldable pub KeysDiffer : Type 0
KeysDiffer =
    (sw : Switches) (words : ℕ) (text : List ℕ) (n : ℕ) (t : Tree) → IsNode sw words text n t → kind_of t ≡ 1 → Keys sw words text n t

-- every number is in its range
unfoldable pub NumbersInRange : Type 0
NumbersInRange = (sw : Switches) (words : ℕ) (text : List ℕ) (n : ℕ) (h : Head) (s : Scalar) → IsNode sw words text n (leaf h s) → InRange s
