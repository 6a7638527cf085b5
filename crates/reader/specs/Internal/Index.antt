-- The index of an object's keys: a tree of tests on their contents, which leads a content to the only key so far that may have it.
-- Nothing here has to be believed: it serves the search for duplicate keys alone.
-- Assumes nothing.
use Rattle.std.specs.Prelude.{ℕ, suc, ◌+◌, ◌*◌, ◌/◌, ◌%◌, ◌^◌, ◌<◌, ◌≤◌, ◌≡◌, Bool, true, false, cond, List, [], ◌∷◌, eqb, leb, length, get_or, take, drop, Some, None}
use Rattle.std.specs.declared.option.Option as Rust
use Rattle.text.specs.declared.switches.Switches.{Switches}
use Rattle.reader.specs.declared.index.Place.{Place}
use Rattle.reader.specs.Reading.{max_nodes, word_of}
use Rattle.reader.specs.Syntax.{holds}
use Rattle.reader.specs.Internal.Values.{KeyAt}

-- ---- contents behind their lengths, which are what is tested

-- the room for such a content
abbrev pub key_bytes : ℕ
key_bytes = 2048

-- whether it suffices
abbrev pub is_short : List ℕ → Bool
is_short w = leb (length w + 2) key_bytes

-- A content behind its length: so two that differ do so in a byte that both have. None begins with 0.
unfoldable pub prefixed : List ℕ → List ℕ
prefixed w = (length w / 256 + 1) ∷ length w % 256 ∷ w

-- these bytes are a short content behind its length
pub record IsPrefixed (bytes : List ℕ) : Type 0 where
  pub content : List ℕ
  pub short : is_short content ≡ true
  pub is : bytes ≡ prefixed content

-- how many bytes at the front of `out` are a content behind its length; nothing if it is not short
abbrev pub ContentIs : (w out : List ℕ) → Rust.Option ℕ → Type 0
ContentIs w out (Some r) = (is_short w ≡ true) × (r ≤ key_bytes) × (take r out ≡ prefixed w)
ContentIs w out None = is_short w ≡ false

-- the same as a record
pub record ContentIn (w out : List ℕ) (r : Rust.Option ℕ) : Type 0 where
  pub is : ContentIs w out r

-- the content of the key from a to e
pub record KeyWritten (sw : Switches) (s : List ℕ) (a e : ℕ) (out : List ℕ) (r : Rust.Option ℕ) : Type 0 where
  pub is : (w : List ℕ) → KeyAt sw s a e w → ContentIn w out r

-- how many bytes at the front of the first agree with those of the second, which is 0 behind its end
unfoldable pub agreed : List ℕ → List ℕ → ℕ
agreed [] b = 0
agreed (x ∷ a) b = cond (eqb x (get_or b 0 0)) (suc (agreed a (drop 1 b))) 0

-- ---- tests

-- a bit of some bytes, those of each byte from the lowest on; 0 behind the end
unfoldable pub bit_at : List ℕ → ℕ → ℕ
bit_at s p = get_or s (p / 8) 0 / 2 ^ (p % 8) % 2

-- A test is the place of a bit, and its value. This is 0 if some bytes pass it, or else 1.
unfoldable pub miss_of : (test : ℕ) → List ℕ → ℕ
miss_of test s = (bit_at s (test / 2) + test % 2) % 2

abbrev pub passes : (test : ℕ) → List ℕ → Bool
passes test s = eqb (miss_of test s) 0

-- a test of byte i, which these bytes pass and those do not
pub record Tells (test : ℕ) (s other : List ℕ) : Type 0 where
  pub own : passes test s ≡ true
  pub apart : passes test other ≡ false

-- by one byte in which they differ
pub record TellsBy (i own other test : ℕ) : Type 0 where
  pub is : (s t : List ℕ) → get_or s i 0 ≡ own → get_or t i 0 ≡ other → Tells test s t

-- ---- the tree

-- Node v has a test, and two cells: cell 2v leads on from those that pass it, cell 2v + 1 from the others. A cell holds a node, or 0 if
-- it is empty. From cell c, with m the last node whose test was passed, these bytes come to r as the last such node, and to the empty cell e.
pub data Route (links tests s : List ℕ) : (m c r e : ℕ) → Type 0 where
  stops : (m c r e : ℕ) → get_or links c 0 ≡ 0 → r ≡ m → e ≡ c → Route links tests s m c r e
  passed : (m c r e : ℕ) → 0 < get_or links c 0 → passes (get_or tests (get_or links c 0) 0) s ≡ true → Route links tests s (get_or links c 0) (2 * get_or links c 0) r e
      → Route links tests s m c r e
  failed : (m c r e : ℕ) → 0 < get_or links c 0 → passes (get_or tests (get_or links c 0) 0) s ≡ false → Route links tests s m (2 * get_or links c 0 + 1) r e
      → Route links tests s m c r e

-- how large the tree is
abbrev pub cells : ℕ
cells = 8192

-- the tree has room for every node, and leads to ever higher ones
pub record Rising (links tests : List ℕ) : Type 0 where
  pub all_cells : length links ≡ cells
  pub all_tests : length tests ≡ max_nodes
  pub rises : (c : ℕ) → 0 < get_or links c 0 → c < 2 * get_or links c 0
  pub below : (c : ℕ) → get_or links c 0 < max_nodes

-- a tree of no nodes
pub record Vacant (links tests : List ℕ) : Type 0 where
  pub all_cells : length links ≡ cells
  pub all_tests : length tests ≡ max_nodes
  pub empty : (c : ℕ) → get_or links c 0 ≡ 0

-- node y has a key with the content w
pub record KeyNode (sw : Switches) (s tab : List ℕ) (y : ℕ) (w : List ℕ) : Type 0 where
  pub some : 0 < y
  pub key : KeyAt sw s (word_of tab y 4) (word_of tab y 5) w

-- a node of the tree: one before x, and its content is a short one of ks
pub record Entry (sw : Switches) (s tab : List ℕ) (x : ℕ) (ks : List (List ℕ)) (y : ℕ) : Type 0 where
  pub before : y < x
  pub content : List ℕ
  pub node : KeyNode sw s tab y content
  pub held : holds ks content ≡ true
  pub short : is_short content ≡ true

-- a content leads to the node that has it
pub record Reached (sw : Switches) (s tab links tests : List ℕ) (w : List ℕ) : Type 0 where
  pub at : ℕ
  pub cell : ℕ
  pub route : Route links tests (prefixed w) 0 0 at cell
  pub node : KeyNode sw s tab at w

-- The tree has the nodes before x whose keys have the contents ks, but for those that are too long. `owner` says of each cell which node
-- is the last that was passed on the way to it.
pub record Indexed (sw : Switches) (s tab links tests : List ℕ) (x : ℕ) (ks : List (List ℕ)) : Type 0 where
  pub rising : Rising links tests
  pub some : 0 < x
  pub few : x ≤ max_nodes
  pub vacant : (c : ℕ) → 2 * x ≤ c → get_or links c 0 ≡ 0
  pub owner : ℕ → ℕ
  pub root : owner 0 ≡ 0
  pub on_passed : (c : ℕ) → 0 < get_or links c 0 → owner (2 * get_or links c 0) ≡ get_or links c 0
  pub on_failed : (c : ℕ) → 0 < get_or links c 0 → owner (2 * get_or links c 0 + 1) ≡ owner c
  pub entry : (c : ℕ) → 0 < get_or links c 0 → Entry sw s tab x ks (get_or links c 0)
  pub reached : (w : List ℕ) → holds ks w ≡ true → is_short w ≡ true → Reached sw s tab links tests w

-- the tree has some keys
pub record HasIndex (sw : Switches) (s tab links tests : List ℕ) : Type 0 where
  pub before : ℕ
  pub keys : List (List ℕ)
  pub index : Indexed sw s tab links tests before keys

-- ---- what is asked of the tree

-- node y has a key with a short content
pub record HasKey (sw : Switches) (s tab : List ℕ) (y : ℕ) : Type 0 where
  pub content : List ℕ
  pub node : KeyNode sw s tab y content
  pub short : is_short content ≡ true

-- the content of node y's key, which is short
pub record NodeWritten (sw : Switches) (s tab : List ℕ) (y : ℕ) (out : List ℕ) (r : ℕ) : Type 0 where
  pub is : (w : List ℕ) → KeyNode sw s tab y w → ContentIn w out (Some r)

-- a short content that is new: where it belongs in the tree, and a test that it passes and the only key that it could be confused with does not
pub record NewAt (sw : Switches) (s tab links tests : List ℕ) (w : List ℕ) (cell test : ℕ) : Type 0 where
  pub at : ℕ
  pub route : Route links tests (prefixed w) 0 0 at cell
  pub own : passes test (prefixed w) ≡ true
  pub apart : (v : List ℕ) → KeyNode sw s tab at v → is_short v ≡ true → passes test (prefixed v) ≡ false

-- where a short content belongs that is not among ks; nothing if it is among them
abbrev pub PlaceIs : Switches → (s tab links tests : List ℕ) (ks : List (List ℕ)) (w : List ℕ) → Rust.Option Place → Type 0
PlaceIs sw s tab links tests ks w None = holds ks w ≡ true
PlaceIs sw s tab links tests ks w (Some p) = (holds ks w ≡ false) × NewAt sw s tab links tests w p.cell p.test

pub record LookedUp (sw : Switches) (s tab links tests : List ℕ) (bytes : List ℕ) (r : Rust.Option Place) : Type 0 where
  pub is : (x : ℕ) (ks : List (List ℕ)) → Indexed sw s tab links tests x ks → (w : List ℕ) → is_short w ≡ true → bytes ≡ prefixed w → PlaceIs sw s tab links tests ks w r
