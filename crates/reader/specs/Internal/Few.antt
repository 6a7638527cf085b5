-- Few keys of an object: their contents, side by side in an array, and the walk that keeps them there.
-- Nothing here has to be believed: it serves the search for duplicate keys alone.
-- Assumes nothing.
use Rattle.std.specs.Prelude.{ℕ, ◌+◌, ◌<◌, ◌≤◌, ◌≡◌, Bool, true, false, List, [], ◌∷◌, ◌++◌, Some, None, length, get_or, take, drop}
use Rattle.std.specs.declared.option.Option as Rust
use Rattle.text.specs.declared.switches.Switches.{Switches}
use Rattle.reader.specs.declared.duplicates.KeptKeys.{KeptKeys}
use Rattle.reader.specs.Syntax.{holds}
use Rattle.reader.specs.Internal.Values.{bytes_at, KeyAt, SiblingKeys, duplicate}

-- the walk over the nodes from `first` to m has come to x, and no key so far is a duplicate
pub record Walked (sw : Switches) (s tab : List ℕ) (first x m : ℕ) : Type 0 where
  pub seen : List (List ℕ)
  pub rest : List (List ℕ)
  pub past : SiblingKeys sw s tab first x seen
  pub siblings : SiblingKeys sw s tab x m rest
  pub same_as : (ks : List (List ℕ)) → SiblingKeys sw s tab first m ks → duplicate tab first [] ks ≡ duplicate tab x seen rest

-- content i of n, which begins where the one before it ends
pub record KeptAt (bytes ends : List ℕ) (from i n to : ℕ) (w : List ℕ) : Type 0 where
  pub before : i < n
  pub forward : from ≤ get_or ends i 0
  pub inside : get_or ends i 0 ≤ to
  pub is : drop from (take (get_or ends i 0) bytes) ≡ w

-- the contents from i to n, side by side from `from` to `to`
abbrev pub KeptFrom : (bytes ends : List ℕ) (from i n to : ℕ) → List (List ℕ) → Type 0
KeptFrom bytes ends from i n to [] = (i ≡ n) × (from ≡ to)
KeptFrom bytes ends from i n to (w ∷ ks) = KeptAt bytes ends from i n to w × KeptFrom bytes ends (get_or ends i 0) (i + 1) n to ks

-- all n of them
pub record Kept (bytes ends : List ℕ) (n to : ℕ) (ks : List (List ℕ)) : Type 0 where
  pub all : KeptFrom bytes ends 0 0 n to ks
  pub room : n ≤ length ends
  pub inside : to ≤ length bytes

pub record HaveKept (bytes ends : List ℕ) (n to : ℕ) : Type 0 where
  pub contents : List (List ℕ)
  pub kept : Kept bytes ends n to contents

-- whether the content from `at` to `end` is among them
pub record IsKept (bytes ends : List ℕ) (n at end : ℕ) (r : Bool) : Type 0 where
  pub is : (ks : List (List ℕ)) → Kept bytes ends n at ks → r ≡ holds ks (bytes_at bytes at end)

-- the same of what the code keeps
abbrev pub KeptIn : KeptKeys → List (List ℕ) → Type 0
KeptIn k ks = Kept k.bytes k.ends k.count k.at ks

-- whether the content of the key from a to e is another than those that were kept, which it then follows; nothing if it has no room
abbrev pub KeepIs : Switches → (s : List ℕ) (a e : ℕ) (k next : KeptKeys) → Rust.Option Bool → Type 0
KeepIs sw s a e k next (Some true) = (ks : List (List ℕ)) → KeptIn k ks → (w : List ℕ) → KeyAt sw s a e w → (holds ks w ≡ false) × KeptIn next (ks ++ (w ∷ []))
KeepIs sw s a e k next (Some false) = (ks : List (List ℕ)) → KeptIn k ks → (w : List ℕ) → KeyAt sw s a e w → holds ks w ≡ true
KeepIs sw s a e k next None = Unit {0}

-- the same as a record
pub record Keeps (sw : Switches) (s : List ℕ) (a e : ℕ) (k next : KeptKeys) (r : Rust.Option Bool) : Type 0 where
  pub is : KeepIs sw s a e k next r
