-- A tree with another end, the bracket of its identifier: its size, its key and its start are the same.
-- Assumes nothing.
use mathlib.Core.Path.{◌≡◌, refl}
use Prim.Native.Nat.{ℕ}
use Rattle.reader.specs.Tree.{Tree, leaf, branch, size, head_of}
use Rattle.reader.specs.Syntax.{stop_at, with_stop}

pub stops_size : (x : ℕ) (t : Tree) → size (with_stop x t) ≡ size t
unfolding size with_stop
stops_size x (leaf h v) = refl
stops_size x (branch h k f) = refl

pub stops_key : (x : ℕ) (t : Tree) → (head_of (with_stop x t)).key ≡ (head_of t).key
unfolding head_of with_stop stop_at
stops_key x (leaf h v) = refl
stops_key x (branch h k f) = refl

pub stops_start : (x : ℕ) (t : Tree) → (head_of (with_stop x t)).value.start ≡ (head_of t).value.start
unfolding head_of with_stop stop_at
stops_start x (leaf h v) = refl
stops_start x (branch h k f) = refl

pub stops_stop : (x : ℕ) (t : Tree) → (head_of (with_stop x t)).value.stop ≡ x
unfolding head_of with_stop stop_at
stops_stop x (leaf h v) = refl
stops_stop x (branch h k f) = refl
