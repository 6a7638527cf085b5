use mathlib.Core.Path.{sym}
use Prim.Native.Nat.{ℕ}
use lib.ListN.{length-replicate}
use Rattle.reader.proofs.IndexRun.{vacant}
use Rattle.reader.proofs.keys.ObjectKeys.duplicate_by_index.Goals as goal

pub slice_bounds-duplicate_in-end : goal.slice_bounds-duplicate_in-end
slice_bounds-duplicate_in-end c = sym (length-replicate {A = ℕ} 8192 0)

pub slice_bounds-duplicate_in-end-2 : goal.slice_bounds-duplicate_in-end-2
slice_bounds-duplicate_in-end-2 c = sym (length-replicate {A = ℕ} 4096 0)

pub duplicate_in-requires : goal.duplicate_in-requires
duplicate_in-requires c = record { first_nonzero = c.requires; vacant = vacant }
