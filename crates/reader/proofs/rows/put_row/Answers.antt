use native.Mathlib.Omega.{arith}
use mathlib.Core.Path.{◌≡◌}
use Prim.Native.Nat.{ℕ, suc, ◌+◌}
use native.Mathlib.Numerals.{towards_suc}
use lib.ListN.{length-set}
use Rattle.reader.proofs.rows.put_row.Goals as goal

nine : (n : ℕ) → n + 9 ≡ suc (n + 8)
nine n = omega arith

ten : (n : ℕ) → n + 10 ≡ suc (suc (n + 8))
ten n = omega arith

eleven : (n : ℕ) → n + 11 ≡ suc (suc (suc (n + 8)))
eleven n = omega arith

pub bounds-table-row-2 : goal.bounds-table-row-2
bounds-table-row-2 c = simp length-set (omega arith)

pub bounds-table-row-3 : goal.bounds-table-row-3
bounds-table-row-3 c = simp length-set (omega arith)

pub bounds-table-row-4 : goal.bounds-table-row-4
bounds-table-row-4 c = simp length-set (omega arith)

pub bounds-table-row-5 : goal.bounds-table-row-5
bounds-table-row-5 c = simp length-set (omega arith)

pub bounds-table-row-6 : goal.bounds-table-row-6
bounds-table-row-6 c = simp length-set (omega arith)

pub bounds-table-row-7 : goal.bounds-table-row-7
bounds-table-row-7 c = simp length-set (omega arith)

pub bounds-table-row-8 : goal.bounds-table-row-8
bounds-table-row-8 c = simp length-set (omega arith)

pub bounds-table-row-9 : goal.bounds-table-row-9
bounds-table-row-9 c = simp length-set (omega arith)

pub bounds-table-row-10 : goal.bounds-table-row-10
bounds-table-row-10 c = simp length-set (omega arith)

pub bounds-table-row-11 : goal.bounds-table-row-11
bounds-table-row-11 c = simp length-set (omega arith)

pub bounds-table-row-12 : goal.bounds-table-row-12
bounds-table-row-12 c = simp length-set (omega arith)

pub shape_of-table : goal.shape_of-table
shape_of-table c = simp length-set

pub returns : goal.returns
returns c = rw c.from.ensures (simp (nine, ten, eleven, towards_suc))
