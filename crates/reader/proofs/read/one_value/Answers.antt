use Rattle.text.specs.Refusal.{told}
use native.Mathlib.Omega.{arith}
use mathlib.Core.Path.{refl, ap}
use Prim.Native.Nat.{ℕ, ◌*◌}
use lib.ListN.{length-replicate}
use borrow.Author.Tests.{eq-eqb, ne_eqb}
use Rattle.reader.specs.Tree.{node_words}
use Rattle.reader.specs.Reading.{limits_alone, max_nodes}
use Rattle.reader.proofs.ReadRun.{tree_is, tree_not, alone_taken, alone_refused}
use Rattle.reader.proofs.read.one_value.Goals as goal

pub judge-requires : goal.judge-requires
judge-requires c = let l = length-replicate {A = ℕ} (node_words * max_nodes) 0 in record { room = omega arith; small = omega arith }

pub returns-then-whole-eq0 : goal.returns-then-whole-eq0
unfolding limits_alone
returns-then-whole-eq0 c =
    alone_taken c.args.sw c.args.any c.args.text.now _ _ _ _ _ _ _ refl (tree_is (ap told c.in-Ok.is) c.judge.ensures) (rw (eq-eqb _ _ c.if-whole-eq0.true))

pub returns-else-whole-eq0 : goal.returns-else-whole-eq0
unfolding limits_alone
returns-else-whole-eq0 c =
    alone_taken c.args.sw c.args.any c.args.text.now _ _ _ _ _ _ _ refl (tree_is (ap told c.in-Ok.is) c.judge.ensures) (rw (ne_eqb _ _ c.if-whole-eq0.false))

pub returns-in-Err : goal.returns-in-Err
unfolding limits_alone
returns-in-Err c =
    alone_refused c.args.sw c.args.any c.args.text.now _ _ _ refl (tree_not (ap told c.in-Err.is) c.judge.ensures)
