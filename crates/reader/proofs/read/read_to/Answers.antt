use Rattle.text.specs.Refusal.{told}
use mathlib.Core.Path.{◌≡◌, ap, ◌∙◌}
use Prim.Native.Nat.{ℕ}
use lib.ListN.{length}
use Rattle.reader.specs.declared.tree.Limits.{Limits}
use Rattle.reader.specs.Reading.{limits_to, node_limit}
use Rattle.reader.proofs.ReadRun.{tree_is, tree_not, limit_fits, read_taken, read_refused}
use Rattle.reader.proofs.read.read_to.Goals as goal

at_words : (depth words long nodes : ℕ) → nodes ≡ node_limit long → long ≡ words → ◌≡◌ {A = Limits} (record { depth = depth; nodes = nodes }) (limits_to depth words)
at_words depth words long nodes e l = ap (λ (n : ℕ). record { depth = depth; nodes = n }) (e ∙ ap node_limit l)

pub judge-requires : goal.judge-requires
judge-requires c = limit_fits _ _ _ c.node_limit.ensures

pub shape_of-table-in-Ok : goal.shape_of-table-in-Ok
shape_of-table-in-Ok c = c.judge.auto.table ∙ c.clear.auto.table

pub returns-in-Ok : goal.returns-in-Ok
returns-in-Ok c =
    read_taken c.args.sw c.args.text.now c.args.depth (length c.args.table.now) _ (at_words _ _ _ _ c.node_limit.ensures c.clear.auto.table) _ c.clear.ensures _ _ _ _ (tree_is (ap told c.in-Ok.is) c.judge.ensures)

pub shape_of-table-in-Err : goal.shape_of-table-in-Err
shape_of-table-in-Err c = c.clear-in-Err.auto.table ∙ c.judge.auto.table ∙ c.clear.auto.table

pub returns-in-Err : goal.returns-in-Err
returns-in-Err c =
    read_refused c.args.sw c.args.text.now c.args.depth (length c.args.table.now) _ (at_words _ _ _ _ c.node_limit.ensures c.clear.auto.table) _ c.clear.ensures c.judge.new.table _ _ c.judge.auto.table c.clear-in-Err.ensures (tree_not (ap told c.in-Err.is) c.judge.ensures)
