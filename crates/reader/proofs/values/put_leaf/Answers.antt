use native.Mathlib.Omega.{arith}
use mathlib.Core.Path.{refl, sym, ◌∙◌}
use Rattle.reader.specs.Internal.Values.{leaf_progress, leaf_table}
use Rattle.reader.proofs.BodyRun.{node_left}
use Rattle.reader.proofs.values.put_leaf.Goals as goal

pub returns-then-is_full : goal.returns-then-is_full
unfolding leaf_progress leaf_table
returns-then-is_full c = rw (c.if-due.true, sym c.is_full.ensures ∙ c.if-is_full.true) (record { value = refl; table_after = refl })

pub overflow_add-next : goal.overflow_add-next
overflow_add-next c =
    let w = node_left _ c.args.due.fresh c.args.due.spot.node (sym c.is_full.ensures ∙ c.if-is_full.false) c.requires.ready.counted in omega (arith, c.requires.ready.table.small)

pub put_row-requires : goal.put_row-requires
put_row-requires c =
    let w = node_left _ c.args.due.fresh c.args.due.spot.node (sym c.is_full.ensures ∙ c.if-is_full.false) c.requires.ready.counted in record { row = omega (arith, c.requires.ready.table.room); stop_low = c.requires.stop_le_max_text; next_low = omega (arith, c.requires.ready.table.small) }

pub returns-then-due : goal.returns-then-due
unfolding leaf_progress leaf_table
returns-then-due c = rw (c.if-due.true, sym c.is_full.ensures ∙ c.if-is_full.false) (record { value = refl; table_after = c.put_row.ensures })

pub returns : goal.returns
unfolding leaf_progress leaf_table
returns c = rw c.if-due.false (record { value = refl; table_after = refl })
