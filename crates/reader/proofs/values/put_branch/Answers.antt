use Rattle.std.specs.Prelude.{Some, None}
use mathlib.Core.Path.{refl, ap, ◌∙◌}
use Prim.Native.Nat.{◌*◌}
use lib.Seq.{sets}
use Rattle.reader.specs.Tree.{node_words}
use Rattle.reader.specs.declared.kinds.NodeKind.{NodeKind}
use Rattle.reader.specs.Kinds.{number_of_kind}
use Rattle.reader.specs.Internal.Values.{row_words, branch_progress, branch_table}
use Rattle.reader.proofs.DuplicateLaws.{first_as}
use Rattle.reader.proofs.values.put_branch.Goals as goal

pub find_duplicate-requires : goal.find_duplicate-requires
find_duplicate-requires c = c.requires.keys

pub put_row-requires : goal.put_row-requires
put_row-requires c = c.requires.row_room

pub returns-in-Some : goal.returns-in-Some
unfolding branch_progress branch_table
returns-in-Some c = record { found = Some _; first_found = first_as c.find_duplicate.ensures c.in-Some.is; answered = refl; wrote = refl }

pub returns-in-None : goal.returns-in-None
unfolding branch_progress branch_table
returns-in-None c =
    record { found = None; first_found = first_as c.find_duplicate.ensures c.in-None.is; answered = refl; wrote = c.put_row.ensures ∙ ap (λ (k : NodeKind). sets c.args.table.now (node_words * c.args.due.spot.node) (row_words (number_of_kind k) c.args.due.spot.parent c.args.due.label c.args.stop c.args.children.next c.args.children.count 0 0)) c.from.ensures }
