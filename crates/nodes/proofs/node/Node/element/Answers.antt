use Rattle.nodes.proofs.ChildLaws.{element_nth}
use Rattle.nodes.proofs.node.Node.element.Goals as goal

pub returns : goal.returns
returns c =
    let e = c.children.ensures in
    let w = element_nth _ _ _ _ _ c.nth.new.self c.nth.ensures.ran (record { table_is = e.table_is; end_is = e.end_is }) e.next_is in
    record { child = w.0; in_table = w.1 }
