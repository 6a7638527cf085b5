use native.Mathlib.Omega.{arith}
use mathlib.Core.Path.{sym}
use lib.ListN.{take}
use lib.Seq.{length-take-le}
use Rattle.reader.proofs.LookupLaws.{look_place, look_first, look_differ, look_none, look_key, look_short, look_known, look_fresh}
use Rattle.reader.proofs.keys.ObjectKeys.look_up.Goals as goal

pub descend-node-requires : goal.descend-node-requires
descend-node-requires c = c.requires.has_index.index.rising

pub test_of-test-requires : goal.test_of-test-requires
test_of-test-requires c = record { in_key = omega arith; another = look_first c.requires.prefixed c.byte_at.ensures }

pub returns-then-node-eq0 : goal.returns-then-node-eq0
returns-then-node-eq0 c = look_none c.descend-node.ensures c.if-node-eq0.true c.byte_at.ensures c.test_of-test.ensures

pub write_of-n-requires : goal.write_of-n-requires
write_of-n-requires c = record { has_key = look_key c.descend-node.ensures c.requires.has_index c.if-node-eq0.false; out_len = c.requires.other_len }

pub slice_bounds-other-end : goal.slice_bounds-other-end
slice_bounds-other-end c =
    let k = look_short c.descend-node.ensures c.write_of-n.ensures c.if-node-eq0.false c.requires.has_index c.requires.prefixed in omega (arith, k, c.write_of-n.auto.out, c.requires.other_len)

pub slice_bounds-other-end-2 : goal.slice_bounds-other-end-2
slice_bounds-other-end-2 c =
    let k = look_short c.descend-node.ensures c.write_of-n.ensures c.if-node-eq0.false c.requires.has_index c.requires.prefixed in sym (length-take-le _ _ (omega (arith, k, c.write_of-n.auto.out, c.requires.other_len)))

pub returns-in_err-i : goal.returns-in_err-i
returns-in_err-i c = rw c.from_residual.ensures (look_known c.descend-node.ensures c.write_of-n.ensures c.if-node-eq0.false c.in_err-i.ensures)

pub test_of-test-requires-2 : goal.test_of-test-requires-2
test_of-test-requires-2 c =
    record { in_key = look_place c.requires.prefixed c.in_ok-i.ensures.1; another = look_differ c.args.key.now (take c.write_of-n.result c.write_of-n.new.out) c.in_ok-i.ensures.0 c.in_ok-i.ensures.1 c.byte_at-2.ensures c.byte_at-3.ensures }

pub returns : goal.returns
returns c = look_fresh c.descend-node.ensures c.write_of-n.ensures c.if-node-eq0.false c.byte_at-2.ensures c.byte_at-3.ensures c.test_of-test-2.ensures
