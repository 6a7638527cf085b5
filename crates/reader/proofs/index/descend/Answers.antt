use native.Mathlib.Omega.{arith}
use Rattle.reader.proofs.RouteLaws.{led_start, led_stop, led_passed, led_failed, miss_low}
use Rattle.reader.proofs.index.descend.Goals as goal
use Rattle.reader.proofs.index.descend.Goals.{then-miss-eq0, else-miss-eq0}

pub loop-node-init : goal.loop-node-init
loop-node-init c = (omega arith, led_start)

pub bounds-links-cell : goal.bounds-links-cell
bounds-links-cell c = let l = c.requires.all_cells in omega arith

pub returns-then-next-eq0 : goal.returns-then-next-eq0
returns-then-next-eq0 c = led_stop c.loop-node.invariant.1 c.from-next.ensures c.if-next-eq0.true

pub offset_bounds-tests-next : goal.offset_bounds-tests-next
offset_bounds-tests-next c = let e = c.from-next.ensures in let b = c.requires.below c.loop-node.cell in omega (arith, e, b)

pub bounds-tests-next : goal.bounds-tests-next
bounds-tests-next c =
    let e = c.from-next.ensures in let b = c.requires.below c.loop-node.cell in let l = c.requires.all_tests in omega (arith, e, b, l)

pub overflow_mul-cell : goal.overflow_mul-cell
overflow_mul-cell c = let e = c.from-next.ensures in let b = c.requires.below c.loop-node.cell in omega (arith, e, b)

pub overflow_add-cell : goal.overflow_add-cell
overflow_add-cell c = let e = c.from-next.ensures in let b = c.requires.below c.loop-node.cell in let m = miss_low c.from.result c.args.key.now in omega (arith, e, b, m, c.miss_of-miss.ensures)

pub loop-node-smaller : goal.loop-node-smaller
loop-node-smaller c =
    let e = c.from-next.ensures in let b = c.requires.below c.loop-node.cell in let r = c.requires.rises c.loop-node.cell (omega (arith, e, c.if-next-eq0.false)) in let m = miss_low c.from.result c.args.key.now in omega (arith, e, b, r, m, c.miss_of-miss.ensures)

pub loop-node-preserved : goal.loop-node-preserved
loop-node-preserved c =
    let e = c.from-next.ensures in let b = c.requires.below c.loop-node.cell in let m = miss_low c.from.result c.args.key.now in
    elim c.if-miss-eq0.branch [
      | then-miss-eq0 w ↦ rw w.node-is (omega (arith, e, b, m, c.miss_of-miss.ensures), led_passed c.loop-node.invariant.1 c.from-next.ensures c.if-next-eq0.false c.from.ensures c.miss_of-miss.ensures w.if-miss-eq0.true)
      | else-miss-eq0 w ↦ rw w.node-is (omega (arith, e, b, m, c.miss_of-miss.ensures), led_failed c.loop-node.invariant.1 c.from-next.ensures c.if-next-eq0.false c.from.ensures c.miss_of-miss.ensures w.if-miss-eq0.false)
    ]
