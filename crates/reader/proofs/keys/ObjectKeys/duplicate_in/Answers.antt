use native.Mathlib.Omega.{arith}
use mathlib.Core.Path.{sym, ◌∙◌}
use Prim.Native.Nat.{ℕ}
use lib.ListN.{length-replicate}
use lib.Seq.{length-take-le}
use Rattle.reader.proofs.SiblingLaws.{chained, over_start, gave, gave_none}
use Rattle.reader.proofs.IndexRun.{Grown, grown_start, grown_keys, grown_index, grown_key, grown_end, long_hit, long_on, short_within, short_key, short_hit, short_cell, short_on}
use Rattle.reader.proofs.keys.ObjectKeys.duplicate_in.Goals as goal

pub side_by_side-child-items-requires : goal.side_by_side-child-items-requires
side_by_side-child-items-requires c = chained c.args.self.now.keys

pub loop-child-init : goal.loop-child-init
loop-child-init c =
    let e = c.side_by_side-child-items.ensures in
    let o =
    over_start (λ z. Grown c.args.self.now.sw c.args.self.now.text.now c.args.self.now.table.now c.args.links.now c.args.tests.now c.args.self.now.first z c.args.self.now.next) _ _ _ _ _ c.into_iter-child-iterator.ensures.into_iter_gives e.chained e.table_is e.next_is e.end_is (grown_start c.args.self.now.keys c.requires.first_nonzero.0 c.requires.first_nonzero.1 c.requires.vacant) in
    (o.0, tt, o.2, o.3, length-replicate {A = ℕ} 2048 0, length-replicate {A = ℕ} 2048 0)

pub slice_bounds-write-end : goal.slice_bounds-write-end
slice_bounds-write-end c = sym c.loop-child.invariant.4

pub write-requires : goal.write-requires
write-requires c =
    let g = gave _ _ _ _ c.next.new.self c.loop-child.invariant.2 c.in-Some.ensures.steps in
    record { key_here = grown_key c.loop-child.invariant.3 g.at g.before c.span-key.ensures.start c.span-key.ensures.stop; out_len = c.loop-child.invariant.4 }

pub has_before-requires : goal.has_before-requires
has_before-requires c =
    let g = gave _ _ _ _ c.next.new.self c.loop-child.invariant.2 c.in-Some.ensures.steps in
    record { have_keys = grown_keys c.loop-child.invariant.3 g.at g.before; key_here = grown_key c.loop-child.invariant.3 g.at g.before c.span-key.ensures.start c.span-key.ensures.stop }

pub shape_of-links-then-has_before : goal.shape_of-links-then-has_before
shape_of-links-then-has_before c = c.loop-child.invariant.3.index.rising.all_cells ∙ sym c.requires.vacant.all_cells

pub shape_of-tests-then-has_before : goal.shape_of-tests-then-has_before
shape_of-tests-then-has_before c = c.loop-child.invariant.3.index.rising.all_tests ∙ sym c.requires.vacant.all_tests

pub returns-then-has_before : goal.returns-then-has_before
returns-then-has_before c =
    let g = gave _ _ _ _ c.next.new.self c.loop-child.invariant.2 c.in-Some.ensures.steps in
    long_hit c.loop-child.invariant.3 g.at g.before c.span-key.ensures.start c.span-key.ensures.stop c.has_before.ensures c.if-has_before.true

pub loop-child-preserved-in-Some-look_up : goal.loop-child-preserved-in-Some-look_up
loop-child-preserved-in-Some-look_up c =
    let g = gave _ _ _ _ c.next.new.self c.loop-child.invariant.2 c.in-Some.ensures.steps in
    (c.in-Some.ensures.goes.keeps, tt, g.over, short_on c.loop-child.invariant.3 g.at g.before c.span-key.ensures.start c.span-key.ensures.stop c.in-Some-write.ensures c.requires.first_nonzero.1 g.on c.in-Some-look_up.ensures, c.write.auto.out ∙ c.loop-child.invariant.4, c.look_up.auto.other ∙ c.loop-child.invariant.5)

pub loop-child-preserved : goal.loop-child-preserved
loop-child-preserved c =
    let g = gave _ _ _ _ c.next.new.self c.loop-child.invariant.2 c.in-Some.ensures.steps in
    (c.in-Some.ensures.goes.keeps, tt, g.over, long_on c.loop-child.invariant.3 g.at g.before c.span-key.ensures.start c.span-key.ensures.stop c.in-None-write.ensures c.requires.first_nonzero.1 g.on c.has_before.ensures c.if-has_before.false, c.write.auto.out ∙ c.loop-child.invariant.4, c.loop-child.invariant.5)

pub slice_bounds-own-end : goal.slice_bounds-own-end
slice_bounds-own-end c =
    let g = gave _ _ _ _ c.next.new.self c.loop-child.invariant.2 c.in-Some.ensures.steps in
    let k = short_within c.loop-child.invariant.3 g.at g.before c.span-key.ensures.start c.span-key.ensures.stop c.in-Some-write.ensures in omega (arith, k, c.write.auto.out, c.loop-child.invariant.4)

pub slice_bounds-look_up-end : goal.slice_bounds-look_up-end
slice_bounds-look_up-end c =
    let g = gave _ _ _ _ c.next.new.self c.loop-child.invariant.2 c.in-Some.ensures.steps in
    let k = short_within c.loop-child.invariant.3 g.at g.before c.span-key.ensures.start c.span-key.ensures.stop c.in-Some-write.ensures in sym (length-take-le _ _ (omega (arith, k, c.write.auto.out, c.loop-child.invariant.4)))

pub slice_bounds-look_up-end-in-Some-write : goal.slice_bounds-look_up-end-in-Some-write
slice_bounds-look_up-end-in-Some-write c = sym c.loop-child.invariant.5

pub look_up-requires : goal.look_up-requires
look_up-requires c =
    let g = gave _ _ _ _ c.next.new.self c.loop-child.invariant.2 c.in-Some.ensures.steps in
    record { has_index = grown_index c.loop-child.invariant.3; prefixed = short_key c.loop-child.invariant.3 g.at g.before c.span-key.ensures.start c.span-key.ensures.stop c.in-Some-write.ensures; other_len = c.loop-child.invariant.5 }

pub shape_of-links-in-None-look_up : goal.shape_of-links-in-None-look_up
shape_of-links-in-None-look_up c = c.loop-child.invariant.3.index.rising.all_cells ∙ sym c.requires.vacant.all_cells

pub shape_of-tests-in-None-look_up : goal.shape_of-tests-in-None-look_up
shape_of-tests-in-None-look_up c = c.loop-child.invariant.3.index.rising.all_tests ∙ sym c.requires.vacant.all_tests

pub returns-in-None-look_up : goal.returns-in-None-look_up
returns-in-None-look_up c =
    let g = gave _ _ _ _ c.next.new.self c.loop-child.invariant.2 c.in-Some.ensures.steps in
    short_hit c.loop-child.invariant.3 g.at g.before c.span-key.ensures.start c.span-key.ensures.stop c.in-Some-write.ensures c.in-None-look_up.ensures

pub offset_bounds-links-place : goal.offset_bounds-links-place
offset_bounds-links-place c =
    let g = gave _ _ _ _ c.next.new.self c.loop-child.invariant.2 c.in-Some.ensures.steps in
    let k = short_cell c.loop-child.invariant.3 g.at g.before c.span-key.ensures.start c.span-key.ensures.stop c.in-Some-write.ensures c.in-Some-look_up.ensures in omega (arith, k)

pub bounds-links-place : goal.bounds-links-place
bounds-links-place c =
    let g = gave _ _ _ _ c.next.new.self c.loop-child.invariant.2 c.in-Some.ensures.steps in
    let k = short_cell c.loop-child.invariant.3 g.at g.before c.span-key.ensures.start c.span-key.ensures.stop c.in-Some-write.ensures c.in-Some-look_up.ensures in omega (arith, k, c.loop-child.invariant.3.index.rising.all_cells)

pub bounds-tests-child : goal.bounds-tests-child
bounds-tests-child c =
    let g = gave _ _ _ _ c.next.new.self c.loop-child.invariant.2 c.in-Some.ensures.steps in
    omega (arith, c.loop-child.invariant.3.index.rising.all_tests, g.before, c.requires.first_nonzero.1)

pub shape_of-links : goal.shape_of-links
shape_of-links c = c.loop-child.invariant.3.index.rising.all_cells ∙ sym c.requires.vacant.all_cells

pub shape_of-tests : goal.shape_of-tests
shape_of-tests c = c.loop-child.invariant.3.index.rising.all_tests ∙ sym c.requires.vacant.all_tests

pub returns : goal.returns
returns c = grown_end c.loop-child.invariant.3 (gave_none _ _ _ c.loop-child.invariant.2 c.in-None.ensures.steps.2)
