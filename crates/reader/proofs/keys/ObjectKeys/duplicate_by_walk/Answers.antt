use lib.ListN.{replicate}
use Rattle.reader.proofs.SiblingLaws.{chained, over_start, gave, gave_none}
use Rattle.reader.proofs.FewRun.{Few, few_start, few_walked, few_kept, few_end, few_key, few_hit, few_on}
use Rattle.reader.proofs.keys.ObjectKeys.duplicate_by_walk.Goals as goal

pub side_by_side-child-items-requires : goal.side_by_side-child-items-requires
side_by_side-child-items-requires c = chained c.args.self.now.keys

pub loop-child-init : goal.loop-child-init
loop-child-init c =
    let e = c.side_by_side-child-items.ensures in
    over_start (λ z. Few c.args.self.now.sw c.args.self.now.text.now c.args.self.now.table.now (record { bytes = replicate 1024 0; ends = replicate 16 0; count = 0; at = 0 }) c.args.self.now.first z c.args.self.now.next) _ _ _ _ _ c.into_iter-child-iterator.ensures.into_iter_gives e.chained e.table_is e.next_is e.end_is (few_start (replicate 1024 0) (replicate 16 0) c.args.self.now.keys)

pub keep-requires : goal.keep-requires
keep-requires c =
    let g = gave _ _ _ _ c.next.new.self c.loop-child.invariant.2 c.in-Some.ensures.steps in
    record { key_here = few_key c.loop-child.invariant.3 g.at g.before c.span-key.ensures.start c.span-key.ensures.stop; have_kept = few_kept c.loop-child.invariant.3 }

pub duplicate_from-requires : goal.duplicate_from-requires
duplicate_from-requires c =
    let g = gave _ _ _ _ c.next.new.self c.loop-child.invariant.2 c.in-Some.ensures.steps in
    few_walked c.loop-child.invariant.3 g.at g.before

pub loop-child-preserved : goal.loop-child-preserved
loop-child-preserved c =
    let g = gave _ _ _ _ c.next.new.self c.loop-child.invariant.2 c.in-Some.ensures.steps in
    (c.in-Some.ensures.goes.keeps, tt, g.over, few_on c.loop-child.invariant.3 g.at g.before c.span-key.ensures.start c.span-key.ensures.stop c.in-Some-true.ensures c.in-Some-true.field-0-test g.on)

pub returns-in-Some-false : goal.returns-in-Some-false
returns-in-Some-false c =
    let g = gave _ _ _ _ c.next.new.self c.loop-child.invariant.2 c.in-Some.ensures.steps in
    few_hit c.loop-child.invariant.3 g.at g.before c.span-key.ensures.start c.span-key.ensures.stop c.in-Some-false.ensures c.in-Some-false.field-0-test

pub returns : goal.returns
returns c = few_end c.loop-child.invariant.3 (gave_none _ _ _ c.loop-child.invariant.2 c.in-None.ensures.steps.2)
