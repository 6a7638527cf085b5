use Rattle.reader.specs.Internal.Few.{Walked}
use Rattle.reader.proofs.SiblingLaws.{chained, over_start, gave, gave_none}
use Rattle.reader.proofs.FewRun.{walked_rest, walked_keys, walked_key, walked_hit, walked_on, walked_end}
use Rattle.reader.proofs.keys.ObjectKeys.duplicate_from.Goals as goal

pub side_by_side-child-items-requires : goal.side_by_side-child-items-requires
side_by_side-child-items-requires c = chained (walked_rest c.requires)

pub loop-child-init : goal.loop-child-init
loop-child-init c =
    let e = c.side_by_side-child-items.ensures in
    over_start (λ z. Walked c.args.self.now.sw c.args.self.now.text.now c.args.self.now.table.now c.args.self.now.first z c.args.self.now.next) _ _ _ _ _ c.into_iter-child-iterator.ensures.into_iter_gives e.chained e.table_is e.next_is e.end_is c.requires

pub has_before-requires : goal.has_before-requires
has_before-requires c =
    let g = gave _ _ _ _ c.next.new.self c.loop-child.invariant.2 c.in-Some.ensures.steps in
    record { have_keys = walked_keys c.loop-child.invariant.3 g.at g.before; key_here = walked_key c.loop-child.invariant.3 g.at g.before c.span-key.ensures.start c.span-key.ensures.stop }

pub returns-then-has_before : goal.returns-then-has_before
returns-then-has_before c =
    let g = gave _ _ _ _ c.next.new.self c.loop-child.invariant.2 c.in-Some.ensures.steps in
    walked_hit c.loop-child.invariant.3 g.at g.before c.span-key.ensures.start c.span-key.ensures.stop c.has_before.ensures c.if-has_before.true

pub loop-child-preserved : goal.loop-child-preserved
loop-child-preserved c =
    let g = gave _ _ _ _ c.next.new.self c.loop-child.invariant.2 c.in-Some.ensures.steps in
    (c.in-Some.ensures.goes.keeps, tt, g.over, walked_on c.loop-child.invariant.3 g.at g.before c.span-key.ensures.start c.span-key.ensures.stop c.has_before.ensures g.on c.if-has_before.false)

pub returns : goal.returns
returns c = walked_end c.loop-child.invariant.3 (gave_none _ _ _ c.loop-child.invariant.2 c.in-None.ensures.steps.2)
