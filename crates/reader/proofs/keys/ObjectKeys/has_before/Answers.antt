use native.Mathlib.Omega.{arith}
use mathlib.Core.Path.{◌∙◌}
use Rattle.lexer.proofs.PartLaws.{part_content}
use Rattle.reader.proofs.SiblingLaws.{chained, over_start, gave, gave_none}
use Rattle.reader.proofs.KeyWalk.{Seeks, seek_start, seek_key, seek_hit, seek_on, seek_end, keyed, key_part}
use Rattle.reader.proofs.keys.ObjectKeys.has_before.Goals as goal

pub slice_bounds-token-count : goal.slice_bounds-token-count
slice_bounds-token-count c = let o = c.requires.key_here.key.ordered in omega arith

pub slice_bounds-token-start : goal.slice_bounds-token-start
slice_bounds-token-start c =
    let o = c.requires.key_here.key.ordered in let i = c.requires.key_here.key.inside in omega arith

pub slice_bounds-token-end : goal.slice_bounds-token-end
slice_bounds-token-end c =
    let o = c.requires.key_here.key.ordered in let i = c.requires.key_here.key.inside in omega arith

pub slice_bounds-own-count : goal.slice_bounds-own-count
slice_bounds-own-count c = let p = key_part _ _ _ _ _ c.requires.key_here.key _ c.part_of-part.ensures in let f = p.forward in omega arith

pub slice_bounds-own-start : goal.slice_bounds-own-start
slice_bounds-own-start c = let p = key_part _ _ _ _ _ c.requires.key_here.key _ c.part_of-part.ensures in let f = p.forward in let i = p.inside in omega arith

pub slice_bounds-own-end : goal.slice_bounds-own-end
slice_bounds-own-end c = let p = key_part _ _ _ _ _ c.requires.key_here.key _ c.part_of-part.ensures in let f = p.forward in let i = p.inside in omega arith

pub side_by_side-child-items-requires : goal.side_by_side-child-items-requires
side_by_side-child-items-requires c = chained c.requires.have_keys

pub loop-child-init : goal.loop-child-init
loop-child-init c =
    let e = c.side_by_side-child-items.ensures in
    over_start (Seeks c.args.self.now.sw c.args.self.now.text.now c.args.self.now.table.now c.args.self.now.first c.args.end c.args.key.start c.args.key.stop c.part_of-part.result.body _) _ _ _ _ _ c.into_iter-child-iterator.ensures.into_iter_gives e.chained e.table_is e.next_is e.end_is (seek_start c.requires.key_here (part_content _ _ _ _ _ (keyed _ _ _ _ _ c.requires.key_here.key) (key_part _ _ _ _ _ c.requires.key_here.key _ c.part_of-part.ensures).holds ∙ c.requires.key_here.key.holds) c.requires.have_keys)

pub slice_bounds-content_is-count : goal.slice_bounds-content_is-count
slice_bounds-content_is-count c =
    let g = gave _ _ _ _ c.next.new.self c.loop-child.invariant.2 c.in-Some.ensures.steps in
    let K = (seek_key c.loop-child.invariant.3 g.at g.before c.span-earlier.ensures.start c.span-earlier.ensures.stop).1 in let o = K.ordered in omega arith

pub slice_bounds-content_is-start : goal.slice_bounds-content_is-start
slice_bounds-content_is-start c =
    let g = gave _ _ _ _ c.next.new.self c.loop-child.invariant.2 c.in-Some.ensures.steps in
    let K = (seek_key c.loop-child.invariant.3 g.at g.before c.span-earlier.ensures.start c.span-earlier.ensures.stop).1 in let o = K.ordered in let i = K.inside in omega arith

pub slice_bounds-content_is-end : goal.slice_bounds-content_is-end
slice_bounds-content_is-end c =
    let g = gave _ _ _ _ c.next.new.self c.loop-child.invariant.2 c.in-Some.ensures.steps in
    let K = (seek_key c.loop-child.invariant.3 g.at g.before c.span-earlier.ensures.start c.span-earlier.ensures.stop).1 in let i = K.inside in omega arith

pub content_is-requires : goal.content_is-requires
content_is-requires c =
    let g = gave _ _ _ _ c.next.new.self c.loop-child.invariant.2 c.in-Some.ensures.steps in
    keyed _ _ _ _ _ (seek_key c.loop-child.invariant.3 g.at g.before c.span-earlier.ensures.start c.span-earlier.ensures.stop).1

pub returns-then-content_is : goal.returns-then-content_is
returns-then-content_is c =
    let g = gave _ _ _ _ c.next.new.self c.loop-child.invariant.2 c.in-Some.ensures.steps in
    seek_hit c.loop-child.invariant.3 g.at g.before c.span-earlier.ensures.start c.span-earlier.ensures.stop c.content_is.ensures c.if-content_is.true

pub loop-child-preserved : goal.loop-child-preserved
loop-child-preserved c =
    let g = gave _ _ _ _ c.next.new.self c.loop-child.invariant.2 c.in-Some.ensures.steps in
    (c.in-Some.ensures.goes.keeps, tt, g.over, seek_on c.loop-child.invariant.3 g.at g.before c.span-earlier.ensures.start c.span-earlier.ensures.stop c.content_is.ensures g.on c.if-content_is.false)

pub returns : goal.returns
returns c = seek_end c.loop-child.invariant.3 (gave_none _ _ _ c.loop-child.invariant.2 c.in-None.ensures.steps.2)
