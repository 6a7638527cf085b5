use native.Mathlib.Omega.{arith}
use mathlib.Core.Path.{sym, ◌∙◌}
use Rattle.text.proofs.EightLaws.{checks_start, checks_eight, passed, checks_passed, checks_stop, checks_end, eight_long}
use Rattle.text.proofs.utf8.check_utf8.Goals as goal

pub loop-i-init : goal.loop-i-init
loop-i-init c = checks_start c.args.s.now

pub plain_eight-requires : goal.plain_eight-requires
plain_eight-requires c = let l = c.loop-i.invariant.at_most in omega arith

pub overflow_add-i : goal.overflow_add-i
overflow_add-i c = let l = eight_long c.args.s.now c.loop-i.i (sym c.plain_eight.ensures ∙ c.if-plain_eight.true) in omega arith

pub overflow_add-eights : goal.overflow_add-eights
overflow_add-eights c = let l = c.loop-i.invariant.few in omega arith

pub loop-i-smaller-then-plain_eight : goal.loop-i-smaller-then-plain_eight
loop-i-smaller-then-plain_eight c = let l = eight_long c.args.s.now c.loop-i.i (sym c.plain_eight.ensures ∙ c.if-plain_eight.true) in omega arith

pub loop-i-preserved-then-plain_eight : goal.loop-i-preserved-then-plain_eight
loop-i-preserved-then-plain_eight c =
    checks_eight c.args.s.now c.loop-i.i c.loop-i.eights c.loop-i.invariant (sym c.plain_eight.ensures ∙ c.if-plain_eight.true)

pub returns-then-end-i : goal.returns-then-end-i
returns-then-end-i c =
    checks_stop c.args.s.now c.loop-i.i c.loop-i.eights _ c.loop-i.invariant
    (passed c.args.s.now c.loop-i.i _ (omega arith) (sym c.plain_eight.ensures ∙ c.if-plain_eight.false) c.character_end-end.ensures) c.if-end-i.true

pub loop-i-smaller : goal.loop-i-smaller
loop-i-smaller c = let p = passed c.args.s.now c.loop-i.i _ (omega arith) (sym c.plain_eight.ensures ∙ c.if-plain_eight.false) c.character_end-end.ensures in
    let g = p.goes_up in
    let l = p.ends_inside in
    let n = c.if-end-i.false in
    omega arith

pub loop-i-preserved : goal.loop-i-preserved
loop-i-preserved c =
    checks_passed c.args.s.now c.loop-i.i c.loop-i.eights _ c.loop-i.invariant
    (passed c.args.s.now c.loop-i.i _ (omega arith) (sym c.plain_eight.ensures ∙ c.if-plain_eight.false) c.character_end-end.ensures)

pub returns : goal.returns
returns c = checks_end c.args.s.now c.loop-i.i c.loop-i.eights c.loop-i.invariant (omega arith)
