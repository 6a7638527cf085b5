use Rattle.std.proofs.Common.{sym, ◌∙◌, true, false}
use Rattle.literals.proofs.CursorLaws.{walk_byte, walk_turn, walk_end}
use Rattle.literals.proofs.compare.next_byte.Goals as goal

pub returns-in-Some : goal.returns-in-Some
returns-in-Some c = record { is = walk_byte c.loop-b.invariant c.in-Some.b c.in-Some.rest _ c.cursor_at.ensures c.in-Some.ensures }

pub returns-then-may_end : goal.returns-then-may_end
returns-then-may_end c = record { is = walk_end c.loop-b.invariant c.in_default.ensures c.if-s-i.true true (sym c.may_end.ensures ∙ c.if-may_end.true) }

pub returns-else-may_end : goal.returns-else-may_end
returns-else-may_end c = record { is = walk_end c.loop-b.invariant c.in_default.ensures c.if-s-i.true false (sym c.may_end.ensures ∙ c.if-may_end.false) }

pub loop-b-preserved : goal.loop-b-preserved
loop-b-preserved c = walk_turn c.loop-b.invariant c.in_default.ensures c.decode_step-step.result c.if-s-i.false c.decode_step-step.ensures
