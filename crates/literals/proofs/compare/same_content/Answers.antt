use Rattle.literals.proofs.CursorLaws.{end_is, bad_is, byte_is, both_start, both_bad, both_end, both_byte, both_last, both_differ, both_on}
use Rattle.literals.proofs.compare.same_content.Goals as goal

pub loop-x-init : goal.loop-x-init
loop-x-init c = both_start c.cursor_at-left.ensures c.cursor_at-right.ensures c.args.abody c.args.bbody c.start_of.ensures c.start_of-2.ensures

pub loop-x-preserved : goal.loop-x-preserved
loop-x-preserved c = both_on c.loop-x.invariant (byte_is c.in-Byte.is c.next_byte.ensures) (byte_is c.in-Byte-next_byte.is c.next_byte-in-Byte.ensures) c.if-x-y.false

pub returns-then-x-y : goal.returns-then-x-y
returns-then-x-y c =
    both_differ c.cursor_at-left.ensures c.cursor_at-right.ensures c.args.abody c.args.bbody c.start_of.ensures c.start_of-2.ensures c.loop-x.invariant (byte_is c.in-Byte.is c.next_byte.ensures) (byte_is c.in-Byte-next_byte.is c.next_byte-in-Byte.ensures) c.if-x-y.true

pub returns-in_default : goal.returns-in_default
returns-in_default c =
    both_byte c.cursor_at-left.ensures c.cursor_at-right.ensures c.args.abody c.args.bbody c.start_of.ensures c.start_of-2.ensures c.loop-x.invariant (byte_is c.in-Byte.is c.next_byte.ensures) _ c.next_byte-in-Byte.ensures c.in_default.not-Byte

pub returns-in-End-matches : goal.returns-in-End-matches
returns-in-End-matches c =
    both_end c.cursor_at-left.ensures c.cursor_at-right.ensures c.args.abody c.args.bbody c.start_of.ensures c.start_of-2.ensures c.loop-x.invariant (end_is c.in-End.is c.next_byte.ensures) (end_is c.in-End-matches.is c.next_byte-in-End.ensures)

pub returns-in_default-matches : goal.returns-in_default-matches
returns-in_default-matches c =
    both_last c.cursor_at-left.ensures c.cursor_at-right.ensures c.args.abody c.args.bbody c.start_of.ensures c.start_of-2.ensures c.loop-x.invariant (end_is c.in-End.is c.next_byte.ensures) _ c.next_byte-in-End.ensures c.in_default-matches.not-End

pub returns-in-Bad : goal.returns-in-Bad
returns-in-Bad c = both_bad c.cursor_at-left.ensures c.cursor_at-right.ensures c.args.abody c.args.bbody c.start_of.ensures c.start_of-2.ensures c.loop-x.invariant (bad_is c.in-Bad.is c.next_byte.ensures)
