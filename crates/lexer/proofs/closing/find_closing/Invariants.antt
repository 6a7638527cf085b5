use mathlib.Core.Path.{◌≡◌}
use Prim.Native.Nat.{◌≤◌, ◌-◌, ◌*◌, ◌+◌}
use Rattle.std.specs.Prelude.{None}
use lib.ListN.{length, drop}
use Rattle.text.specs.Bytes.{feed}
use Rattle.lexer.specs.Closing.{closing_step, closing}
use Rattle.lexer.specs.Internal.{closing_read, closed_at}
use Rattle.lexer.proofs.closing.find_closing.Given as goal

abbrev pub invariant-loop-i : goal.invariant-loop-i
invariant-loop-i l = record {
  on : l.from ≤ l.i;
  counted : closing_read l.state + 2 * l.from ≤ 2 * l.i;
  read : closing l.escapes l.hashes (drop l.from l.text) ≡ feed (closing_step l.escapes l.hashes) l.state (drop l.i l.text);
  unclosed : closed_at l.state ≡ None;
}

abbrev pub decreases-loop-i : goal.decreases-loop-i
decreases-loop-i l = length l.text - l.i
