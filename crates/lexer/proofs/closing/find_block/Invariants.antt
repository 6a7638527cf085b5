use mathlib.Core.Path.{◌≡◌}
use Prim.Native.Nat.{◌-◌, ◌≤◌}
use lib.ListN.{length, take, drop}
use Rattle.std.specs.Prelude.{None}
use Rattle.text.specs.Bytes.{feed}
use Rattle.lexer.specs.Closing.{block_step, block}
use Rattle.lexer.specs.Internal.{block_read, shut_at}
use Rattle.lexer.proofs.closing.find_block.Given as goal

abbrev pub invariant-loop-b : goal.invariant-loop-b
invariant-loop-b l = record {
  counted : block_read l.state ≤ l.b-index;
  read : block (drop l.fn.from l.fn.text) ≡ feed block_step l.state (drop l.b-index (take (length l.fn.text - l.fn.from) (drop l.fn.from l.fn.text)));
  unshut : shut_at l.state ≡ None;
}
