use mathlib.Core.Path.{◌≡◌}
use Prim.Native.Nat.{◌-◌}
use lib.ListN.{length}
use Rattle.lexer.specs.Token.{tokens_from}
use Rattle.lexer.proofs.item.next_token.Given as goal

abbrev pub invariant-loop-end : goal.invariant-loop-end
invariant-loop-end l = tokens_from l.fn.sw l.fn.text l.fn.at ≡ tokens_from l.fn.sw l.fn.text l.i

abbrev pub decreases-loop-end : goal.decreases-loop-end
decreases-loop-end l = length l.fn.text - l.i
