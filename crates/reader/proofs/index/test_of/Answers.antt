use native.Mathlib.Omega.{arith}
use mathlib.Core.Path.{sym, subst}
use Prim.Native.Nat.{ℕ, ◌+◌, ◌*◌, ◌%◌}
use Rattle.std.specs.Int.{w8, trailing_zeros}
use Rattle.std.specs.Int.Bits.{bit_xor}
use Rattle.reader.specs.Internal.Index.{TellsBy}
use Rattle.reader.proofs.PrefixLaws.{tells_bit, differing_low, differing_bit}
use Rattle.reader.proofs.index.test_of.Goals as goal

pub overflow_shr-own : goal.overflow_shr-own
overflow_shr-own c = differing_low c.args.own c.args.other (omega arith) (omega arith) c.requires.another

pub overflow_cast-result : goal.overflow_cast-result
overflow_cast-result c = let l = differing_low c.args.own c.args.other (omega arith) (omega arith) c.requires.another in omega (arith, l)

pub returns : goal.returns
returns c =
    subst (λ (b : ℕ). TellsBy c.args.i c.args.own c.args.other ((c.args.i * 8 + trailing_zeros w8 (bit_xor c.args.own c.args.other)) * 2 + b % 2)) (sym c.from-value.ensures)
    (tells_bit c.args.i c.args.own c.args.other (trailing_zeros w8 (bit_xor c.args.own c.args.other)) (differing_low c.args.own c.args.other (omega arith) (omega arith) c.requires.another)
    (differing_bit c.args.own c.args.other (omega arith) (omega arith) c.requires.another))
