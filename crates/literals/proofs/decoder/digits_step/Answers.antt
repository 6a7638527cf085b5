use Rattle.std.proofs.Common.{arith}
use Rattle.literals.proofs.DecoderLaws.{bits_few}
use Rattle.literals.proofs.decoder.digits_step.Goals as goal

pub overflow_sub-phase : goal.overflow_sub-phase
overflow_sub-phase c = let h = bits_few _ _ c.requires in omega arith
