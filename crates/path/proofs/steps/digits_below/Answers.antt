use native.Mathlib.Omega.{arith}
use mathlib.Core.Path.{refl, sym}
use Prim.Native.Nat.{◌+◌, ◌*◌}
use Rattle.path.proofs.StepLaws.{digits_stop, digits_over, digits_on, digits_end}
use Rattle.path.proofs.steps.digits_below.Goals as goal

pub returns-then-not-is_ascii_digit : goal.returns-then-not-is_ascii_digit
returns-then-not-is_ascii_digit c =
    digits_stop _ _ _ _ c.loop-b.invariant (omega arith) (sym c.if-not-is_ascii_digit.ensures.value)

pub loop-b-init : goal.loop-b-init
loop-b-init c = record { low = c.requires.limit_bound.0; same = refl }

pub overflow_mul-v : goal.overflow_mul-v
overflow_mul-v c = let l = c.loop-b.invariant.low in omega arith

pub overflow_add-v : goal.overflow_add-v
overflow_add-v c = let l = c.loop-b.invariant.low in omega arith

pub returns-then-limit-v : goal.returns-then-limit-v
returns-then-limit-v c =
    digits_over _ _ _ _ c.loop-b.invariant (c.loop-b.v * 10 + c.from.result) (omega arith) (sym c.if-not-is_ascii_digit.ensures.value) (omega arith) (omega arith)

pub loop-b-preserved : goal.loop-b-preserved
loop-b-preserved c =
    digits_on _ _ _ _ c.loop-b.invariant _ (omega arith) (sym c.if-not-is_ascii_digit.ensures.value) (omega arith) (omega arith)

pub returns : goal.returns
returns c = digits_end _ _ _ _ c.loop-b.invariant (omega arith)
