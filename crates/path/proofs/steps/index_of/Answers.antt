use native.Mathlib.Omega.{arith}
use mathlib.Core.Path.{ap, ◌∙◌}
use mathlib.Core.Option.{Option}
use Prim.Native.Nat.{ℕ}
use Rattle.path.specs.Internal.{below, index_answer}
use Rattle.path.proofs.StepLaws.{index_empty, index_no_room, index_zero, index_led, index_digits}
use Rattle.path.proofs.steps.index_of.Goals as goal

pub returns-then-limit-eq0 : goal.returns-then-limit-eq0
returns-then-limit-eq0 c = index_no_room _ _ (omega arith)

pub returns-in-empty : goal.returns-in-empty
returns-in-empty c = index_empty _ _ (omega arith)

pub returns-then-step-eq1 : goal.returns-then-step-eq1
returns-then-step-eq1 c = index_zero _ c.args.step.now (omega arith) (omega arith) (λ e. omega arith)

pub returns-else-step-eq1 : goal.returns-else-step-eq1
returns-else-step-eq1 c = index_led _ c.args.step.now (omega arith) (λ e. omega arith) (omega arith)

pub returns-in_default : goal.returns-in_default
returns-in_default c =
    c.digits_below.ensures ∙ ap (λ (x : Option ℕ). index_answer (below c.args.limit x)) (index_digits c.args.step.now (omega arith) (λ e. omega arith))
