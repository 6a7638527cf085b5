-- The refusals by a limit, 9 and 10, and two runs of which the second goes where the first goes, unless a limit value-refused it.
-- Assumes nothing.
use mathlib.Core.Path.{◌≡◌}
use Prim.Native.Nat.{ℕ}
use mathlib.Core.Bool.{Bool, true, false, false≢true}
use Rattle.reader.specs.Syntax.{Config, Step, go, refuse, refuse_if, Outcome, taken, refused}

pub data Limit : ℕ → Type 0 where
  deep : Limit 9
  many : Limit 10

-- taken, or stopped by a limit
unfoldable pub Fair : Outcome → Type 0
Fair (taken t) = Unit {0}
Fair (refused k place) = Limit k

-- if the first is taken the second is, or is stopped by a limit
unfoldable pub FairIf : Outcome → Outcome → Type 0
FairIf (taken t) o = Fair o
FairIf (refused k place) o = Unit {0}

-- ---- steps

module _ (R : Config → Config → Type 0) where
  -- where the first goes on the second does, or a limit value-refused it
  unfoldable pub Steps : Step → Step → Type 0
  Steps (go c) (go d) = R c d
  Steps (go c) (refuse k) = Limit k
  Steps (refuse k) s = Unit {0}

  -- a refusal by a limit
  pub by_limit : (b b' : Bool) (k : ℕ) (s s' : Step) → Limit k → Steps s s' → Steps (refuse_if b k s) (refuse_if b' k s')
  unfolding refuse_if Steps
  by_limit true b' k s s' l h = tt
  by_limit false true k (go c) s' l h = l
  by_limit false true k (refuse j) s' l h = tt
  by_limit false false k s s' l h = h

  -- a refusal by a test that both pass or fail
  pub by_test : (b b' : Bool) (k : ℕ) (s s' : Step) → b ≡ b' → Steps s s' → Steps (refuse_if b k s) (refuse_if b' k s')
  unfolding refuse_if Steps
  by_test true b' k s s' e h = tt
  by_test false true k s s' e h = absurd (false≢true e)
  by_test false false k s s' e h = h
