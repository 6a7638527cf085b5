-- The walk over an object's children, as the code's iterator makes it: src/siblings.rt. Nothing here has to be believed.
-- Assumes nothing.
use Rattle.std.specs.Prelude.{ℕ, ◌<◌, ◌≤◌, ◌≡◌, List, Option, MatchOption}
use Rattle.text.specs.declared.switches.Switches.{Switches}
use Rattle.reader.specs.Reading.{word_of}
use Rattle.reader.specs.Internal.Values.{HaveKeys}
use Rattle.reader.specs.declared.siblings.Siblings.{Siblings}

-- some nodes with keys stand side by side from the node x to before m
pub record Chained (tab : List ℕ) (x m : ℕ) : Type 0 where
  pub sw : Switches
  pub text : List ℕ
  pub keys : HaveKeys sw text tab x m

-- a step gives the child that is next, and goes on to the node that its word 8 names; or there is none left
abbrev pub Steps : Siblings → Option ℕ → Siblings → Type 0
Steps s r t =
    (t.table.now ≡ s.table.now) × (t.end ≡ s.end)
    × MatchOption r (s.end ≤ s.next) (λ x. (x ≡ s.next) × (x < s.end) × (t.next ≡ word_of s.table.now x 8))
