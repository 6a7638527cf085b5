use native.Mathlib.Omega.{arith}
use Rattle.nodes.proofs.WalkLaws.{next_stands, next_left, next_up, next_within}
use Rattle.nodes.proofs.children.ChildrenIterator.next.Goals as goal

pub invariant_of-child : goal.invariant_of-child
invariant_of-child c = record { stands = next_stands _ _ _ c.if-self.false c.args.self.now.left }

pub invariant_of-self : goal.invariant_of-self
invariant_of-self c = record { left = next_left _ _ _ _ c.if-self.false c.word_of-self.ensures c.args.self.now.left }

pub returns-clause-goes : goal.returns-clause-goes
returns-clause-goes c =
    let u = next_up _ _ _ _ c.if-self.false c.word_of-self.ensures c.args.self.now.left in
    let w = next_within _ _ _ _ c.if-self.false c.word_of-self.ensures c.args.self.now.left in
    record { on = λ f. (tt, tt, omega arith); keeps = tt; rests = λ f. tt }
