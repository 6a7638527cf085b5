use native.Mathlib.Omega.{arith}
use Rattle.reader.proofs.SiblingLaws.{chained_on}
use Rattle.reader.proofs.siblings.SiblingsIterator.next.Goals as goal

pub returns-clause-goes : goal.returns-clause-goes
returns-clause-goes c =
    let L = chained_on c.requires (omega arith) c.word_of-self.ensures in
    record { on = λ f. (L.rest, tt, omega arith); keeps = L.rest; rests = λ f. tt }
