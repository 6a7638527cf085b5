use Rattle.reader.proofs.FewRun.{Search}
use Rattle.reader.proofs.duplicates.KeptKeys.holds.Given as goal

abbrev pub invariant-loop-to : goal.invariant-loop-to
invariant-loop-to l = Search l.self.bytes l.self.ends l.from l.to-index l.self.count l.self.at l.fn.end l.own
