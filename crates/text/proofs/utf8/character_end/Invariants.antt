use Rattle.std.proofs.Common.{◌≡◌, ◌+◌, drop, get_or}
use Rattle.text.specs.Utf8.{lead}
use Rattle.text.specs.Internal.{character_end}
use Rattle.text.proofs.Utf8Laws.{After}
use Rattle.text.proofs.utf8.character_end.Given as goal

abbrev pub invariant-loop-b : goal.invariant-loop-b
invariant-loop-b l = record {
  read : After (l.i + 1 + l.b-index) l.u;
  same : character_end (lead l.i (get_or l.s l.i 0)) l.b-items ≡ character_end l.u (drop l.b-index l.b-items);
}
