use mathlib.Core.Path.{ap}
use Rattle.text.specs.Refusal.{told}
use lib.ListN.{length}
use Rattle.text.specs.Switches.{present_edition}
use Rattle.salvage.proofs.CallLaws.{salvage_place}
use Rattle.duper.proofs.SalvageLaws.{salvage_crosses}
use Rattle.duper.specs.Numbers.{salvage_number, salvage_words}
use Rattle.duper.proofs.duper_salvage.Goals as goal

pub packed-requires : goal.packed-requires
packed-requires c =
    salvage_place present_edition (length c.args.table.now) c.args.log.now c.args.out.now c.args.verdicts.now _ _ _ _ c.salvage.ensures (ap told c.in-Err.is)

pub returns-in-Ok : goal.returns-in-Ok
unfolding salvage_number salvage_words
returns-in-Ok c = salvage_crosses _ _ _ _ _ _ c.salvage.ensures (ap told c.in-Ok.is)

pub returns-in-Err : goal.returns-in-Err
unfolding salvage_number salvage_words
returns-in-Err c = rw c.packed.ensures (salvage_crosses _ _ _ _ _ _ c.salvage.ensures (ap told c.in-Err.is))
