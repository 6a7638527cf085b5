use Rattle.text.specs.Refusal.{told}
use mathlib.Core.Path.{sym, ◌∙◌, ap}
use lib.ListN.{length}
use Rattle.text.specs.Switches.{present_edition}
use Rattle.path.proofs.FoundLaws.{found_place}
use Rattle.duper.proofs.NumberLaws.{node_number, step_number}
use Rattle.duper.proofs.duper_find.Goals as goal

pub packed-requires : goal.packed-requires
packed-requires c =
    found_place present_edition (length c.args.table.now) c.args.text.now c.args.path.now _ (sym (ap told c.in-Err.is) ∙ c.find.ensures.0)

pub returns-in-Ok : goal.returns-in-Ok
returns-in-Ok c =
    (node_number _ _ (sym (ap told c.in-Ok.is) ∙ c.find.ensures.0), c.find.ensures.1)

pub returns-in-Err : goal.returns-in-Err
returns-in-Err c =
    (c.packed.ensures ∙ step_number _ _ (sym (ap told c.in-Err.is) ∙ c.find.ensures.0), c.find.ensures.1)
