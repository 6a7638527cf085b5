use Rattle.text.specs.Refusal.{told}
use mathlib.Core.Path.{sym, ◌∙◌, ap}
use lib.ListN.{length}
use Rattle.text.specs.Switches.{present_edition}
use Rattle.duper.proofs.NumberLaws.{taken_number, refused_number, place_small}
use Rattle.duper.proofs.duper_read.Goals as goal

pub packed-requires : goal.packed-requires
packed-requires c =
    place_small present_edition (length c.args.table.now) c.args.text.now _ (sym (ap told c.in-Err.is) ∙ c.read.ensures.0)

pub returns-in-Ok : goal.returns-in-Ok
returns-in-Ok c =
    (taken_number _ _ (sym (ap told c.in-Ok.is) ∙ c.read.ensures.0), c.read.ensures.1)

pub returns-in-Err : goal.returns-in-Err
returns-in-Err c =
    (c.packed.ensures ∙ refused_number _ _ (sym (ap told c.in-Err.is) ∙ c.read.ensures.0), c.read.ensures.1)
