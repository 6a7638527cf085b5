use Rattle.text.specs.Refusal.{told}
use mathlib.Core.Path.{refl, ◌∙◌, ap}
use Rattle.duper.specs.Internal.{words_of}
use Rattle.duper.proofs.ChangeLaws.{told_done, told_refused, told_place}
use Rattle.duper.proofs.tell.Goals as goal

pub packed-requires : goal.packed-requires
packed-requires c = told_place (ap told c.in-Err.is) c.requires

pub returns-in-Ok : goal.returns-in-Ok
unfolding words_of
returns-in-Ok c = (told_done (ap told c.in-Ok.is), refl)

pub returns-in-Err : goal.returns-in-Err
unfolding words_of
returns-in-Err c = (c.packed.ensures ∙ told_refused (ap told c.in-Err.is), refl)
