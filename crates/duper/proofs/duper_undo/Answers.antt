use Rattle.text.specs.Switches.{present_edition}
use Rattle.duper.proofs.ChangeLaws.{undo_place, fits, change_crosses}
use Rattle.duper.proofs.duper_undo.Goals as goal

pub tell-requires : goal.tell-requires
tell-requires c = fits (undo_place present_edition _ _) c.undo-change.ensures

pub returns : goal.returns
returns c = change_crosses c.undo-change.ensures c.tell.ensures.0 c.tell.ensures.1
