use Rattle.text.specs.Switches.{present_edition}
use Rattle.duper.proofs.ChangeLaws.{correct_place, fits, change_crosses}
use Rattle.duper.proofs.duper_correct.Goals as goal

pub tell-requires : goal.tell-requires
tell-requires c = fits (correct_place present_edition _ _ _ _) c.correct-change.ensures

pub returns : goal.returns
returns c = change_crosses c.correct-change.ensures c.tell.ensures.0 c.tell.ensures.1
