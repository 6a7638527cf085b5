use Rattle.text.specs.Refusal.{told}
use mathlib.Core.Path.{sym, ◌∙◌, ap}
use lib.ListN.{length}
use Rattle.text.specs.Switches.{present_edition}
use Rattle.summary.proofs.AnswerLaws.{summary_place}
use Rattle.duper.proofs.SummaryLaws.{summary_crosses, held_crosses}
use Rattle.duper.specs.Numbers.{summary_number, summary_counts, summary_heights, heights_or}
use Rattle.duper.proofs.duper_summary.Goals as goal

pub packed-requires : goal.packed-requires
packed-requires c =
    summary_place present_edition (length c.args.table.now) c.args.text.now _ (sym (ap told c.in-Err.is) ∙ c.summarize.ensures.0)

pub returns-in-Some : goal.returns-in-Some
unfolding heights_or
returns-in-Some c =
    (held_crosses _ _ _ _ _ (sym (ap told c.in-Ok.is) ∙ c.summarize.ensures.0) c.in-Some.is, c.summarize.ensures.1)

pub returns-in_default : goal.returns-in_default
unfolding heights_or
returns-in_default c =
    (held_crosses _ _ _ _ _ (sym (ap told c.in-Ok.is) ∙ c.summarize.ensures.0) c.in_default.is, c.summarize.ensures.1)

pub returns-in-Err : goal.returns-in-Err
unfolding summary_number summary_counts summary_heights
returns-in-Err c =
    (rw c.packed.ensures (summary_crosses _ _ _ _ (sym (ap told c.in-Err.is) ∙ c.summarize.ensures.0)), c.summarize.ensures.1)
