use Rattle.text.specs.Refusal.{told}
use Rattle.std.proofs.lemmas.Result.{err_from_is_err_and}
use mathlib.Core.Path.{sym, ap, ◌∙◌}
use Rattle.reader.specs.Internal.Ahead.{past_mark}
use Rattle.reader.proofs.items.token_after.Goals as goal

pub returns : goal.returns
unfolding past_mark
returns c =
    c.token_from.ensures ∙ sym (ap (past_mark c.args.sw c.args.text.now) (sym c.one_mark.ensures ∙ (ap told c.in_ok-stop.was)))

pub returns-in_err-stop : goal.returns-in_err-stop
unfolding past_mark
returns-in_err-stop c =
    let p = err_from_is_err_and c.from_residual.result c.from_residual.ensures.1 in rw (p.1, p.2) (sym (ap (past_mark c.args.sw c.args.text.now) (sym c.one_mark.ensures ∙ (ap told c.in_err-stop.was))))
