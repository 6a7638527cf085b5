use Rattle.text.specs.Refusal.{told}
use Rattle.std.proofs.lemmas.Result.{err_from_is_err_and}
use mathlib.Core.Path.{sym, ap, ◌∙◌}
use Rattle.std.specs.Prelude.{Err}
use Rattle.reader.specs.Internal.Ahead.{only_of}
use Rattle.reader.proofs.items.one_mark.Goals as goal

pub returns-then-is_mark : goal.returns-then-is_mark
unfolding only_of
returns-then-is_mark c = rw (sym c.token_from.ensures ∙ (ap told c.in_ok-token.was), sym c.is_mark.ensures ∙ c.if-is_mark.true)

pub returns : goal.returns
unfolding only_of
returns c = rw (sym c.token_from.ensures ∙ (ap told c.in_ok-token.was), sym c.is_mark.ensures ∙ c.if-is_mark.false) (ap Err c.unexpected.ensures)

pub returns-in_err-token : goal.returns-in_err-token
unfolding only_of
returns-in_err-token c = let p = err_from_is_err_and c.from_residual.result c.from_residual.ensures.1 in rw (p.1, p.2) (sym (ap (only_of c.args.want) (sym c.token_from.ensures ∙ (ap told c.in_err-token.was))))
