use Rattle.text.specs.Refusal.{told}
use Rattle.std.proofs.lemmas.Result.{err_from_is_err_and}
use mathlib.Core.Path.{sym, ap, ◌∙◌}
use Rattle.std.specs.Prelude.{Err}
use Rattle.reader.specs.Internal.Ahead.{mark_is, follows_by}
use Rattle.reader.proofs.items.after_item.Goals as goal

pub returns-then-is_mark : goal.returns-then-is_mark
unfolding follows_by
returns-then-is_mark c = rw (sym c.token_from.ensures ∙ (ap told c.in_ok-token.was), ap (mark_is _) (sym c.closer_of-closer.ensures) ∙ sym c.is_mark.ensures ∙ c.if-is_mark.true)

pub returns-then-is_mark-2 : goal.returns-then-is_mark-2
unfolding follows_by
returns-then-is_mark-2 c = rw (sym c.token_from.ensures ∙ (ap told c.in_ok-token.was), ap (mark_is _) (sym c.closer_of-closer.ensures) ∙ sym c.is_mark.ensures ∙ c.if-is_mark.false, sym c.is_mark-2.ensures ∙ c.if-is_mark-2.true)

pub returns : goal.returns
unfolding follows_by
returns c = rw (sym c.token_from.ensures ∙ (ap told c.in_ok-token.was), ap (mark_is _) (sym c.closer_of-closer.ensures) ∙ sym c.is_mark.ensures ∙ c.if-is_mark.false, sym c.is_mark-2.ensures ∙ c.if-is_mark-2.false) (ap Err c.unexpected.ensures)

pub returns-in_err-token : goal.returns-in_err-token
unfolding follows_by
returns-in_err-token c = let p = err_from_is_err_and c.from_residual.result c.from_residual.ensures.1 in rw (p.1, p.2) (sym (ap (follows_by c.args.kind) (sym c.token_from.ensures ∙ (ap told c.in_err-token.was))))
