use Rattle.text.specs.Refusal.{told}
use mathlib.Core.Path.{sym, ap, ◌∙◌}
use Rattle.reader.specs.Internal.Ahead.{mark_is, only_at}
use Rattle.reader.proofs.StepRun.{ahead_token}
use Rattle.reader.proofs.ItemRun.{mark_at, mark_refused, item_last, item_lone, item_lone_not, item_value, item_none}
use Rattle.reader.proofs.items.next_element.Goals as goal

pub returns-then-is_mark : goal.returns-then-is_mark
returns-then-is_mark c =
    record { is = item_last c.args.sw c.args.text.now c.args.kind c.args.from _ _ _ _ (ahead_token c.args.sw c.args.text.now c.args.from _ c.requires.from_in_bounds (sym c.token_from.ensures ∙ (ap told c.in-Ok.is))) (ap (mark_is _) (sym c.closer_of-closer.ensures) ∙ sym c.is_mark.ensures ∙ c.if-is_mark.true) }

pub returns-in-Ok-one_mark : goal.returns-in-Ok-one_mark
returns-in-Ok-one_mark c =
    record { is = item_lone c.args.sw c.args.text.now c.args.kind c.args.from c.args.count _ _ _ (ahead_token c.args.sw c.args.text.now c.args.from _ c.requires.from_in_bounds (sym c.token_from.ensures ∙ (ap told c.in-Ok.is))) (ap (mark_is _) (sym c.closer_of-closer.ensures) ∙ sym c.is_mark.ensures ∙ c.if-is_mark.false) (sym c.opens_empty.ensures ∙ c.if-opens_empty.true) _ (mark_at (ahead_token c.args.sw c.args.text.now c.args.from _ c.requires.from_in_bounds (sym c.token_from.ensures ∙ (ap told c.in-Ok.is))).token.inside (ap told c.in-Ok-one_mark.is) (c.one_mark.ensures ∙ ap (only_at c.args.sw c.args.text.now c.in-Ok.token.span.stop) c.closer_of-closer.ensures)) }

pub returns-in-Err-one_mark : goal.returns-in-Err-one_mark
returns-in-Err-one_mark c =
    record { is = item_lone_not c.args.sw c.args.text.now c.args.kind c.args.from c.args.count _ _ _ (ahead_token c.args.sw c.args.text.now c.args.from _ c.requires.from_in_bounds (sym c.token_from.ensures ∙ (ap told c.in-Ok.is))) (ap (mark_is _) (sym c.closer_of-closer.ensures) ∙ sym c.is_mark.ensures ∙ c.if-is_mark.false) (sym c.opens_empty.ensures ∙ c.if-opens_empty.true) _ _ (mark_refused (ahead_token c.args.sw c.args.text.now c.args.from _ c.requires.from_in_bounds (sym c.token_from.ensures ∙ (ap told c.in-Ok.is))).token.inside (ap told c.in-Err-one_mark.is) (c.one_mark.ensures ∙ ap (only_at c.args.sw c.args.text.now c.in-Ok.token.span.stop) c.closer_of-closer.ensures)) }

pub returns-else-opens_empty : goal.returns-else-opens_empty
returns-else-opens_empty c =
    record { is = item_value c.args.sw c.args.text.now c.args.kind c.args.from c.args.count _ _ _ (ahead_token c.args.sw c.args.text.now c.args.from _ c.requires.from_in_bounds (sym c.token_from.ensures ∙ (ap told c.in-Ok.is))) c.requires.kind_value (ap (mark_is _) (sym c.closer_of-closer.ensures) ∙ sym c.is_mark.ensures ∙ c.if-is_mark.false) (sym c.opens_empty.ensures ∙ c.if-opens_empty.false) }

pub returns-in-Err : goal.returns-in-Err
returns-in-Err c =
    record { is = item_none c.args.sw c.args.text.now c.args.kind c.args.from _ _ (sym c.token_from.ensures ∙ (ap told c.in-Err.is)) }
