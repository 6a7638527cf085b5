use Rattle.text.specs.Refusal.{Refusal, told}
use Rattle.std.specs.Prelude.{Ok, Err}
use mathlib.Core.Path.{sym, ◌∙◌, ap}
use Rattle.reader.specs.declared.tree.Kind.TheVariants.{Object}
use Rattle.reader.proofs.StepRun.{ahead_token}
use Rattle.reader.proofs.ItemRun.{item_last, item_none, field_not, field_value, field_refused, after_is}
use Rattle.reader.proofs.items.next_field.Goals as goal

pub returns-then-is_mark : goal.returns-then-is_mark
returns-then-is_mark c =
    record { is = λ z. item_last c.args.sw c.args.text.now Object c.args.from _ _ _ _ (ahead_token c.args.sw c.args.text.now c.args.from _ c.requires.from_in_bounds (sym c.token_from.ensures ∙ (ap told c.in-Ok.is))) (sym c.is_mark.ensures ∙ c.if-is_mark.true) }

pub returns-in-Ok-token_after : goal.returns-in-Ok-token_after
returns-in-Ok-token_after c =
    record { is = λ z. field_value c.args.sw c.args.text.now c.args.from _ _ _ (ahead_token c.args.sw c.args.text.now c.args.from _ c.requires.from_in_bounds (sym c.token_from.ensures ∙ (ap told c.in-Ok.is))) (sym c.is_mark.ensures ∙ c.if-is_mark.false) (sym c.is_key.ensures ∙ c.if-is_key.true) c.requires.text_len_bound z _ (after_is c.args.sw c.args.text.now c.in-Ok.token.span (ahead_token c.args.sw c.args.text.now c.args.from _ c.requires.from_in_bounds (sym c.token_from.ensures ∙ (ap told c.in-Ok.is))).token.inside c.token_after.ensures (Ok _) (ap told c.in-Ok-token_after.is)) }

pub returns-in-Err-token_after : goal.returns-in-Err-token_after
returns-in-Err-token_after c =
    record { is = λ z. field_refused c.args.sw c.args.text.now c.args.from _ _ _ (ahead_token c.args.sw c.args.text.now c.args.from _ c.requires.from_in_bounds (sym c.token_from.ensures ∙ (ap told c.in-Ok.is))) (sym c.is_mark.ensures ∙ c.if-is_mark.false) (sym c.is_key.ensures ∙ c.if-is_key.true) z _ (after_is c.args.sw c.args.text.now c.in-Ok.token.span (ahead_token c.args.sw c.args.text.now c.args.from _ c.requires.from_in_bounds (sym c.token_from.ensures ∙ (ap told c.in-Ok.is))).token.inside c.token_after.ensures (Err _) (ap told c.in-Err-token_after.is)) }

pub returns-else-is_key : goal.returns-else-is_key
returns-else-is_key c =
    record { is = λ z. let n = ap (λ (f : Refusal). f.number) c.unexpected.ensures in let p = ap (λ (f : Refusal). f.place) c.unexpected.ensures in rw (n, p) (field_not c.args.sw c.args.text.now c.args.from _ _ _ (ahead_token c.args.sw c.args.text.now c.args.from _ c.requires.from_in_bounds (sym c.token_from.ensures ∙ (ap told c.in-Ok.is))) (sym c.is_mark.ensures ∙ c.if-is_mark.false) (sym c.is_key.ensures ∙ c.if-is_key.false) z) }

pub returns-in-Err : goal.returns-in-Err
returns-in-Err c =
    record { is = λ z. item_none c.args.sw c.args.text.now Object c.args.from _ _ (sym c.token_from.ensures ∙ (ap told c.in-Err.is)) }
