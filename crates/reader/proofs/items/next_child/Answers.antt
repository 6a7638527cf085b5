use Rattle.text.specs.Refusal.{told}
use mathlib.Core.Path.{◌∙◌, ap}
use Rattle.std.specs.Prelude.{Ok}
use Rattle.std.specs.Prelude.{Ok, Err}
use Rattle.reader.specs.declared.items.After.TheVariants as X
use Rattle.reader.specs.declared.items.Item.TheVariants as I
use Rattle.reader.proofs.ItemRun.{next_is, child_first, child_after, child_more}
use Rattle.reader.proofs.items.next_child.Goals as goal

pub next_item-requires : goal.next_item-requires
next_item-requires c = c.requires

pub returns-then-count-eq0 : goal.returns-then-count-eq0
returns-then-count-eq0 c =
    child_first c.args.sw c.args.text.now c.args.kind c.args.count c.args.from _ c.if-count-eq0.true c.next_item.ensures

pub next_item-requires-in-Ok-More : goal.next_item-requires-in-Ok-More
next_item-requires-in-Ok-More c = record { from_in_bounds = (next_is c.args.sw c.args.text.now c.args.kind c.args.from c.requires.from_in_bounds c.after_item.ensures (Ok (X.More _)) (ap told (c.in-Ok-More.is ∙ ap Ok c.in-Ok-More.field-0-is))).within; text_len_bound = c.requires.text_len_bound }

pub returns-in-Err : goal.returns-in-Err
returns-in-Err c =
    child_after c.args.sw c.args.text.now c.args.kind c.args.count c.args.from (I.Refused _) c.if-count-eq0.false (next_is c.args.sw c.args.text.now c.args.kind c.args.from c.requires.from_in_bounds c.after_item.ensures (Err _) (ap told c.in-Err.is))

pub returns-in-Ok-Over : goal.returns-in-Ok-Over
returns-in-Ok-Over c =
    child_after c.args.sw c.args.text.now c.args.kind c.args.count c.args.from (I.Last _) c.if-count-eq0.false (next_is c.args.sw c.args.text.now c.args.kind c.args.from c.requires.from_in_bounds c.after_item.ensures (Ok (X.Over _)) (ap told (c.in-Ok-Over.is ∙ ap Ok c.in-Ok-Over.field-0-is)))

pub returns-in-Ok-More : goal.returns-in-Ok-More
returns-in-Ok-More c =
    child_more c.if-count-eq0.false (next_is c.args.sw c.args.text.now c.args.kind c.args.from c.requires.from_in_bounds c.after_item.ensures (Ok (X.More _)) (ap told (c.in-Ok-More.is ∙ ap Ok c.in-Ok-More.field-0-is))) c.next_item-in-Ok-More.ensures
