use Rattle.text.specs.Refusal.{told}
use Rattle.std.specs.Prelude.{Some}
use Rattle.std.specs.Prelude.{Some, None}
use native.Mathlib.Omega.{arith}
use mathlib.Core.Path.{ap, sym, ◌∙◌}
use mathlib.Core.List.{[]}
use Prim.Native.Nat.{◌+◌, ◌*◌, ◌-◌}
use lib.ListN.{length}
use borrow.Author.Tests.{not-true, not-false}
use Rattle.reader.specs.declared.tree.Begin.TheVariants as Z
use Rattle.reader.specs.Tree.{nil}
use Rattle.reader.proofs.StepRun.{past_token}
use Rattle.reader.proofs.ItemRun.{mark_at, mark_refused}
use Rattle.reader.proofs.BodyRun.{read_is, value_refused, due_as, begins_as, value_is, last_is, item_refused, item_refused_after, fresh_read, fresh_refused, fresh_ready, body_value, body_last, body_keys, body_child_keys, body_item_refused, body_field_refused, body_child_refused, body_ended, may_open_law, open_node, open_refused, no_children_first, body_start}
use Rattle.reader.proofs.ValueRun.{begun_as, leaf_read, nothing_refused, named_ready, name_twice, name_full, name_not, name_refused, name_shut_not, name_read}
use Prim.Native.Nat.{◌<◌}
use Rattle.text.proofs.RefusalLaws.{number_positive}
use Rattle.reader.specs.Internal.Values.{number_or_0}
use Rattle.reader.proofs.values.+value.Goals as goal

pub read_container-returns-in-Some : goal.read_container-returns-in-Some
read_container-returns-in-Some t c =
    let p = number_positive c.in-Some.reason in
    open_refused c.args.rules c.args.text.now c.args.due c.args.bracket c.args.kind _ (sym (ap number_or_0 c.in-Some.is) ∙ c.opening_refusal.ensures) (λ z. omega arith)

pub read_container-overflow_add-spot : goal.read_container-overflow_add-spot
read_container-overflow_add-spot t c =
    let w = open_node (may_open_law c.opening_refusal.ensures (ap number_or_0 c.in_default.is)) c.requires.ready in omega (arith, c.requires.ready.table.small)

pub read_container-next_child-item-requires : goal.read_container-next_child-item-requires
read_container-next_child-item-requires t c = record { from_in_bounds = c.requires.placed.inside; text_len_bound = c.requires.placed.short }

pub read_container-loop-item-init : goal.read_container-loop-item-init
read_container-loop-item-init t c =
    (nil, [], no_children_first c.no_children-children.ensures, body_start c.args.rules c.args.text.now c.args.due c.args.bracket c.args.kind _ c.no_children-children.ensures (may_open_law c.opening_refusal.ensures (ap number_or_0 c.in_default.is)) c.requires.ready c.requires.placed, c.next_child-item.ensures)

pub read_container-late_refusal-late-requires : goal.read_container-late_refusal-late-requires
read_container-late_refusal-late-requires t c =
    body_keys c.loop-item.invariant.2 c.requires.ready.table.small c.loop-item.invariant.3

pub read_container-shape_of-table-in-Refused : goal.read_container-shape_of-table-in-Refused
read_container-shape_of-table-in-Refused t c = c.loop-item.invariant.3.long

pub read_container-returns-in-Refused : goal.read_container-returns-in-Refused
read_container-returns-in-Refused t c =
    record { is = body_item_refused c.loop-item.invariant.2 c.loop-item.invariant.3 (item_refused c.in-Refused.is c.loop-item.invariant.4) c.late_refusal-late.ensures }

pub read_container-late_after-late-requires : goal.read_container-late_after-late-requires
read_container-late_after-late-requires t c = record { keys = body_keys c.loop-item.invariant.2 c.requires.ready.table.small c.loop-item.invariant.3; key_in = let F = item_refused_after c.in-RefusedAfter.is c.loop-item.invariant.4 in record { here = λ e. record { content = F.content; key = F.key } } }

pub read_container-shape_of-table-in-RefusedAfter : goal.read_container-shape_of-table-in-RefusedAfter
read_container-shape_of-table-in-RefusedAfter t c = c.loop-item.invariant.3.long

pub read_container-returns-in-RefusedAfter : goal.read_container-returns-in-RefusedAfter
read_container-returns-in-RefusedAfter t c =
    record { is = body_field_refused c.loop-item.invariant.2 c.loop-item.invariant.3 (item_refused_after c.in-RefusedAfter.is c.loop-item.invariant.4) c.late_after-late.ensures }

pub read_container-put_branch-requires : goal.read_container-put_branch-requires
read_container-put_branch-requires t c =
    let L = last_is c.in-Last.is c.loop-item.invariant.4 in record { keys = body_keys c.loop-item.invariant.2 c.requires.ready.table.small c.loop-item.invariant.3; row_room = record { row = omega (arith, c.loop-item.invariant.3.grew, c.loop-item.invariant.3.below, c.loop-item.invariant.3.room, c.loop-item.invariant.3.long); stop_low = omega (arith, L.inside, c.requires.placed.short); next_low = omega (arith, c.loop-item.invariant.3.below, c.requires.ready.table.small) }; count_le_next = omega (arith, c.loop-item.invariant.3.few) }

pub read_container-shape_of-table-in-Last : goal.read_container-shape_of-table-in-Last
read_container-shape_of-table-in-Last t c = c.put_branch.auto.table ∙ c.loop-item.invariant.3.long

pub read_container-returns-in-Last : goal.read_container-returns-in-Last
read_container-returns-in-Last t c =
    body_ended c.requires.ready.label c.loop-item.invariant.2 (body_last c.loop-item.invariant.3 (last_is c.in-Last.is c.loop-item.invariant.4)) c.put_branch.ensures

pub read_container-child_due-child-requires : goal.read_container-child_due-child-requires
read_container-child_due-child-requires t c = let o = may_open_law {limits = c.args.rules.limits} {due = c.args.due} c.opening_refusal.ensures (ap number_or_0 c.in_default.is) in let w = open_node o c.requires.ready in let I = value_is c.in-Value.is c.loop-item.invariant.4 in
    record { depth_bound = (omega (arith, o.shallow, c.well_formed.0), omega (arith, c.requires.ready.table.small)); start_le_max_text = (omega (arith, I.token.ordered, I.token.inside, c.requires.placed.short), record { start_low = I.short.0; stop_low = I.short.1 }) }

pub read_container-read_value-requires : goal.read_container-read_value-requires
read_container-read_value-requires t c =
    let I = value_is c.in-Value.is c.loop-item.invariant.4 in
    let g : 2 * (length c.args.text.now - c.in-Value.token.span.start) + 1 < t = omega (arith, c.decreases, I.ahead, I.token.ordered, I.token.inside, c.loop-item.invariant.3.ahead) in (g, (fresh_ready c.child_due-child.ensures (record { room = omega (arith, c.loop-item.invariant.3.room, c.loop-item.invariant.3.long); small = c.requires.ready.table.small }) c.loop-item.invariant.3.below I.apart, (I.token, c.requires.placed.short)))

pub read_container-late_after-late-requires-in-Err : goal.read_container-late_after-late-requires-in-Err
read_container-late_after-late-requires-in-Err t c = record { keys = body_child_keys c.loop-item.invariant.2 c.requires.ready.table.small c.loop-item.invariant.3 (fresh_refused c.child_due-child.ensures (ap told c.in-Err.is) c.read_value.ensures) c.read_value.auto.table; key_in = record { here = λ e. record { content = (value_is c.in-Value.is c.loop-item.invariant.4).content; key = (value_is c.in-Value.is c.loop-item.invariant.4).key e } } }

pub read_container-shape_of-table-in-Err : goal.read_container-shape_of-table-in-Err
read_container-shape_of-table-in-Err t c = c.read_value.auto.table ∙ c.loop-item.invariant.3.long

pub read_container-returns-in-Err : goal.read_container-returns-in-Err
read_container-returns-in-Err t c =
    record { is = body_child_refused c.loop-item.invariant.2 c.loop-item.invariant.3 (value_is c.in-Value.is c.loop-item.invariant.4) (fresh_refused c.child_due-child.ensures (ap told c.in-Err.is) c.read_value.ensures) c.read_value.auto.table c.late_after-late-in-Err.ensures }

pub read_container-overflow_add-children : goal.read_container-overflow_add-children
read_container-overflow_add-children t c = omega (arith, c.loop-item.invariant.3.few, c.loop-item.invariant.3.below, c.requires.ready.table.small)

pub read_container-next_child-item-requires-in-Ok : goal.read_container-next_child-item-requires-in-Ok
read_container-next_child-item-requires-in-Ok t c = record { from_in_bounds = (body_value c.loop-item.invariant.3 (value_is c.in-Value.is c.loop-item.invariant.4) (fresh_read c.child_due-child.ensures (ap told c.in-Ok.is) c.read_value.ensures) c.read_value.auto.table).inside; text_len_bound = c.requires.placed.short }

pub read_container-loop-item-smaller : goal.read_container-loop-item-smaller
read_container-loop-item-smaller t c = let T = fresh_read c.child_due-child.ensures (ap told c.in-Ok.is) c.read_value.ensures in let I = value_is c.in-Value.is c.loop-item.invariant.4 in omega (arith, T.ahead, I.ahead, T.inside)

pub read_container-loop-item-preserved : goal.read_container-loop-item-preserved
read_container-loop-item-preserved t c =
    (_, _, c.loop-item.invariant.2, body_value c.loop-item.invariant.3 (value_is c.in-Value.is c.loop-item.invariant.4) (fresh_read c.child_due-child.ensures (ap told c.in-Ok.is) c.read_value.ensures) c.read_value.auto.table, c.next_child-item-in-Ok.ensures)

pub read_identifier-returns-then-not-due : goal.read_identifier-returns-then-not-due
read_identifier-returns-then-not-due t c =
    record { is = name_twice _ _ _ _ _ c.args.due.fresh c.args.due.any _ _ _ _ (not-true _ c.if-not-due.true) }

pub read_identifier-returns-then-rules-due : goal.read_identifier-returns-then-rules-due
read_identifier-returns-then-rules-due t c =
    record { is = name_full c.args.rules.sw c.args.rules.limits c.args.text.now c.args.name.start c.args.name.stop c.args.due.fresh c.args.due.any c.args.due.label c.args.due.spot.node c.args.due.spot.depth (not-false c.args.due.fresh c.if-not-due.false) c.if-rules-due.true _ }

pub read_identifier-named_due-inner-requires : goal.read_identifier-named_due-inner-requires
read_identifier-named_due-inner-requires t c =
    record { start_low = omega (arith, c.requires.placed.ordered, c.requires.placed.inside, c.requires.placed.short); stop_low = omega (arith, c.requires.placed.inside, c.requires.placed.short) }

pub read_identifier-read_value-requires : goal.read_identifier-read_value-requires
read_identifier-read_value-requires t c =
    let P = past_token c.args.rules.sw c.args.text.now c.args.name.stop 40 c.requires.placed.inside _ (sym c.token_after.ensures ∙ (ap told c.in-Ok.is)) in
    let g : 2 * (length c.args.text.now - c.in-Ok.token.span.start) + 1 < t = omega (arith, c.decreases, P.mark.ahead, P.mark.some, P.token.ahead, P.token.token.ordered, P.token.token.inside, c.requires.placed.ordered) in (g, (named_ready c.named_due-inner.ensures c.requires.ready c.requires.placed c.if-rules-due.false, (P.token.token, c.requires.placed.short)))

pub read_identifier-overflow_cast-stop : goal.read_identifier-overflow_cast-stop
read_identifier-overflow_cast-stop t c = let Q = mark_at (read_is (ap told c.in-Ok-read_value.is) (due_as c.named_due-inner.ensures c.read_value.ensures)).inside (ap told c.in-Ok-one_mark.is) c.one_mark.ensures in omega (arith, Q.inside, c.requires.placed.short)

pub read_identifier-put_stop-requires : goal.read_identifier-put_stop-requires
read_identifier-put_stop-requires t c = omega (arith, c.read_value.auto.table, c.if-rules-due.false, c.requires.ready.table.room)

pub read_identifier-returns-in-Err : goal.read_identifier-returns-in-Err
read_identifier-returns-in-Err t c =
    record { is = (name_not c.args.rules.sw c.args.rules.limits c.args.text.now c.args.name.start c.args.name.stop c.args.due.fresh c.args.due.any c.args.due.label c.args.due.spot.node c.args.due.spot.depth (not-false c.args.due.fresh c.if-not-due.false) c.if-rules-due.false c.requires.placed.ordered _ _ c.requires.placed.inside (sym c.token_after.ensures ∙ (ap told c.in-Err.is))) }

pub read_identifier-shape_of-table-in-Err-read_value : goal.read_identifier-shape_of-table-in-Err-read_value
read_identifier-shape_of-table-in-Err-read_value t c = c.read_value.auto.table

pub read_identifier-returns-in-Err-read_value : goal.read_identifier-returns-in-Err-read_value
read_identifier-returns-in-Err-read_value t c =
    record { is = (name_refused c.args.rules.sw c.args.rules.limits c.args.text.now c.args.name.start c.args.name.stop c.args.due.fresh c.args.due.any c.args.due.label c.args.due.spot.node c.args.due.spot.depth (not-false c.args.due.fresh c.if-not-due.false) c.if-rules-due.false c.requires.placed.ordered _ (past_token c.args.rules.sw c.args.text.now c.args.name.stop 40 c.requires.placed.inside _ (sym c.token_after.ensures ∙ (ap told c.in-Ok.is))) _ _ _ _ (value_refused (ap told c.in-Err-read_value.is) (due_as c.named_due-inner.ensures c.read_value.ensures))) }

pub read_identifier-shape_of-table-in-Err-one_mark : goal.read_identifier-shape_of-table-in-Err-one_mark
read_identifier-shape_of-table-in-Err-one_mark t c = c.read_value.auto.table

pub read_identifier-returns-in-Err-one_mark : goal.read_identifier-returns-in-Err-one_mark
read_identifier-returns-in-Err-one_mark t c =
    record { is = (name_shut_not c.args.rules.sw c.args.rules.limits c.args.text.now c.args.name.start c.args.name.stop c.args.due.fresh c.args.due.any c.args.due.label c.args.due.spot.node c.args.due.spot.depth (not-false c.args.due.fresh c.if-not-due.false) c.if-rules-due.false c.requires.placed.ordered _ (past_token c.args.rules.sw c.args.text.now c.args.name.stop 40 c.requires.placed.inside _ (sym c.token_after.ensures ∙ (ap told c.in-Ok.is))) _ _ _ _ _ (read_is (ap told c.in-Ok-read_value.is) (due_as c.named_due-inner.ensures c.read_value.ensures)) _ _ (mark_refused (read_is (ap told c.in-Ok-read_value.is) (due_as c.named_due-inner.ensures c.read_value.ensures)).inside (ap told c.in-Err-one_mark.is) c.one_mark.ensures)) }

pub read_identifier-shape_of-table-in-Ok-one_mark : goal.read_identifier-shape_of-table-in-Ok-one_mark
read_identifier-shape_of-table-in-Ok-one_mark t c = c.put_stop.auto.table ∙ c.read_value.auto.table

pub read_identifier-returns-in-Ok-one_mark : goal.read_identifier-returns-in-Ok-one_mark
read_identifier-returns-in-Ok-one_mark t c =
    record { is = name_read c.args.rules.sw c.args.rules.limits c.args.text.now c.args.name.start c.args.name.stop c.args.due.fresh c.args.due.any c.args.due.label c.args.due.spot.node c.args.due.spot.depth (not-false c.args.due.fresh c.if-not-due.false) c.if-rules-due.false c.requires.placed.ordered _ (past_token c.args.rules.sw c.args.text.now c.args.name.stop 40 c.requires.placed.inside _ (sym c.token_after.ensures ∙ (ap told c.in-Ok.is))) _ _ _ _ _ (read_is (ap told c.in-Ok-read_value.is) (due_as c.named_due-inner.ensures c.read_value.ensures)) (c.requires.ready.unnamed (not-false c.args.due.fresh c.if-not-due.false)) _ (mark_at (read_is (ap told c.in-Ok-read_value.is) (due_as c.named_due-inner.ensures c.read_value.ensures)).inside (ap told c.in-Ok-one_mark.is) c.one_mark.ensures) _ c.put_stop.ensures }

pub read_value-begin_of-requires : goal.read_value-begin_of-requires
read_value-begin_of-requires t c = record { token_here = record { sw = c.args.rules.sw; token = c.requires.token }; text_len_bound = c.requires.text_len_bound }

pub read_value-read_container-requires : goal.read_value-read_container-requires
read_value-read_container-requires t c = (omega arith, (c.requires.ready, record { ordered = c.requires.token.ordered; inside = c.requires.token.inside; short = c.requires.text_len_bound }))

pub read_value-put_leaf-requires : goal.read_value-put_leaf-requires
read_value-put_leaf-requires t c = record { ready = c.requires.ready; stop_le_max_text = omega (arith, c.requires.token.inside, c.requires.text_len_bound) }

pub read_value-read_identifier-requires : goal.read_value-read_identifier-requires
read_value-read_identifier-requires t c = (omega arith, (c.requires.ready, record { ordered = c.requires.token.ordered; inside = c.requires.token.inside; short = c.requires.text_len_bound }))

pub read_value-shape_of-table-in-Some-Container : goal.read_value-shape_of-table-in-Some-Container
read_value-shape_of-table-in-Some-Container t c = c.read_container.auto.table

pub read_value-returns-in-Some-Container : goal.read_value-returns-in-Some-Container
read_value-returns-in-Some-Container t c = begins_as (begun_as (Some (Z.Container _)) (c.in-Some-Container.is ∙ ap Some c.in-Some-Container.field-0-is) (c.begin_of.ensures.is _ c.requires.token)) c.read_container.ensures

pub read_value-shape_of-table-in-Some-Scalar : goal.read_value-shape_of-table-in-Some-Scalar
read_value-shape_of-table-in-Some-Scalar t c = c.put_leaf.auto.table

pub read_value-returns-in-Some-Scalar : goal.read_value-returns-in-Some-Scalar
read_value-returns-in-Some-Scalar t c =
    leaf_read c.requires.ready (record { ordered = c.requires.token.ordered; inside = c.requires.token.inside; short = c.requires.text_len_bound }) (begun_as (Some (Z.Scalar _)) (c.in-Some-Scalar.is ∙ ap Some c.in-Some-Scalar.field-0-is) (c.begin_of.ensures.is _ c.requires.token)) c.put_leaf.ensures.value c.put_leaf.ensures.table_after

pub read_value-shape_of-table-in-Some-Identifier : goal.read_value-shape_of-table-in-Some-Identifier
read_value-shape_of-table-in-Some-Identifier t c = c.read_identifier.auto.table

pub read_value-returns-in-Some-Identifier : goal.read_value-returns-in-Some-Identifier
read_value-returns-in-Some-Identifier t c = begins_as (begun_as (Some Z.Identifier) (c.in-Some-Identifier.is ∙ ap Some c.in-Some-Identifier.field-0-is) (c.begin_of.ensures.is _ c.requires.token)) c.read_identifier.ensures

pub read_value-returns-in-None : goal.read_value-returns-in-None
read_value-returns-in-None t c =
    record { is = nothing_refused _ _ _ _ _ c.args.due.fresh c.args.due.any _ _ _ _ _ (begun_as None c.in-None.is (c.begin_of.ensures.is _ c.requires.token)) }
