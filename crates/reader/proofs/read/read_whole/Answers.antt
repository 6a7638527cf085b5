use Rattle.text.specs.Refusal.{told}
use Rattle.std.proofs.lemmas.Result.{err_from_is_err_and}
use native.Mathlib.Omega.{arith}
use mathlib.Core.Path.{refl, sym, ◌∙◌, ap}
use Prim.Native.Nat.{zero-le}
use Rattle.reader.proofs.StepRun.{ahead_token}
use Rattle.reader.proofs.BodyRun.{fresh_read, fresh_refused, fresh_ready}
use Rattle.reader.proofs.ReadRun.{whole_none, whole_refused, whole_is}
use Rattle.reader.proofs.read.read_whole.Goals as goal

pub fresh_due-due-requires : goal.fresh_due-due-requires
fresh_due-due-requires c =
    let P = (ahead_token c.args.rules.sw c.args.text.now 0 _ (omega arith) (sym c.token_from.ensures ∙ (ap told c.in_ok-token.was))) in
    (omega (arith, P.token.ordered, P.token.inside, c.requires.text_len_bound), record { start_low = zero-le; stop_low = zero-le })

pub read_value-requires : goal.read_value-requires
read_value-requires c =
    let P = (ahead_token c.args.rules.sw c.args.text.now 0 _ (omega arith) (sym c.token_from.ensures ∙ (ap told c.in_ok-token.was))) in
    record { ready = fresh_ready c.fresh_due-due.ensures c.requires.roomy zero-le (λ _. refl); token = P.token; text_len_bound = c.requires.text_len_bound }

pub shape_of-table-in_err-progress : goal.shape_of-table-in_err-progress
shape_of-table-in_err-progress c = c.read_value.auto.table

pub returns-in_err-progress : goal.returns-in_err-progress
returns-in_err-progress c =
    record { is = let p = err_from_is_err_and c.from_residual-in_err-progress.result c.from_residual-in_err-progress.ensures.1 in rw (p.1, p.2) (whole_refused c.args.rules.sw c.args.rules.limits c.args.any c.args.text.now _ _ _ (ahead_token c.args.rules.sw c.args.text.now 0 _ (omega arith) (sym c.token_from.ensures ∙ (ap told c.in_ok-token.was))) _ _ _ _ (fresh_refused c.fresh_due-due.ensures (ap told c.in_err-progress.was) c.read_value.ensures)) }

pub shape_of-table : goal.shape_of-table
shape_of-table c = c.read_value.auto.table

pub returns : goal.returns
returns c =
    record { is = whole_is c.args.rules.sw c.args.rules.limits c.args.any c.args.text.now _ _ _ (ahead_token c.args.rules.sw c.args.text.now 0 _ (omega arith) (sym c.token_from.ensures ∙ (ap told c.in_ok-token.was))) _ _ _ _ (fresh_read c.fresh_due-due.ensures (ap told c.in_ok-progress.was) c.read_value.ensures) _ c.only_value.ensures }

pub returns-in_err-token : goal.returns-in_err-token
returns-in_err-token c =
    record { is = let p = err_from_is_err_and c.from_residual.result c.from_residual.ensures.1 in rw (p.1, p.2) (whole_none c.args.rules.sw c.args.rules.limits c.args.any c.args.text.now _ (sym c.token_from.ensures ∙ (ap told c.in_err-token.was))) }
