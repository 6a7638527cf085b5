use native.Mathlib.Omega.{arith}
use mathlib.Core.Path.{sym, ap, ◌∙◌}
use Rattle.std.specs.declared.result.Result.TheVariants as W
use Rattle.reader.proofs.ContentLaws.{broken, decoded}
use Rattle.reader.proofs.content.token_content.Goals as goal

pub returns-then-valid_front-token : goal.returns-then-valid_front-token
returns-then-valid_front-token c =
    broken c.args.sw c.args.token.now c.args.out.now (λ e. omega arith)

pub returns-in-Ok : goal.returns-in-Ok
returns-in-Ok c =
    decoded c.args.sw c.args.token.now c.args.out.now _ _ (omega arith) (sym c.put_token.ensures.0 ∙ c.in-Ok.is) c.put_token.ensures.1

pub returns-in-Err-NoRoom : goal.returns-in-Err-NoRoom
returns-in-Err-NoRoom c =
    decoded c.args.sw c.args.token.now c.args.out.now _ _ (omega arith) (sym c.put_token.ensures.0 ∙ c.in-Err-NoRoom.is ∙ ap W.Err c.in-Err-NoRoom.field-0-is) c.put_token.ensures.1

pub returns-in-Err-NoContent : goal.returns-in-Err-NoContent
returns-in-Err-NoContent c =
    decoded c.args.sw c.args.token.now c.args.out.now _ _ (omega arith) (sym c.put_token.ensures.0 ∙ c.in-Err-NoContent.is ∙ ap W.Err c.in-Err-NoContent.field-0-is) c.put_token.ensures.1
