use native.Mathlib.Omega.{arith}
use mathlib.Core.Path.{sym, ◌∙◌}
use Rattle.nodes.proofs.ContentLaws.{keyed, token_broken, token_none, token_compared}
use Rattle.nodes.proofs.contents.token_content_is.Goals as goal

pub returns-then-valid_front-token : goal.returns-then-valid_front-token
returns-then-valid_front-token c =
    token_broken c.args.sw c.args.token.now c.args.bytes.now (λ e. omega arith)

pub content_is-requires : goal.content_is-requires
content_is-requires c =
    keyed c.args.sw c.args.token.now (sym c.is_keyed.ensures ∙ c.if-is_keyed.true)

pub returns-then-is_keyed : goal.returns-then-is_keyed
returns-then-is_keyed c =
    token_compared c.args.sw c.args.token.now c.args.bytes.now _ (omega arith) c.content_is.ensures

pub returns : goal.returns
returns c =
    token_none c.args.sw c.args.token.now c.args.bytes.now (omega arith) (sym c.is_keyed.ensures ∙ c.if-is_keyed.false)
