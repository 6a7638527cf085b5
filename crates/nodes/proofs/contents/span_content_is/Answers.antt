use native.Mathlib.Omega.{arith}
use mathlib.Core.Path.{◌∙◌}
use Rattle.nodes.proofs.ContentLaws.{backwards, past, long, spanned}
use Rattle.nodes.proofs.contents.span_content_is.Goals as goal

pub returns-then-stop-start : goal.returns-then-stop-start
returns-then-stop-start c =
    backwards c.args.sw c.args.text.now c.args.start c.args.stop c.args.bytes.now (omega arith)

pub returns-then-text-stop : goal.returns-then-text-stop
returns-then-text-stop c =
    past c.args.sw c.args.text.now c.args.start c.args.stop c.args.bytes.now (omega arith) (omega arith)

pub returns-then-stop-start-gt-MAX_TEXT : goal.returns-then-stop-start-gt-MAX_TEXT
returns-then-stop-start-gt-MAX_TEXT c =
    long c.args.sw c.args.text.now c.args.start c.args.stop c.args.bytes.now (omega arith) (omega arith) (omega arith)

pub returns : goal.returns
returns c =
    c.token_content_is.ensures ∙ spanned c.args.sw c.args.text.now c.args.start c.args.stop c.args.bytes.now (omega arith) (omega arith) (omega arith)
