use native.Mathlib.Omega.{arith}
use Rattle.reader.proofs.ContentLaws.{backwards, past, long, spanned}
use Rattle.reader.proofs.content.content_edition.Goals as goal

pub returns-then-end-start : goal.returns-then-end-start
returns-then-end-start c =
    backwards c.args.sw c.args.start c.args.end c.args.text.now c.args.out.now (omega arith)

pub returns-then-text-end : goal.returns-then-text-end
returns-then-text-end c =
    past c.args.sw c.args.start c.args.end c.args.text.now c.args.out.now (omega arith) (omega arith)

pub returns-then-end-start-gt-MAX_TEXT : goal.returns-then-end-start-gt-MAX_TEXT
returns-then-end-start-gt-MAX_TEXT c =
    long c.args.sw c.args.start c.args.end c.args.text.now c.args.out.now (omega arith) (omega arith) (omega arith)

pub returns : goal.returns
returns c =
    rw (spanned c.args.sw c.args.start c.args.end c.args.text.now c.args.out.now (omega arith) (omega arith) (omega arith)) c.token_content.ensures
