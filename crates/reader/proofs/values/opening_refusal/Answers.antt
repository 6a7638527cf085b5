use native.Mathlib.Omega.{arith}
use mathlib.Core.Path.{sym, ◌∙◌}
use borrow.Author.Tests.{le-leb, lt-leb}
use Rattle.reader.proofs.values.opening_refusal.Goals as goal

pub returns-then-limits-due : goal.returns-then-limits-due
returns-then-limits-due c =
    rw (le-leb c.args.limits.depth c.args.due.spot.depth (omega arith))

pub returns-then-is_full : goal.returns-then-is_full
returns-then-is_full c =
    rw (lt-leb c.args.limits.depth c.args.due.spot.depth (omega arith), sym c.is_full.ensures ∙ c.if-is_full.true)

pub returns : goal.returns
returns c =
    rw (lt-leb c.args.limits.depth c.args.due.spot.depth (omega arith), sym c.is_full.ensures ∙ c.if-is_full.false)
