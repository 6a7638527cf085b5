use mathlib.Core.Path.{sym, ◌∙◌}
use borrow.Author.Tests.{eq-eqb, ne_eqb}
use Rattle.reader.proofs.items.opens_empty.Goals as goal

pub returns-then-is_mark : goal.returns-then-is_mark
returns-then-is_mark c = rw (eq-eqb _ _ c.if-count-eq0.true, sym c.is_mark.ensures ∙ c.if-is_mark.true) c.lone_comma.ensures

pub returns-then-count-eq0 : goal.returns-then-count-eq0
returns-then-count-eq0 c = rw (eq-eqb _ _ c.if-count-eq0.true, sym c.is_mark.ensures ∙ c.if-is_mark.false)

pub returns : goal.returns
returns c = rw (ne_eqb _ _ c.if-count-eq0.false)
