use native.Mathlib.Omega.{arith}
use mathlib.Core.Path.{sym, ◌∙◌}
use Rattle.lexer.proofs.PartLaws.{keyed_by, part_is}
use Rattle.vectors.proofs.keys.answer.Goals as goal

pub slice_bounds-content_is-count : goal.slice_bounds-content_is-count
slice_bounds-content_is-count c = let p = part_is _ _ _ (keyed_by _ c.args.b.now (sym c.is_keyed-else-not-is_keyed.ensures ∙ c.if-not-is_keyed-2.false)) c.part_of-part.ensures in let f = p.forward in omega arith

pub slice_bounds-content_is-start : goal.slice_bounds-content_is-start
slice_bounds-content_is-start c = let p = part_is _ _ _ (keyed_by _ c.args.b.now (sym c.is_keyed-else-not-is_keyed.ensures ∙ c.if-not-is_keyed-2.false)) c.part_of-part.ensures in let f = p.forward in let i = p.inside in omega arith

pub slice_bounds-content_is-end : goal.slice_bounds-content_is-end
slice_bounds-content_is-end c = let p = part_is _ _ _ (keyed_by _ c.args.b.now (sym c.is_keyed-else-not-is_keyed.ensures ∙ c.if-not-is_keyed-2.false)) c.part_of-part.ensures in let f = p.forward in let i = p.inside in omega arith

pub content_is-requires : goal.content_is-requires
content_is-requires c = keyed_by _ c.args.a.now (sym c.is_keyed.ensures ∙ c.if-not-is_keyed.false)
