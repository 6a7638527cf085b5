use native.Mathlib.Omega.{arith}
use mathlib.Core.Path.{sym, ◌∙◌}
use Rattle.lexer.proofs.PartLaws.{keyed_by, no_key, part_is}
use Rattle.lexer.proofs.token.put_token.Goals as goal

pub slice_bounds-write_content-count : goal.slice_bounds-write_content-count
slice_bounds-write_content-count c =
    let i = part_is c.args.sw c.args.token.now c.part_of-part.result (keyed_by c.args.sw c.args.token.now (sym c.is_keyed.ensures ∙ c.if-not-is_keyed.false)) c.part_of-part.ensures in omega arith

pub slice_bounds-write_content-start : goal.slice_bounds-write_content-start
slice_bounds-write_content-start c =
    let i = part_is c.args.sw c.args.token.now c.part_of-part.result (keyed_by c.args.sw c.args.token.now (sym c.is_keyed.ensures ∙ c.if-not-is_keyed.false)) c.part_of-part.ensures in omega arith

pub slice_bounds-write_content-end : goal.slice_bounds-write_content-end
slice_bounds-write_content-end c =
    let i = part_is c.args.sw c.args.token.now c.part_of-part.result (keyed_by c.args.sw c.args.token.now (sym c.is_keyed.ensures ∙ c.if-not-is_keyed.false)) c.part_of-part.ensures in omega arith

pub returns-then-not-is_keyed : goal.returns-then-not-is_keyed
returns-then-not-is_keyed c = no_key _ _ (sym c.is_keyed.ensures ∙ c.if-not-is_keyed.true)
