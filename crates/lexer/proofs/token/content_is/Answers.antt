use native.Mathlib.Omega.{arith}
use Rattle.lexer.proofs.PartLaws.{part_is}
use Rattle.lexer.proofs.token.content_is.Goals as goal

pub slice_bounds-same_content-count : goal.slice_bounds-same_content-count
slice_bounds-same_content-count c =
    let i = part_is c.args.sw c.args.token.now c.part_of-part.result c.requires c.part_of-part.ensures in omega arith

pub slice_bounds-same_content-start : goal.slice_bounds-same_content-start
slice_bounds-same_content-start c =
    let i = part_is c.args.sw c.args.token.now c.part_of-part.result c.requires c.part_of-part.ensures in omega arith

pub slice_bounds-same_content-end : goal.slice_bounds-same_content-end
slice_bounds-same_content-end c =
    let i = part_is c.args.sw c.args.token.now c.part_of-part.result c.requires c.part_of-part.ensures in omega arith
