use native.Mathlib.Omega.{arith}
use mathlib.Core.Path.{◌∙◌}
use Rattle.lexer.proofs.PartLaws.{part_content}
use Rattle.reader.proofs.KeyWalk.{keyed, key_part}
use Rattle.reader.proofs.keys.ObjectKeys.copy.Goals as goal

pub slice_bounds-token-count : goal.slice_bounds-token-count
slice_bounds-token-count c = let o = c.requires.key_here.key.ordered in omega arith

pub slice_bounds-token-start : goal.slice_bounds-token-start
slice_bounds-token-start c =
    let o = c.requires.key_here.key.ordered in let i = c.requires.key_here.key.inside in omega arith

pub slice_bounds-token-end : goal.slice_bounds-token-end
slice_bounds-token-end c =
    let o = c.requires.key_here.key.ordered in let i = c.requires.key_here.key.inside in omega arith

pub slice_bounds-own-count : goal.slice_bounds-own-count
slice_bounds-own-count c = let p = key_part _ _ _ _ _ c.requires.key_here.key _ c.part_of-part.ensures in let f = p.forward in omega arith

pub slice_bounds-own-start : goal.slice_bounds-own-start
slice_bounds-own-start c = let p = key_part _ _ _ _ _ c.requires.key_here.key _ c.part_of-part.ensures in let f = p.forward in let i = p.inside in omega arith

pub slice_bounds-own-end : goal.slice_bounds-own-end
slice_bounds-own-end c = let p = key_part _ _ _ _ _ c.requires.key_here.key _ c.part_of-part.ensures in let f = p.forward in let i = p.inside in omega arith

pub copy_content-requires : goal.copy_content-requires
copy_content-requires c = c.requires.at_in_bounds

pub shape_of-out : goal.shape_of-out
shape_of-out c = c.copy_content.auto.out

pub returns : goal.returns
returns c =
    record { is = λ w k. c.copy_content.ensures.is w (part_content _ _ _ _ _ (keyed _ _ _ _ _ c.requires.key_here.key) (key_part _ _ _ _ _ c.requires.key_here.key _ c.part_of-part.ensures).holds ∙ k.holds) }
