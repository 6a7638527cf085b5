use mathlib.Core.Path.{◌≡◌, ap, ◌∙◌}
use mathlib.Core.Bool.{cond}
use mir.Facts.{to_z-of_z}
use Rattle.reader.specs.Tree.{plus1000}
use Rattle.reader.proofs.BeginLaws.{decimal_words}
use Rattle.reader.proofs.begin.decimal_leaf.Goals as goal
use Rattle.reader.proofs.begin.decimal_leaf.Goals.{then-minus, else-minus}

pub power_word-requires : goal.power_word-requires
power_word-requires c = rw (to_z-of_z c.ranges.p) (c.requires.least, c.requires.greatest)

pub returns : goal.returns
returns c =
    let s : c.if-minus.sign ≡ cond c.args.minus 2147483648 0 =
    elim c.if-minus.branch [ then-minus w ↦ rw w.if-minus.true w.sign-is | else-minus w ↦ rw w.if-minus.false w.sign-is ]
    in
    decimal_words c.args.minus c.args.m c.args.p _ _ s (c.power_word.ensures ∙ ap plus1000 (to_z-of_z c.ranges.p))
