use native.Mathlib.Omega.{arith}
use mathlib.Core.Path.{sym, ◌∙◌}
use Rattle.editor.specs.Edit.{lent_of}
use Rattle.editor.proofs.CallLaws.{shows_refused}
use Rattle.editor.proofs.CorrectLaws.{refused_12, refused_13, value_within, corrects}
use Rattle.editor.proofs.edit.correct_read.Goals as goal

pub returns-then-present-node : goal.returns-then-present-node
returns-then-present-node c =
    shows_refused c.args.present.sw _ (lent_of c.args.text.now c.args.journal.now c.args.present.used) _ _ _ _ _ 12
    (refused_12 c.args.present c.args.text.now c.args.journal.now c.args.node c.args.replacement.now _ c.requires c.if-present-node.true) (omega arith) c.refused.ensures c.requires.table_now

pub returns-then-not-one_value : goal.returns-then-not-one_value
returns-then-not-one_value c =
    shows_refused c.args.present.sw _ (lent_of c.args.text.now c.args.journal.now c.args.present.used) _ _ _ _ _ 13
    (refused_13 c.args.present c.args.text.now c.args.journal.now c.args.node c.args.replacement.now _ c.requires c.if-present-node.false (sym c.one_value.ensures ∙ c.if-not-one_value.true))
    (omega arith) c.refused-then-not-one_value.ensures c.requires.table_now

pub replace-requires : goal.replace-requires
replace-requires c = record { knows = c.requires; within = value_within c.args.present c.args.text.now c.args.journal.now c.args.node c.args.replacement.now c.args.table.now c.requires c.if-present-node.false _ c.word_of.ensures c.word_of-2.ensures }

pub returns : goal.returns
returns c =
    corrects c.args.present c.args.text.now c.args.journal.now c.args.node c.args.replacement.now c.args.table.now c.requires c.if-present-node.false _ c.word_of.ensures c.word_of-2.ensures _ _ _ _ (sym c.one_value.ensures ∙ c.if-not-one_value.false) c.replace.ensures
