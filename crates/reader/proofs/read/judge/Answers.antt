use Rattle.reader.proofs.ReadRun.{too_long, not_utf8, judged}
use Rattle.reader.proofs.read.judge.Goals as goal

pub returns-then-text-gt-MAX_TEXT : goal.returns-then-text-gt-MAX_TEXT
returns-then-text-gt-MAX_TEXT c =
    record { is = too_long c.args.rules.sw c.args.rules.limits c.args.any c.args.text.now c.if-text-gt-MAX_TEXT.true }

pub returns-then-front-text : goal.returns-then-front-text
returns-then-front-text c =
    record { is = not_utf8 c.args.rules.sw c.args.rules.limits c.args.any c.args.text.now _ c.if-text-gt-MAX_TEXT.false c.valid_front-front.ensures c.if-front-text.true }

pub read_whole-requires : goal.read_whole-requires
read_whole-requires c = record { roomy = c.requires; text_len_bound = c.if-text-gt-MAX_TEXT.false }

pub shape_of-table : goal.shape_of-table
shape_of-table c = c.read_whole.auto.table

pub returns : goal.returns
returns c =
    judged c.args.rules c.args.any c.args.text.now _ _ _ _ c.if-text-gt-MAX_TEXT.false c.valid_front-front.ensures c.if-front-text.false c.read_whole.ensures
