use Rattle.reader.proofs.DuplicateLaws.{key_found, key_new}
use Rattle.reader.proofs.keys.key_refusal.Goals as goal

pub has_before-requires : goal.has_before-requires
has_before-requires c = record { have_keys = c.args.keys.now.keys; key_here = c.requires }

pub returns-then-has_before : goal.returns-then-has_before
returns-then-has_before c = key_found c.if-has_before.true c.has_before.ensures

pub returns : goal.returns
returns c = key_new c.if-has_before.false c.has_before.ensures
