use native.Mathlib.Omega.{arith}
use Rattle.reader.proofs.FewRun.{written, keep_kept, keep_forward, keep_inside, keep_found, keep_on}
use Rattle.reader.proofs.duplicates.KeptKeys.keep.Goals as goal

pub holds-requires : goal.holds-requires
holds-requires c =
    let w = written c.requires.key_here.content c.args.self.now.at c.args.self.now.bytes c.copy.new.out _ c.requires.have_kept.kept.inside (c.in_ok-size.ensures.is c.requires.key_here.content c.requires.key_here.key) in
    record { have_kept = keep_kept w c.requires.have_kept; at_le_end = (keep_forward w, keep_inside w) }

pub returns-then-holds : goal.returns-then-holds
returns-then-holds c =
    let w = written c.requires.key_here.content c.args.self.now.at c.args.self.now.bytes c.copy.new.out _ c.requires.have_kept.kept.inside (c.in_ok-size.ensures.is c.requires.key_here.content c.requires.key_here.key) in
    record { is = λ ks K v k. keep_found w c.requires.key_here.key c.if-holds.ensures ks K v k }

pub returns : goal.returns
returns c =
    let w = written c.requires.key_here.content c.args.self.now.at c.args.self.now.bytes c.copy.new.out _ c.requires.have_kept.kept.inside (c.in_ok-size.ensures.is c.requires.key_here.content c.requires.key_here.key) in
    record { is = keep_on w c.requires.key_here.key c.holds.ensures (omega arith) c.if-holds.false }
