use native.Mathlib.Omega.{arith}
use Rattle.reader.proofs.FewRun.{search_start, search_span, search_on, search_hit, search_end}
use Rattle.reader.proofs.duplicates.KeptKeys.holds.Goals as goal

pub loop-to-init : goal.loop-to-init
loop-to-init c = search_start c.requires.have_kept

pub slice_bounds-same_bytes-count : goal.slice_bounds-same_bytes-count
slice_bounds-same_bytes-count c = (search_span c.loop-to.invariant (omega arith)).0

pub slice_bounds-same_bytes-start : goal.slice_bounds-same_bytes-start
slice_bounds-same_bytes-start c = (search_span c.loop-to.invariant (omega arith)).0

pub slice_bounds-same_bytes-end : goal.slice_bounds-same_bytes-end
slice_bounds-same_bytes-end c = let K = search_span c.loop-to.invariant (omega arith) in omega (arith, K.1, c.requires.have_kept.kept.inside)

pub returns-then-same_bytes : goal.returns-then-same_bytes
returns-then-same_bytes c = search_hit c.loop-to.invariant (omega arith) c.same_bytes.ensures c.if-same_bytes.true

pub loop-to-preserved : goal.loop-to-preserved
loop-to-preserved c = search_on c.loop-to.invariant (omega arith) c.same_bytes.ensures c.if-same_bytes.false

pub returns : goal.returns
returns c = search_end c.loop-to.invariant (omega arith)
