use native.Mathlib.Omega.{arith}
use Prim.Native.Nat.{◌+◌}
use Rattle.text.specs.Bytes.{is_word_byte}
use Rattle.lexer.proofs.PlaceLaws.{run_within}
use Rattle.lexer.proofs.scanner.Scanner.word_item.Goals as goal

pub slice_bounds-has_shape-count : goal.slice_bounds-has_shape-count
slice_bounds-has_shape-count c =
    let w = run_within is_word_byte c.args.self.now.text.now (c.args.at + 1) (omega arith) in omega arith

pub slice_bounds-has_shape-end : goal.slice_bounds-has_shape-end
slice_bounds-has_shape-end c =
    let w = run_within is_word_byte c.args.self.now.text.now (c.args.at + 1) (omega arith) in let e = c.word_end-end.ensures in omega arith
