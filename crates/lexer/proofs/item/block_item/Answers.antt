use native.Mathlib.Omega.{arith}
use mathlib.Core.Path.{sym, ◌∙◌}
use lib.ListN.{drop, length-drop}
use Prim.Native.Nat.{◌+◌}
use Rattle.lexer.proofs.ClosingLaws.{shut_le}
use Rattle.lexer.proofs.PlaceLaws.{shut_found}
use Rattle.lexer.proofs.item.block_item.Goals as goal

pub overflow_add-result-in-Some : goal.overflow_add-result-in-Some
overflow_add-result-in-Some c =
    let h = shut_le (drop (c.args.at + 2) c.args.text.now) c.in-Some.n (sym c.find_block.ensures ∙ c.in-Some.is) in
    let d = length-drop (c.args.at + 2) c.args.text.now in omega arith

pub returns-in-Some : goal.returns-in-Some
returns-in-Some c = shut_found _ c.in-Some.n _ _ (sym c.find_block.ensures ∙ c.in-Some.is) (omega arith)
