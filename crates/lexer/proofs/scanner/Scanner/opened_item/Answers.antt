use native.Mathlib.Omega.{arith}
use mathlib.Core.Path.{sym, ◌∙◌}
use lib.ListN.{length-drop, drop}
use Rattle.lexer.proofs.OpeningLaws.{head_within}
use Rattle.lexer.proofs.scanner.Scanner.opened_item.Goals as goal

pub string_item-requires : goal.string_item-requires
string_item-requires c =
    let w = head_within c.args.self.now.sw (drop c.args.at c.args.self.now.text.now) c.in-String.head (sym c.opening_of.ensures ∙ c.in-String.is) in
    let d = length-drop c.args.at c.args.self.now.text.now in (omega arith, omega arith)
