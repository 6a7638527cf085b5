use native.Mathlib.Omega.{arith}
use mathlib.Core.Path.{◌≡◌, sym, ap, ◌∙◌}
use mathlib.Core.Bool.{Bool}
use mathlib.Core.List.{List}
use lib.ListN.{length, drop, length-drop}
use Prim.Native.Nat.{ℕ, suc, ◌+◌, ◌-◌, ◌≤◌}
use Rattle.std.specs.Prelude.{Option, Some}
use Rattle.lexer.specs.Closing.{closing}
use Rattle.lexer.specs.Internal.{closed_at}
use Rattle.lexer.proofs.ClosingLaws.{closed_told, closed_within}
use Rattle.lexer.proofs.PlaceLaws.{closed_found, unclosed_found}
use Rattle.lexer.proofs.item.string_item.Goals as goal

-- a string that is found to close has its hashes and its quote, and ends within the text
ends : (e : Bool) (k : ℕ) (text : List ℕ) (start n : ℕ) (r : Option ℕ) → r ≡ closed_at (closing e k (drop start text)) → r ≡ Some n → start ≤ length text
    → (suc k ≤ n) × (start + n ≤ length text)
ends e k text start n r p q h =
    let w = closed_within e k (drop start text) n (closed_told _ n (sym p ∙ q)) in
    let d = length-drop start text in
    (omega arith, omega arith)

told : (e f : Bool) (k : ℕ) (l : List ℕ) (r c : Option ℕ) → r ≡ closed_at (closing e k l) → e ≡ f → r ≡ c → closed_at (closing f k l) ≡ c
told e f k l r c p q z = ap (λ (x : Bool). closed_at (closing x k l)) (sym q) ∙ sym p ∙ z

pub overflow_sub-stop : goal.overflow_sub-stop
overflow_sub-stop c = let w = ends _ _ c.args.text.now _ _ _ c.find_closing.ensures c.in-Some.is (omega arith) in omega arith

pub overflow_sub-stop-in-Some : goal.overflow_sub-stop-in-Some
overflow_sub-stop-in-Some c = let w = ends _ _ c.args.text.now _ _ _ c.find_closing.ensures c.in-Some.is (omega arith) in omega arith

pub overflow_add-stop : goal.overflow_add-stop
overflow_add-stop c = let w = ends _ _ c.args.text.now _ _ _ c.find_closing.ensures c.in-Some.is (omega arith) in omega arith

pub content_item-requires : goal.content_item-requires
content_item-requires c =
    let w = ends _ _ c.args.text.now _ _ _ c.find_closing.ensures c.in-Some.is (omega arith) in (omega arith, omega arith)

pub returns-in-Some : goal.returns-in-Some
returns-in-Some c =
    let w = ends _ _ c.args.text.now _ _ _ c.find_closing.ensures c.in-Some.is (omega arith) in
    closed_found c.args.sw c.args.head.is_text c.args.head.body c.args.at (c.args.head.before - 1) c.args.head.hashes _ c.in-Some.n (c.args.at + c.args.head.before + (c.in-Some.n - 1 - c.args.head.hashes) - (c.args.at + c.args.head.before)) (c.args.at + c.args.head.before + (c.in-Some.n - 1 - c.args.head.hashes) + 1 + c.args.head.hashes) _ (told _ _ _ _ _ _ c.find_closing.ensures c.has_escapes.ensures c.in-Some.is) (omega arith) (omega arith) c.content_item.ensures

pub returns-in-None : goal.returns-in-None
returns-in-None c =
    unclosed_found c.args.sw c.args.head.is_text c.args.head.body c.args.at (c.args.head.before - 1) c.args.head.hashes _ (told _ _ _ _ _ _ c.find_closing.ensures c.has_escapes.ensures c.in-None.is)
