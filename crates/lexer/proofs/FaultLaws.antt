-- A fault of a token is one of 3, 4, 5, 6: of an item, and of the tokens of a text.
-- Assumes nothing.
use Prim.Native.Nat.{ℕ, zero, suc}
use mathlib.Core.List.{List, [], ◌∷◌}
use Rattle.text.specs.declared.switches.Switches.{Switches}
use Rattle.lexer.specs.Token as L
use Rattle.lexer.proofs.ItemCases.{OwnFault, item_case}
use Rattle.lexer.specs.Token.{Item, gap, token, fault, Tokens, item, after_item, cut, tokens}

unfoldable pub ItemFault : Item → Type 0
ItemFault (gap more) = Unit {0}
ItemFault (token form more) = Unit {0}
ItemFault (fault n) = OwnFault n

pub item_fault : (sw : Switches) (b : ℕ) (s : List ℕ) → ItemFault (item sw b s)
unfolding ItemFault
item_fault sw b s =
    item_case sw b s ItemFault (record {
      of_gap = λ more h y. tt;
      of_mark = λ y. tt;
      of_word = tt;
      of_string = λ isText body head k m c q h e. tt;
      of_integer = λ z e. tt;
      of_decimal = λ minus m p e. tt;
      of_fault = λ n h. h;
    })

-- ---- the tokens of a text

unfoldable pub TokensFault : Tokens → Type 0
TokensFault (L.next t ts) = TokensFault ts
TokensFault (L.end place) = Unit {0}
TokensFault (Tokens.fault n place) = OwnFault n

after_fault : (at : ℕ) (i : Item) (rest : ℕ → Tokens) → ItemFault i → ((more : ℕ) → TokensFault (rest more)) → TokensFault (after_item at i rest)
unfolding ItemFault TokensFault after_item
after_fault at (gap more) rest h k = k more
after_fault at (token form more) rest h k = k more
after_fault at (fault n) rest h k = h

cut_fault : (sw : Switches) (left at : ℕ) (s : List ℕ) → TokensFault (cut sw left at s)
unfolding TokensFault cut
cut_fault sw left at [] = tt
cut_fault sw (suc left) at (b ∷ s) = cut_fault sw left (suc at) s
cut_fault sw zero at (b ∷ s) = after_fault at (item sw b s) (λ more. cut sw more (suc at) s) (item_fault sw b s) (λ more. cut_fault sw more (suc at) s)

pub tokens_fault : (sw : Switches) (s : List ℕ) → TokensFault (tokens sw s)
unfolding tokens
tokens_fault sw s = cut_fault sw 0 0 s
