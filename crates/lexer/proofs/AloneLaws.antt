-- A token's bytes alone are that token: what the readers need to look again at a key or a string by its place.
-- Assumes nothing.
use mathlib.Core.Path.{◌≡◌, refl, sym, ap, ◌∙◌, subst}
use Prim.Native.Nat.{ℕ, suc, ◌+◌, ◌-◌, ◌≤◌, ◌<◌}
use native.Mathlib.Omega.{arith}
use mathlib.Core.Option.{none}
use mathlib.Core.List.{List, [], ◌∷◌, ◌++◌, append-nil}
use lib.Dec.{eqb}
use lib.ListN.{length, take, drop, get_or, length-drop, take-append-drop}
use lib.Seq.{drop-cons, length-take-le}
use borrow.Author.Tests.{eq-eqb}
use Rattle.text.specs.declared.switches.Switches.{Switches}
use Rattle.text.proofs.Choice.{cond-true}
use Rattle.lexer.specs.Token.{Form, Item, token, item, item_at, key_content, whole_item, token_content}
use Rattle.lexer.proofs.TokenLaws.{EndsBy, item_at_ends}
use Rattle.lexer.proofs.Seams.{heads, EndsAt, ItemSeam, all_seam}
use Rattle.lexer.proofs.SeamLaws.{same_item}

-- ---- a token before nothing

-- nothing may follow every item
nothing_after : (x : List ℕ) (i : Item) (z : List ℕ) → ItemSeam x i z []
unfolding heads
nothing_after x i z = all_seam x i z [] (λ p _. refl)

module _ (sw : Switches) where
  -- the token at the front of b ∷ (x ++ z) that ends with x is the token at the front of b ∷ x
  pub item_alone : (b : ℕ) (x z : List ℕ) (form : Form) (more : ℕ) → more ≡ length x → item sw b (x ++ z) ≡ token form more
      → item sw b x ≡ token form more
  unfolding EndsAt
  item_alone b x z form more l e =
      ap (item sw b) (sym (append-nil x)) ∙ same_item sw b x z [] (token form more) l (nothing_after x (token form more) z) e

  -- the content of the token's bytes is that of its form
  pub content_alone_law : (b : ℕ) (x z : List ℕ) (form : Form) (more : ℕ) → more ≡ length x → item sw b (x ++ z) ≡ token form more
      → token_content sw (b ∷ x) ≡ key_content form
  unfolding token_content whole_item
  content_alone_law b x z form more l e =
      ap (whole_item (length x)) (item_alone b x z form more l e) ∙ cond-true (eqb more (length x)) (key_content form) none (eq-eqb more (length x) l)

module _ (sw : Switches) (s : List ℕ) (at more : ℕ) (form : Form) (inside-text : at < length s) (e : item_at sw s at ≡ token form more) where
  -- the token ends within the text
  pub token_within : at + suc more ≤ length s
  unfolding EndsBy
  token_within = let w = subst (EndsBy (length s - suc at)) e (item_at_ends sw s at inside-text) in omega arith

  -- "valid by itself": a token's bytes alone are that token
  pub token_alone : token_content sw (take (suc more) (drop at s)) ≡ key_content form
  unfolding item_at
  token_alone =
      let w = token_within in
      let d = length-drop (suc at) s in
      let l : more ≤ length (drop (suc at) s) = omega arith in
      ap (λ (l : List ℕ). token_content sw (take (suc more) l)) (drop-cons s at 0 inside-text)
      ∙ content_alone_law sw (get_or s at 0) (take more (drop (suc at) s)) (drop more (drop (suc at) s)) form more
      (sym (length-take-le more (drop (suc at) s) l)) (ap (item sw (get_or s at 0)) (take-append-drop more (drop (suc at) s)) ∙ e)
