-- Texts as lists: the item at the front of b ∷ (x ++ z) with the bytes b ∷ x, and the tokens of a text that stands elsewhere, which have the
-- same forms and all places shifted.
-- Assumes nothing.
use mathlib.Core.Path.{◌≡◌, refl, sym, ap, ◌∙◌, subst}
use Prim.Native.Nat.{ℕ, zero, suc, ◌+◌, ◌≤◌}
use native.Mathlib.Omega.{arith}
use mathlib.Core.List.{List, [], ◌∷◌, ◌++◌}
use lib.ListN.{length, take, drop, take-append-drop, length-take}
use lib.Seq.{drop_at}
use Rattle.text.specs.declared.switches.Switches.{Switches}
use Rattle.lexer.specs.Token.{Form, Item, gap, token, fault, item, Token, Tokens, next, end, after_item, cut}
use Rattle.lexer.proofs.TokenLaws.{EndsBy, item_ends, from_item, cut_item}
use Rattle.lexer.proofs.Seams.{EndsAt, ItemSeam}
use Rattle.lexer.proofs.LocalLaws.{item_local}

-- the token of a form at a place
abbrev pub cut_token : Form → (at more : ℕ) → Token
cut_token form at more = record { form = form; start = at; stop = at + suc more }

-- ---- the item at the front

module _ (sw : Switches) where
  pub cut_past : (at b : ℕ) (x z : List ℕ) → item sw b (x ++ z) ≡ gap (length x) → cut sw 0 at (b ∷ (x ++ z)) ≡ cut sw 0 (at + suc (length x)) z
  unfolding from_item
  cut_past at b x z e =
      cut_item sw at b (x ++ z) ∙ ap (from_item sw at (x ++ z)) e ∙ ap (cut sw 0 (at + suc (length x))) (drop_at x z (length x) refl)

  pub cut_took : (at b : ℕ) (x z : List ℕ) (form : Form) → item sw b (x ++ z) ≡ token form (length x)
      → cut sw 0 at (b ∷ (x ++ z)) ≡ next (cut_token form at (length x)) (cut sw 0 (at + suc (length x)) z)
  unfolding from_item
  cut_took at b x z form e =
      cut_item sw at b (x ++ z) ∙ ap (from_item sw at (x ++ z)) e
      ∙ ap (λ (l : List ℕ). next (cut_token form at (length x)) (cut sw 0 (at + suc (length x)) l)) (drop_at x z (length x) refl)

  pub cut_fault : (at b : ℕ) (s : List ℕ) (number : ℕ) → item sw b s ≡ fault number → cut sw 0 at (b ∷ s) ≡ Tokens.fault number at
  unfolding from_item
  cut_fault at b s number e = cut_item sw at b s ∙ ap (from_item sw at s) e

  -- the bytes of an item, and what follows
  pub record Split (b : ℕ) (s : List ℕ) (of : ℕ → Item) : Type 0 where
    pub own : List ℕ
    pub rest : List ℕ
    pub joined : own ++ rest ≡ s
    pub it : item sw b (own ++ rest) ≡ of (length own)

  split_at : (b : ℕ) (s : List ℕ) (of : ℕ → Item) (more : ℕ) → more ≤ length s → item sw b s ≡ of more → Split b s of
  split_at b s of n h e =
      let j = take-append-drop n s in
      let l = length-take n s in
      let k : n ≡ length (take n s) = omega arith in
      record {
        own = take n s;
        rest = drop n s;
        joined = j;
        it = ap (item sw b) j ∙ e ∙ ap of k;
      }

  pub split_gap : (b : ℕ) (s : List ℕ) (more : ℕ) → item sw b s ≡ gap more → Split b s gap
  unfolding EndsBy
  split_gap b s more e = split_at b s gap more (subst (EndsBy (length s)) e (item_ends sw b s)) e

  pub split_token : (b : ℕ) (s : List ℕ) (form : Form) (more : ℕ) → item sw b s ≡ token form more → Split b s (token form)
  unfolding EndsBy
  split_token b s form more e = split_at b s (token form) more (subst (EndsBy (length s)) e (item_ends sw b s)) e

  -- LOCAL LEXING for an item that is told by an equation: it is the same before z'
  pub same_item : (b : ℕ) (x z z' : List ℕ) (i : Item) → EndsAt (length x) i → ItemSeam x i z z' → item sw b (x ++ z) ≡ i → item sw b (x ++ z') ≡ i
  same_item b x z z' i h s e =
      item_local sw b x z z' (subst (EndsAt (length x)) (sym e) h) (subst (λ (j : Item). ItemSeam x j z z') (sym e) s) ∙ e

-- ---- tokens at other places

-- φ maps where tokens start, ψ where they stop; the end and a fault are told as starts
module _ (φ ψ : ℕ → ℕ) where
  unfoldable pub map_token : Token → Token
  map_token t = record { form = t.form; start = φ t.start; stop = ψ t.stop }

  unfoldable pub map_tokens : Tokens → Tokens
  map_tokens (next t ts) = next (map_token t) (map_tokens ts)
  map_tokens (end place) = end (φ place)
  map_tokens (Tokens.fault number place) = Tokens.fault number (φ place)

-- d bytes further on
abbrev pub on_by : (d p : ℕ) → ℕ
on_by d p = p + d

module _ (sw : Switches) where
  item_shift : (d at : ℕ) (i : Item) (rest rest' : ℕ → Tokens) → ((more : ℕ) → rest' more ≡ map_tokens (on_by d) (on_by d) (rest more))
      → after_item (at + d) i rest' ≡ map_tokens (on_by d) (on_by d) (after_item at i rest)
  unfolding map_tokens map_token after_item
  item_shift d at (gap more) rest rest' k = k more
  item_shift d at (token form more) rest rest' k =
      let e : at + d + suc more ≡ at + suc more + d = omega arith in
      λ i. next (record { form = form; start = at + d; stop = e i }) (k more i)
  item_shift d at (fault number) rest rest' k = refl

  -- SHIFT: the same bytes at another place
  pub cut_shift : (d left at : ℕ) (s : List ℕ) → cut sw left (at + d) s ≡ map_tokens (on_by d) (on_by d) (cut sw left at s)
  unfolding cut map_tokens
  cut_shift d left at [] = refl
  cut_shift d (suc left) at (b ∷ s) =
      let e : suc (at + d) ≡ suc at + d = omega arith in
      ap (λ (n : ℕ). cut sw left n s) e ∙ cut_shift d left (suc at) s
  cut_shift d zero at (b ∷ s) =
      item_shift d at (item sw b s) (λ more. cut sw more (suc at) s) (λ more. cut sw more (suc (at + d)) s)
      (λ more. let e : suc (at + d) ≡ suc at + d = omega arith in ap (λ (n : ℕ). cut sw more n s) e ∙ cut_shift d more (suc at) s)

  -- the tokens of bytes at a place, by those of the same bytes alone
  pub cut_alone : (at : ℕ) (s : List ℕ) → cut sw 0 at s ≡ map_tokens (on_by at) (on_by at) (cut sw 0 0 s)
  cut_alone at s = let e : at ≡ 0 + at = omega arith in ap (λ (n : ℕ). cut sw 0 n s) e ∙ cut_shift at 0 0 s
