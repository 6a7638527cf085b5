-- A text cut at the end of an item: the items before the cut and their tokens. The items of two parts put together are the items of both, and
-- a text can be cut behind any of its tokens.
-- Assumes nothing.
use mathlib.Core.Path.{◌≡◌, refl, sym, ap, ◌∙◌, subst}
use Prim.Native.Nat.{ℕ, zero, suc, ◌+◌, ◌≤◌}
use native.Mathlib.Nat.{le_refl}
use native.Mathlib.Omega.{arith}
use mathlib.Core.List.{List, [], ◌∷◌, ◌++◌, append-nil, append_assoc}
use lib.ListN.{length, length-append}
use Rattle.text.specs.declared.switches.Switches.{Switches}
use Rattle.lexer.specs.Token.{Form, Item, gap, token, item, Token, Tokens, next, cut}
use Rattle.lexer.proofs.SeamLaws.{cut_token, cut_past, cut_took, cut_fault, split_gap, split_token}
use Rattle.lexer.proofs.WalkLaws.{Walk, here, past, took, walk_cut, walk_map, walk_append}

abbrev pub Adds : List Token → Token → List Token → Type 0
Adds ts t us = us ≡ ts ++ (t ∷ [])

-- `pre`, at the place `from` and with z behind it, is cut into whole items, whose tokens are these
abbrev pub Items : Switches → (from : ℕ) (pre z : List ℕ) → List Token → Type 0
Items sw from pre z ts = Walk sw Adds from [] pre z ts

-- tokens, and then others
unfoldable pub leads : List Token → Tokens → Tokens
leads [] r = r
leads (t ∷ ts) r = next t (leads ts r)

pub leads_append : (ts us : List Token) (r : Tokens) → leads (ts ++ us) r ≡ leads ts (leads us r)
unfolding leads
leads_append [] us r = refl
leads_append (t ∷ ts) us r = ap (next t) (leads_append ts us r)

module _ (sw : Switches) where
  -- the tokens of the whole
  pub items_cut : (from : ℕ) {pre z : List ℕ} {ts : List Token} → Items sw from pre z ts
      → cut sw 0 from (pre ++ z) ≡ leads ts (cut sw 0 (from + length pre) z)
  unfolding leads
  items_cut from p =
      walk_cut sw Adds from [] leads
      (λ ts us t r e. sym (ap (λ (l : List Token). leads l r) e ∙ leads_append ts (t ∷ []) r)) p

  -- parts put together
  pub items_append : (from : ℕ) {pre y z : List ℕ} {ts us : List Token} → Items sw from pre (y ++ z) ts → Items sw (from + length pre) y z us
      → Items sw from (pre ++ y) z (ts ++ us)
  items_append from {pre} {y} {z} {ts} {us} p q =
      walk_append sw Adds from [] ts pre p
      (subst (λ (l : List Token). Walk sw Adds (from + length pre) l y z (ts ++ us)) (append-nil ts)
      (walk_map sw Adds Adds (λ (vs : List Token). ts ++ vs) (from + length pre) (from + length pre)
      (λ vs ws form n more e.
      ap (λ (l : List Token). ts ++ l) e ∙ sym (append_assoc ts vs (cut_token form (from + length pre + n) more ∷ []))) q))

  -- one space or comment
  pub one_gap : (from b : ℕ) (x z : List ℕ) → item sw b (x ++ z) ≡ gap (length x) → Items sw from (b ∷ x) z []
  one_gap from b x z e = past [] b x here e

  -- one token
  pub one_token : (from b : ℕ) (x z : List ℕ) (form : Form) → item sw b (x ++ z) ≡ token form (length x)
      → Items sw from (b ∷ x) z (cut_token form from (length x) ∷ [])
  one_token from b x z form e =
      let a : from ≡ from + 0 = omega arith in
      took [] b x form here e (ap (λ (n : ℕ). cut_token form n (length x) ∷ []) a)

-- ---- the cut behind any of a text's tokens

module _ (sw : Switches) where
  -- the text cut behind the tokens ts
  pub record CutBehind (from : ℕ) (s : List ℕ) (ts : List Token) (r : Tokens) : Type 0 where
    pub pre : List ℕ
    pub rest : List ℕ
    pub joined : pre ++ rest ≡ s
    pub items : Items sw from pre rest ts
    pub then : cut sw 0 (from + length pre) rest ≡ r

  -- an item in front
  in_front : (from b : ℕ) (x z : List ℕ) (us ts : List Token) (r : Tokens) → ((y : List ℕ) → x ++ y ≡ x ++ z → Items sw from (b ∷ x) y us)
      → CutBehind (from + suc (length x)) z ts r → CutBehind from (b ∷ (x ++ z)) (us ++ ts) r
  in_front from b x z us ts r f w =
      let l = length-append (b ∷ x) w.pre in
      let e : from + suc (length x) + length w.pre ≡ from + length ((b ∷ x) ++ w.pre) = omega arith in
      record {
        pre = (b ∷ x) ++ w.pre;
        rest = w.rest;
        joined = append_assoc (b ∷ x) w.pre w.rest ∙ ap (λ (y : List ℕ). b ∷ (x ++ y)) w.joined;
        items = items_append sw from (f (w.pre ++ w.rest) (ap (λ (y : List ℕ). x ++ y) w.joined)) w.items;
        then = ap (λ (n : ℕ). cut sw 0 n w.rest) (sym e) ∙ w.then;
      }

  Found : ℕ → Type 0
  Found n = (from : ℕ) (s : List ℕ) (ts : List Token) (r : Tokens) → length s ≤ n → cut sw 0 from s ≡ leads ts r → CutBehind from s ts r

  found_item : (n from b : ℕ) (s : List ℕ) (t : Token) (ts : List Token) (r : Tokens) (i : Item) → item sw b s ≡ i → length s ≤ n
      → cut sw 0 from (b ∷ s) ≡ next t (leads ts r) → Found n → CutBehind from (b ∷ s) (t ∷ ts) r
  unfolding Found leads
  found_item n from b s t ts r (gap k) i l e f =
      let w = split_gap sw b s k i in
      let m = ap length w.joined in
      let h = length-append w.own w.rest in
      let c : cut sw 0 (from + suc (length w.own)) w.rest ≡ next t (leads ts r) =
      sym (cut_past sw from b w.own w.rest w.it) ∙ ap (λ (y : List ℕ). cut sw 0 from (b ∷ y)) w.joined ∙ e in
      subst (λ (y : List ℕ). CutBehind from (b ∷ y) (t ∷ ts) r) w.joined
      (in_front from b w.own w.rest [] (t ∷ ts) r (λ y q. one_gap sw from b w.own y (ap (item sw b) q ∙ w.it))
      (f (from + suc (length w.own)) w.rest (t ∷ ts) r (omega arith) c))
  found_item n from b s t ts r (token form k) i l e f =
      let w = split_token sw b s form k i in
      let m = ap length w.joined in
      let h = length-append w.own w.rest in
      let u = cut_token form from (length w.own) in
      let c : next u (cut sw 0 (from + suc (length w.own)) w.rest) ≡ next t (leads ts r) =
      sym (cut_took sw from b w.own w.rest form w.it) ∙ ap (λ (y : List ℕ). cut sw 0 from (b ∷ y)) w.joined ∙ e in
      let c₁ : u ≡ t = cc in
      let c₂ : cut sw 0 (from + suc (length w.own)) w.rest ≡ leads ts r = cc in
      let v : (y : List ℕ) → w.own ++ y ≡ w.own ++ w.rest → Items sw from (b ∷ w.own) y (t ∷ []) =
      λ y q. subst (λ (a : Token). Items sw from (b ∷ w.own) y (a ∷ [])) c₁ (one_token sw from b w.own y form (ap (item sw b) q ∙ w.it)) in
      subst (λ (y : List ℕ). CutBehind from (b ∷ y) (t ∷ ts) r) w.joined
      (in_front from b w.own w.rest (t ∷ []) ts r v (f (from + suc (length w.own)) w.rest ts r (omega arith) c₂))
  found_item n from b s t ts r (Item.fault k) i l e f =
      let c : Tokens.fault k from ≡ next t (leads ts r) = sym (cut_fault sw from b s k i) ∙ e in
      let z : ◌≡◌ {A = ℕ} 0 1 = cc in
      absurd (omega arith)

  found_none : (from : ℕ) (s : List ℕ) (r : Tokens) → cut sw 0 from s ≡ r → CutBehind from s [] r
  found_none from s r e =
      let z : from + 0 ≡ from = omega arith in
      record { pre = []; rest = s; joined = refl; items = here; then = ap (λ (n : ℕ). cut sw 0 n s) z ∙ e }

  found : (n : ℕ) → Found n
  unfolding Found leads cut
  found zero from s [] r l e = found_none from s r e
  found (suc n) from s [] r l e = found_none from s r e
  found zero from [] (t ∷ ts) r l e = let z : ◌≡◌ {A = ℕ} 0 1 = cc in absurd (omega arith)
  found (suc n) from [] (t ∷ ts) r l e = let z : ◌≡◌ {A = ℕ} 0 1 = cc in absurd (omega arith)
  found zero from (b ∷ s) (t ∷ ts) r l e = absurd (omega arith)
  found (suc n) from (b ∷ s) (t ∷ ts) r l e = found_item n from b s t ts r (item sw b s) refl (omega arith) e (found n)

  -- behind any front of a text's tokens the text can be cut: there an item ends
  pub cut_behind : (from : ℕ) (s : List ℕ) (ts : List Token) (r : Tokens) → cut sw 0 from s ≡ leads ts r → CutBehind from s ts r
  unfolding Found
  cut_behind from s ts r e = found (length s) from s ts r (le_refl (length s)) e
