-- A text walked through item by item, up to a cut where an item ends. A walk may stand before another rest of the text that may follow its last
-- item, may begin elsewhere, and may be gone on with. The walk that collects tokens is in ItemLaws; the reader's machine walks too.
-- Assumes nothing.
use mathlib.Core.Path.{◌≡◌, refl, sym, ap, ◌∙◌, subst}
use Prim.Native.Nat.{ℕ, suc, ◌+◌}
use native.Mathlib.Omega.{arith}
use mathlib.Core.Bool.{Bool, false}
use mathlib.Core.List.{List, [], ◌∷◌, ◌++◌, append-nil, append_assoc}
use lib.ListN.{length, length-append}
use Rattle.text.specs.declared.switches.Switches.{Switches}
use Rattle.lexer.specs.Closing.{not_newline}
use Rattle.lexer.specs.Token.{Form, gap, token, item, Token, Tokens, next, cut}
use Rattle.lexer.proofs.Seams.{EndsAt, Seam, heads, ItemSeam, FormSeam, all_seam, goes_on, form_ends}
use Rattle.lexer.proofs.SeamLaws.{cut_token, cut_past, cut_took, same_item}

module _ (sw : Switches) {S : Type 0} (Move : S → Token → S → Type 0) (from : ℕ) (s₀ : S) where
  -- from the state s₀, at the place `from`, the items of `pre`, with z behind it, lead to a state: gaps are passed over, a token is a move
  pub data Walk : (pre z : List ℕ) → S → Type 0 where
    here : {z : List ℕ} → Walk [] z s₀
    past : (pre : List ℕ) (b : ℕ) (x : List ℕ) {z : List ℕ} {s : S} → Walk pre (b ∷ (x ++ z)) s → item sw b (x ++ z) ≡ gap (length x)
        → Walk (pre ++ (b ∷ x)) z s
    took : (pre : List ℕ) (b : ℕ) (x : List ℕ) (form : Form) {z : List ℕ} {s t : S} → Walk pre (b ∷ (x ++ z)) s
        → item sw b (x ++ z) ≡ token form (length x) → Move s (cut_token form (from + length pre) (length x)) t → Walk (pre ++ (b ∷ x)) z t

  -- ---- another rest

  -- z' may stand behind the last item
  unfoldable pub Follows : {pre z : List ℕ} {s : S} → Walk pre z s → (z' : List ℕ) → Type 0
  Follows here z' = Unit {0}
  Follows (past pre b x {z = z} p e) z' = ItemSeam x (gap (length x)) z z'
  Follows (took pre b x form {z = z} p e m) z' = FormSeam form z z'

  follows_same : {pre z : List ℕ} {s : S} (p : Walk pre z s) (z' : List ℕ) → ((t : ℕ → Bool) → Seam t z z') → Follows p z'
  unfolding Follows ItemSeam
  follows_same here z' h = tt
  follows_same (past pre b x {z = z} p e) z' h = all_seam x (gap (length x)) z z' h
  follows_same (took pre b x form {z = z} p e m) z' h = all_seam x (token form (length x)) z z' h

  -- what may follow every item: nothing that a word or number goes on with and, where a line comment may end, nothing that it goes on with
  pub follows_when : {pre z : List ℕ} {s : S} (p : Walk pre z s) (z' : List ℕ) → heads goes_on z' ≡ false → Seam not_newline z z' → Follows p z'
  unfolding Follows ItemSeam
  follows_when here z' h k = tt
  follows_when (past pre b x p e) z' h k = λ _. k
  follows_when (took pre b x form {z = z} p e m) z' h k = form_ends form z z' h

  -- before another rest the walk is the same
  pub walk_before : {pre z : List ℕ} {s : S} (p : Walk pre z s) (z' : List ℕ) → Follows p z' → Walk pre z' s
  unfolding Follows EndsAt ItemSeam heads
  walk_before here z' h = here
  walk_before (past pre b x {z = z} p e) z' h =
      past pre b x (walk_before p (b ∷ (x ++ z')) (follows_same p (b ∷ (x ++ z')) (λ t k. k))) (same_item sw b x z z' (gap (length x)) refl h e)
  walk_before (took pre b x form {z = z} p e m) z' h =
      took pre b x form (walk_before p (b ∷ (x ++ z')) (follows_same p (b ∷ (x ++ z')) (λ t k. k)))
      (same_item sw b x z z' (token form (length x)) refl h e) m

  -- ---- the tokens of the whole

  pub place_on : (pre : List ℕ) (b : ℕ) (x : List ℕ) → from + length pre + suc (length x) ≡ from + length (pre ++ (b ∷ x))
  place_on pre b x = let e = length-append pre (b ∷ x) in omega arith

  -- what is the same before a token and behind it, by a move, is the same before the walk and behind it
  module _ {A : Type 0} (of : S → Tokens → A) (moves : (s t : S) (u : Token) (ts : Tokens) → Move s u t → of s (next u ts) ≡ of t ts) where
    pub walk_cut : {pre z : List ℕ} {s : S} → Walk pre z s → of s₀ (cut sw 0 from (pre ++ z)) ≡ of s (cut sw 0 (from + length pre) z)
    walk_cut (here {z = z}) = let e : from ≡ from + 0 = omega arith in ap (λ (n : ℕ). of s₀ (cut sw 0 n z)) e
    walk_cut (past pre b x {z = z} {s = s} p e) =
        ap (λ (l : List ℕ). of s₀ (cut sw 0 from l)) (append_assoc pre (b ∷ x) z) ∙ walk_cut p
        ∙ ap (of s) (cut_past sw (from + length pre) b x z e ∙ ap (λ (n : ℕ). cut sw 0 n z) (place_on pre b x))
    walk_cut (took pre b x form {z = z} {s = s} {t = t} p e m) =
        let u : Token = cut_token form (from + length pre) (length x) in
        ap (λ (l : List ℕ). of s₀ (cut sw 0 from l)) (append_assoc pre (b ∷ x) z) ∙ walk_cut p
        ∙ ap (of s) (cut_took sw (from + length pre) b x z form e)
        ∙ moves s t u (cut sw 0 (from + length pre + suc (length x)) z) m ∙ ap (λ (n : ℕ). of t (cut sw 0 n z)) (place_on pre b x)

-- ---- other states at another place

module _ (sw : Switches) {S S' : Type 0} (Move : S → Token → S → Type 0) (Move' : S' → Token → S' → Type 0) (f : S → S') (from to : ℕ)
    (moves : (s t : S) (form : Form) (n more : ℕ) → Move s (cut_token form (from + n) more) t → Move' (f s) (cut_token form (to + n) more) (f t)) where
  pub walk_map : {s₀ s : S} {pre z : List ℕ} → Walk sw Move from s₀ pre z s → Walk sw Move' to (f s₀) pre z (f s)
  walk_map here = here
  walk_map (past pre b x p e) = past pre b x (walk_map p) e
  walk_map (took pre b x form {s = s} {t = t} p e m) = took pre b x form (walk_map p) e (moves s t form (length pre) (length x) m)

-- ---- one walk after the other

module _ (sw : Switches) {S : Type 0} (Move : S → Token → S → Type 0) (from : ℕ) (s₀ s₁ : S) (pre : List ℕ) where
  pub walk_append : {y z : List ℕ} {s : S} → Walk sw Move from s₀ pre (y ++ z) s₁ → Walk sw Move (from + length pre) s₁ y z s
      → Walk sw Move from s₀ (pre ++ y) z s
  walk_append p (here {z = z}) = subst (λ (l : List ℕ). Walk sw Move from s₀ l z s₁) (sym (append-nil pre)) p
  walk_append p (past y b x {z = z} {s = s} q e) =
      subst (λ (l : List ℕ). Walk sw Move from s₀ l z s) (append_assoc pre y (b ∷ x))
      (past (pre ++ y) b x (walk_append (subst (λ (l : List ℕ). Walk sw Move from s₀ pre l s₁) (append_assoc y (b ∷ x) z) p) q) e)
  walk_append p (took y b x form {z = z} {s = s} {t = t} q e m) =
      let l = length-append pre y in
      let a : from + length pre + length y ≡ from + length (pre ++ y) = omega arith in
      subst (λ (l : List ℕ). Walk sw Move from s₀ l z t) (append_assoc pre y (b ∷ x))
      (took (pre ++ y) b x form (walk_append (subst (λ (l : List ℕ). Walk sw Move from s₀ pre l s₁) (append_assoc y (b ∷ x) z) p) q) e
      (subst (λ (n : ℕ). Move s (cut_token form n (length x)) t) a m))
