-- The tokens of a text with gaps put at edges of its tokens: the same, moved. And it is UTF-8.
-- Assumes nothing.
use mathlib.Core.Path.{◌≡◌, refl, sym, ap, ◌∙◌, subst}
use Prim.Native.Nat.{ℕ, zero, suc, ◌+◌, ◌-◌, ◌≤◌, ◌<◌}
use native.Mathlib.Nat.{le_refl}
use native.Mathlib.Omega.{arith}
use mathlib.Core.Bool.{Bool, true, false}
use mathlib.Core.List.{List, [], ◌∷◌, ◌++◌, append-nil}
use lib.ListN.{length}
use Rattle.text.specs.declared.switches.Switches.{Switches}
use Rattle.text.specs.Utf8.{utf8, is_whole}
use Rattle.text.proofs.Utf8Join.{utf8_front, utf8_append}
use Rattle.lexer.specs.Closing.{not_newline}
use Rattle.lexer.specs.Token as L
use Rattle.lexer.specs.Token.{Form, Tokens, cut}
use Rattle.lexer.proofs.TokenLaws.{cut_end}
use Rattle.lexer.proofs.Seams.{heads, EndsAt, ItemSeam, FormSeam}
use Rattle.lexer.proofs.SeamLaws.{cut_token, cut_past, cut_took, same_item, map_token, map_tokens}
use Rattle.theorems.specs.Insertion.{is_edge, interleaved, put_below, new_start, new_stop}
use Rattle.theorems.proofs.Insertion.GapLaws.{Blank}
use Rattle.theorems.proofs.Insertion.CuttingLaws.{Cutting, over, pass, take, edge_off, no_edge, line_edge, ascii_head}

module _ (g : ℕ → List ℕ) where
  -- nothing is put at the n places from `at` on
  abbrev Quiet : (at n : ℕ) → Type 0
  Quiet at n = (p : ℕ) → at ≤ p → p < at + n → g p ≡ []

  interleave_quiet : (at : ℕ) (x z : List ℕ) → Quiet at (length x) → interleaved g at (x ++ z) ≡ x ++ interleaved g (at + length x) z
  unfolding interleaved
  interleave_quiet at [] z q = let e : at ≡ at + 0 = omega arith in ap (λ (n : ℕ). interleaved g n z) e
  interleave_quiet at (b ∷ x) z q =
      let e : suc at + length x ≡ at + suc (length x) = omega arith in
      ap (λ (l : List ℕ). l ++ (b ∷ interleaved g (suc at) (x ++ z))) (q at (le_refl at) (omega arith))
      ∙ ap (λ (l : List ℕ). b ∷ l) (interleave_quiet (suc at) x z (λ p h k. q p (omega arith) (omega arith)) ∙ ap (λ (n : ℕ). x ++ interleaved g n z) e)

  below_suc : (p : ℕ) → put_below g (suc p) ≡ put_below g p + length (g p)
  unfolding put_below
  below_suc p = refl

  start_is : (p : ℕ) → new_start g p ≡ p + put_below g (suc p)
  unfolding new_start
  start_is p = refl

  stop_is : (p : ℕ) → new_stop g p ≡ suc (new_start g (p - 1))
  unfolding new_stop
  stop_is p = refl

  below_quiet : (at n : ℕ) → Quiet at n → put_below g (at + n) ≡ put_below g at
  below_quiet at zero q = let e : at + 0 ≡ at = omega arith in ap (put_below g) e
  below_quiet at (suc n) q =
      let e : at + suc n ≡ suc (at + n) = omega arith in
      let h = ap length (q (at + n) (omega arith) (omega arith)) in
      let k = below_quiet at n (λ p u v. q p u (omega arith)) in
      let m = below_suc (at + n) in
      ap (put_below g) e ∙ m ∙ sum (put_below g (at + n)) (put_below g at) (length (g (at + n))) k h
    where
      sum : (a b c : ℕ) → a ≡ b → c ≡ 0 → a + c ≡ b
      sum a b c p r = omega arith

  -- what stands behind the bytes put at a place
  behind : (at : ℕ) → List ℕ → List ℕ
  behind at [] = []
  behind at (b ∷ s) = b ∷ interleaved g (suc at) s

  interleaved_is : (at : ℕ) (s : List ℕ) → interleaved g at s ≡ g at ++ behind at s
  unfolding interleaved behind
  interleaved_is at [] = sym (append-nil (g at))
  interleaved_is at (b ∷ s) = refl

  behind_heads : (t : ℕ → Bool) (at : ℕ) (s : List ℕ) → heads t (behind at s) ≡ heads t s
  unfolding heads behind
  behind_heads t at [] = refl
  behind_heads t at (b ∷ s) = refl

  -- around one item
  module _ (at b : ℕ) (x z : List ℕ) (quiet : Quiet (suc at) (length x)) where
    interleave_item : interleaved g at (b ∷ (x ++ z)) ≡ g at ++ (b ∷ (x ++ interleaved g (at + suc (length x)) z))
    unfolding interleaved
    interleave_item =
        let e : suc at + length x ≡ at + suc (length x) = omega arith in
        ap (λ (l : List ℕ). g at ++ (b ∷ l)) (interleave_quiet (suc at) x z quiet ∙ ap (λ (n : ℕ). x ++ interleaved g n z) e)

    below_item : put_below g (at + suc (length x)) ≡ put_below g at + length (g at)
    below_item =
        let e : at + suc (length x) ≡ suc at + length x = omega arith in
        ap (put_below g) e ∙ below_quiet (suc at) (length x) quiet ∙ below_suc at

    new_place : at + put_below g at + length (g at) + suc (length x) ≡ at + suc (length x) + put_below g (at + suc (length x))
    new_place = let e = below_item in omega arith

    new_start_law : at + put_below g at + length (g at) ≡ new_start g at
    new_start_law = let e = start_is at in let f = below_suc at in omega arith

    new_stop_law : at + put_below g at + length (g at) + suc (length x) ≡ new_stop g (at + suc (length x))
    new_stop_law =
        let n : at + suc (length x) - 1 ≡ at + length x = omega arith in
        let m : suc (at + length x) ≡ at + suc (length x) = omega arith in
        let e = stop_is (at + suc (length x)) ∙ ap (λ (k : ℕ). suc (new_start g k)) n in
        let f = start_is (at + length x) in
        let h = ap (put_below g) m in
        let k = below_item in
        omega arith

  module _ (sw : Switches) (blank : (p : ℕ) → Blank (g p)) where
    -- something is put behind `at` only at edges
    abbrev pub Only : (at : ℕ) → Tokens → Type 0
    Only at ts = (p : ℕ) → at < p → is_edge ts p ≡ false → g p ≡ []

    past_quiet : (at : ℕ) (x : List ℕ) {z : List ℕ} {ts : Tokens} → Cutting sw (at + suc (length x)) z ts → Only at ts → Quiet (suc at) (length x)
    past_quiet at x c o = λ p h k. o p (omega arith) (no_edge sw c p (omega arith))

    past_only : (at n : ℕ) (ts : Tokens) → Only at ts → Only (at + suc n) ts
    past_only at n ts o = λ p h e. o p (omega arith) e

    took_quiet : (at : ℕ) (x : List ℕ) (form : Form) {z : List ℕ} {ts : Tokens} → Cutting sw (at + suc (length x)) z ts
        → Only at (L.next (cut_token form at (length x)) ts) → Quiet (suc at) (length x)
    took_quiet at x form {ts = ts} c o =
        λ p h k. o p (omega arith) (edge_off (cut_token form at (length x)) ts p (λ e. omega arith) (λ e. omega arith) (no_edge sw c p (omega arith)))

    took_only : (at n : ℕ) (form : Form) (ts : Tokens) → Only at (L.next (cut_token form at n) ts) → Only (at + suc n) ts
    took_only at n form ts o = λ p h e. o p (omega arith) (edge_off (cut_token form at n) ts p (λ q. omega arith) (λ q. omega arith) e)

    -- the bytes put at a place are passed over
    pass_put : (at n b : ℕ) (l : List ℕ) → cut sw 0 n (g at ++ (b ∷ l)) ≡ cut sw 0 (n + length (g at)) (b ∷ l)
    pass_put at n b l = (blank at).pass sw n (b ∷ l)

    gap_seam : (at : ℕ) (x : List ℕ) {z : List ℕ} {ts : Tokens} → Cutting sw (at + suc (length x)) z ts → Only at ts
        → ItemSeam x (L.gap (length x)) z (interleaved g (at + suc (length x)) z)
    unfolding ItemSeam
    gap_seam at x {z = z} c o =
        λ _ h.
        let e = o (at + suc (length x)) (omega arith) (line_edge sw c h) in
        ap (heads not_newline) (interleaved_is (at + suc (length x)) z) ∙ ap (λ (l : List ℕ). heads not_newline (l ++ behind (at + suc (length x)) z)) e
        ∙ behind_heads not_newline (at + suc (length x)) z ∙ h

    form_seam : (form : Form) (at : ℕ) (z : List ℕ) → FormSeam form z (interleaved g at z)
    form_seam form at z =
        subst (FormSeam form z) (sym (interleaved_is at z)) ((blank at).seam form z (behind at z) (λ t h. behind_heads t at z ∙ h))

    -- THE TOKENS of the new text are those of the old one, moved
    pub inserted_tokens : {at : ℕ} {s : List ℕ} {ts : Tokens} → Cutting sw at s ts → Only at ts
        → cut sw 0 (at + put_below g at) (interleaved g at s) ≡ map_tokens (new_start g) (new_stop g) ts
    unfolding map_tokens map_token EndsAt ItemSeam behind
    inserted_tokens (over {at = at}) o =
        let e : at + put_below g at + length (g at) ≡ new_start g at = new_start_law at 0 [] [] (λ p h k. absurd (omega arith)) in
        ap (cut sw 0 (at + put_below g at)) (interleaved_is at []) ∙ (blank at).pass sw (at + put_below g at) [] ∙ cut_end sw (at + put_below g at + length (g at)) ∙ ap L.end e
    inserted_tokens (pass {at = at} b x {z = z} {ts = ts} e c) o =
        let q = past_quiet at x c o in
        let n = at + put_below g at + length (g at) in
        let y = interleaved g (at + suc (length x)) z in
        ap (cut sw 0 (at + put_below g at)) (interleave_item at b x z q) ∙ pass_put at (at + put_below g at) b (x ++ y)
        ∙ cut_past sw n b x y (same_item sw b x z y (L.gap (length x)) refl (gap_seam at x c o) e)
        ∙ ap (λ (k : ℕ). cut sw 0 k y) (new_place at b x z q) ∙ inserted_tokens c (past_only at (length x) ts o)
    inserted_tokens (take {at = at} b x form {z = z} {ts = ts} e c) o =
        let q = took_quiet at x form c o in
        let n = at + put_below g at + length (g at) in
        let y = interleaved g (at + suc (length x)) z in
        let r = ap (λ (k : ℕ). cut sw 0 k y) (new_place at b x z q) ∙ inserted_tokens c (took_only at (length x) form ts o) in
        ap (cut sw 0 (at + put_below g at)) (interleave_item at b x z q) ∙ pass_put at (at + put_below g at) b (x ++ y)
        ∙ cut_took sw n b x y form (same_item sw b x z y (L.token form (length x)) refl (form_seam form (at + suc (length x)) z) e)
        ∙ (λ i. L.next (record { form = form; start = new_start_law at b x z q i; stop = new_stop_law at b x z q i }) (r i))

    whole_item : (at b : ℕ) (x z : List ℕ) {ts : Tokens} → Quiet (suc at) (length x) → Cutting sw (at + suc (length x)) z ts
        → is_whole (utf8 (b ∷ (x ++ z))) ≡ true
        → (is_whole (utf8 z) ≡ true → is_whole (utf8 (interleaved g (at + suc (length x)) z)) ≡ true) → is_whole (utf8 (interleaved g at (b ∷ (x ++ z)))) ≡ true
    whole_item at b x z q c h f =
        let w = utf8_front (b ∷ x) z (ascii_head sw c) h in
        let y = interleaved g (at + suc (length x)) z in
        ap (λ (l : List ℕ). is_whole (utf8 l)) (interleave_item at b x z q) ∙ utf8_append (g at) (b ∷ (x ++ y)) (blank at).whole
        ∙ utf8_append (b ∷ x) y w ∙ f (sym (utf8_append (b ∷ x) z w) ∙ h)

    -- and the new text is UTF-8
    pub inserted_whole : {at : ℕ} {s : List ℕ} {ts : Tokens} → Cutting sw at s ts → Only at ts → is_whole (utf8 s) ≡ true
        → is_whole (utf8 (interleaved g at s)) ≡ true
    unfolding interleaved
    inserted_whole (over {at = at}) o h = (blank at).whole
    inserted_whole (pass {at = at} b x {z = z} {ts = ts} e c) o h = whole_item at b x z (past_quiet at x c o) c h (λ k. inserted_whole c (past_only at (length x) ts o) k)
    inserted_whole (take {at = at} b x form {z = z} {ts = ts} e c) o h =
        whole_item at b x z (took_quiet at x form c o) c h (λ k. inserted_whole c (took_only at (length x) form ts o) k)
