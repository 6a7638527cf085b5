-- The last entry of a journal: one law for each way out of its reading, and what each answer says.
-- Assumes nothing.
use Rattle.std.specs.declared.result.Result as Rust
use Rattle.std.specs.Prelude.{Ok, Err}
use mathlib.Core.Path.{◌≡◌, refl, sym, ap, subst, ◌∙◌}
use Prim.Native.Nat.{ℕ, ◌+◌, ◌-◌, ◌<◌, ◌≤◌}
use native.Mathlib.Omega.{arith}
use mathlib.Core.Bool.{Bool, true, false, cond, ◌||◌}
use mathlib.Core.List.{List}
use lib.Dec.{ltb, eqb}
use lib.ListN.{length, drop}
use borrow.Author.Tests.{lt-ltb, le-ltb, ltb-false, eq-eqb, ne_eqb, eqb-true, eqb-false}
use Rattle.text.proofs.Choice.{or_left, or_right}
use Rattle.editor.specs.declared.journal.Trailer.{Trailer}
use Rattle.editor.specs.Edit.{from_le32, trailer_number, entry_start, entry_new, entry_size, bad_entry, trailer_bytes}
use Rattle.editor.specs.Internal.{trailer_of, last_entry}

module _ (j t : List ℕ) where
  pub last_nothing : length j ≡ 0 → (Err 17) ≡ last_entry j t
  unfolding last_entry
  last_nothing e = sym (rw (eq-eqb (length j) 0 e))

  module _ (some : length j ≡ 0 → ⊥) where
    bad_is : bad_entry j t ≡ true → (Err 18) ≡ last_entry j t
    unfolding last_entry
    bad_is e = sym (rw (ne_eqb (length j) 0 some, e))

    pub last_short : length j < trailer_bytes → (Err 18) ≡ last_entry j t
    unfolding bad_entry
    last_short h = bad_is (rw (lt-ltb (length j) trailer_bytes h))

    module _ (long : trailer_bytes ≤ length j) (size : ℕ) (z : size ≡ from_le32 (drop (length j - trailer_bytes + 8) j)) where
      size_is : size ≡ entry_size j
      unfolding trailer_number
      size_is = z

      pub last_small : size < trailer_bytes → (Err 18) ≡ last_entry j t
      unfolding bad_entry
      last_small h = let e = size_is in bad_is (rw (le-ltb (length j) trailer_bytes long, lt-ltb (entry_size j) trailer_bytes (omega arith)))

      module _ (least : trailer_bytes ≤ size) where
        pub last_large : length j < size → (Err 18) ≡ last_entry j t
        unfolding bad_entry
        last_large h =
            let e = size_is in
            bad_is (rw (le-ltb (length j) trailer_bytes long, le-ltb (entry_size j) trailer_bytes (omega arith), lt-ltb (length j) (entry_size j) (omega arith)))

        module _ (most : size ≤ length j) (start new : ℕ) (a : start ≡ from_le32 (drop (length j - trailer_bytes) j)) (n : new ≡ from_le32 (drop (length j - trailer_bytes + 4) j)) where
          start_is : start ≡ entry_start j
          unfolding trailer_number
          start_is = let e : length j - trailer_bytes ≡ length j - trailer_bytes + 0 = omega arith in a ∙ ap (λ (k : ℕ). from_le32 (drop k j)) e

          new_is : new ≡ entry_new j
          unfolding trailer_number
          new_is = n

          pub last_past : length t < start + new → (Err 18) ≡ last_entry j t
          unfolding bad_entry
          last_past h =
              let e = size_is in
              let f = start_is in
              let g = new_is in
              bad_is (rw (
                le-ltb (length j) trailer_bytes long,
                le-ltb (entry_size j) trailer_bytes (omega arith),
                le-ltb (length j) (entry_size j) (omega arith),
                lt-ltb (length t) (entry_start j + entry_new j) (omega arith),
              ))

          good : start + new ≤ length t → bad_entry j t ≡ false
          unfolding bad_entry
          good h =
              let e = size_is in
              let f = start_is in
              let g = new_is in
              rw (
                le-ltb (length j) trailer_bytes long,
                le-ltb (entry_size j) trailer_bytes (omega arith),
                le-ltb (length j) (entry_size j) (omega arith),
                le-ltb (length t) (entry_start j + entry_new j) (omega arith),
              )

          pub last_good : start + new ≤ length t → Ok (trailer_of start (start + new) size) ≡ last_entry j t
          unfolding last_entry
          last_good h =
              (λ i. Ok (trailer_of (start_is i) (start_is i + new_is i) (size_is i)))
              ∙ sym (rw (ne_eqb (length j) 0 some, good h))

-- ---- back from an answer

abbrev judged : Bool → Bool → Trailer → Rust.Result Trailer ℕ
judged p q x = cond p (Err 17) (cond q (Err 18) (Ok x))

entry_number_by : (p q : Bool) (x : Trailer) (n : ℕ) (P : ℕ → Type 0) → judged p q x ≡ Err n
    → (judged p q x ≡ Err 17 → P 17) → (judged p q x ≡ Err 18 → P 18) → P n
entry_number_by true q x n P e a b = let h : 17 ≡ n = cc in subst P h (a refl)
entry_number_by false true x n P e a b = let h : 18 ≡ n = cc in subst P h (b refl)
entry_number_by false false x n P e a b = let h : ◌≡◌ {A = ℕ} 0 1 = cc in absurd (omega arith)

is_nothing : (p q : Bool) (x : Trailer) → judged p q x ≡ (Err 17) → p ≡ true
is_nothing true q x e = refl
is_nothing false true x e = cc
is_nothing false false x e = cc

is_bad : (p q : Bool) (x : Trailer) → judged p q x ≡ (Err 18) → (p ≡ false) × (q ≡ true)
is_bad true q x e = (cc, cc)
is_bad false true x e = (refl, refl)
is_bad false false x e = (cc, cc)

is_good_law : (p q : Bool) (x y : Trailer) → judged p q x ≡ Ok y → (p ≡ false) × (q ≡ false) × (x ≡ y)
is_good_law true q x y e = (cc, cc, cc)
is_good_law false true x y e = (cc, cc, cc)
is_good_law false false x y e = (refl, refl, cc)

module _ (j t : List ℕ) where
  -- an entry is refused with 17 or 18
  pub entry_number : (n : ℕ) (P : ℕ → Type 0) → last_entry j t ≡ Err n → (last_entry j t ≡ Err 17 → P 17) → (last_entry j t ≡ Err 18 → P 18) → P n
  unfolding last_entry
  entry_number n P e a b = entry_number_by (eqb (length j) 0) (bad_entry j t) _ n P e a b

  pub nothing_says : last_entry j t ≡ (Err 17) → length j ≡ 0
  unfolding last_entry
  nothing_says e = eqb-true (length j) 0 (is_nothing (eqb (length j) 0) (bad_entry j t) _ e)

  pub bad_says : last_entry j t ≡ (Err 18) → (length j ≡ 0 → ⊥) × (bad_entry j t ≡ true)
  unfolding last_entry
  bad_says e =
      let b = is_bad (eqb (length j) 0) (bad_entry j t) _ e in
      (eqb-false (length j) 0 b.0, b.1)

  -- what the trailer of a good entry says
  pub record Good (trailer : Trailer) : Type 0 where
    pub some : length j ≡ 0 → ⊥
    pub fine : bad_entry j t ≡ false
    pub start_says : entry_start j ≡ trailer.span.start
    pub stop_says : entry_start j + entry_new j ≡ trailer.span.stop
    pub size_says : entry_size j ≡ trailer.size
    pub forwards : trailer.span.start ≤ trailer.span.stop
    pub ends : trailer.span.stop ≤ length t
    pub least : trailer_bytes ≤ trailer.size
    pub most : trailer.size ≤ length j

  pub good_says : (trailer : Trailer) → last_entry j t ≡ Ok trailer → Good trailer
  unfolding last_entry bad_entry
  good_says trailer e =
      let l = is_good_law (eqb (length j) 0) (bad_entry j t) (trailer_of (entry_start j) (entry_start j + entry_new j) (entry_size j)) trailer e in
      let f : bad_entry j t ≡ false = l.1 in
      let a = ltb (length j) trailer_bytes in
      let b = ltb (entry_size j) trailer_bytes in
      let c = ltb (length j) (entry_size j) in
      let d = ltb (length t) (entry_start j + entry_new j) in
      let g₁ = ltb-false (entry_size j) trailer_bytes (or_right a b (or_left (a || b) c (or_left (a || b || c) d f))) in
      let g₂ = ltb-false (length j) (entry_size j) (or_right (a || b) c (or_left (a || b || c) d f)) in
      let g₃ = ltb-false (length t) (entry_start j + entry_new j) (or_right (a || b || c) d f) in
      let p : entry_start j ≡ trailer.span.start = ap (λ (x : Trailer). x.span.start) l.2 in
      let q : entry_start j + entry_new j ≡ trailer.span.stop = ap (λ (x : Trailer). x.span.stop) l.2 in
      let r : entry_size j ≡ trailer.size = ap (λ (x : Trailer). x.size) l.2 in
      record {
        some = eqb-false (length j) 0 l.0;
        fine = f;
        start_says = p;
        stop_says = q;
        size_says = r;
        forwards = omega arith;
        ends = omega arith;
        least = omega arith;
        most = omega arith;
      }
