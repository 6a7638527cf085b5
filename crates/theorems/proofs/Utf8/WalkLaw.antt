-- The walk of the UTF-8 check: it comes to the front that the machine counts, with the eights that the definition counts, and stops there;
-- and no other walk stops.
-- Assumes nothing.
use mathlib.Core.Path.{◌≡◌, refl, sym, ap, ◌∙◌, subst}
use Prim.Native.Nat.{ℕ, zero, suc, ◌+◌, ◌<◌, ◌≤◌}
use native.Mathlib.Numerals.{add-one}
use native.Mathlib.Omega.{arith}
use mathlib.Core.Bool.{Bool, true, false, true≢false}
use mathlib.Core.List.{List, ◌∷◌}
use lib.Dec.{ltb}
use lib.ListN.{length, take, drop, get_or, length-drop}
use lib.Seq.{drop-cons}
use borrow.Author.Tests.{ltb-true, ltb-false}
use Rattle.text.specs.Bytes.{feed}
use Rattle.text.specs.declared.utf8.Utf8.TheVariants.{Whole}
use Rattle.text.specs.Utf8.{lead, utf8_step, utf8, is_whole, is_utf8, whole_front, plain_eight, plain_eights}
use Rattle.text.specs.Internal.{character_end}
use Rattle.text.proofs.Utf8Join.{after_whole}
use Rattle.text.proofs.EightLaws.{Leaves, ends, fails, leaves_from, Passed, passed, Checks, checks_start, checks_eight, checks_passed, checks_stop, checks_end}
use Rattle.theorems.specs.Utf8.{Character, Walked, at_start, over_eight, over_character, Stops, EightsWalked}

-- ---- one character

-- the first bytes of a text, b and m of those after it, are UTF-8 exactly if the machine is whole after them, wherever it began
front_whole : (i b m : ℕ) (l : List ℕ) → is_utf8 (take (suc m) (b ∷ l)) ≡ is_whole (feed utf8_step (lead i b) (take m l))
unfolding is_utf8 feed utf8_step is_whole
front_whole i b m l = sym (after_whole (Whole i) (b ∷ take m l) refl)

-- the character that ends after k bytes more
character_there : (i b k r : ℕ) (l : List ℕ) → k ≤ length l → feed utf8_step (lead i b) (take k l) ≡ Whole r
    → ((m : ℕ) → m < k → is_whole (feed utf8_step (lead i b) (take m l)) ≡ false) → Character (b ∷ l) (suc k)
unfolding is_whole
character_there i b k r l h e f =
    record {
      some = omega arith;
      there = omega arith;
      valid = front_whole i b k l ∙ ap is_whole e;
      no_shorter = shorter;
    }
  where
    shorter : (m : ℕ) → 0 < m → m < suc k → is_utf8 (take m (b ∷ l)) ≡ false
    shorter zero p q = absurd (omega arith)
    shorter (suc m) p q = front_whole i b m l ∙ f m (omega arith)

-- none does
character_none : (i b : ℕ) (l : List ℕ) → ((m : ℕ) → is_whole (feed utf8_step (lead i b) (take m l)) ≡ false)
    → (n : ℕ) → Character (b ∷ l) n → ⊥
character_none i b l f zero c = let h = c.some in omega arith
character_none i b l f (suc n) c = true≢false (sym c.valid ∙ front_whole i b n l ∙ f n)

-- two characters at one place are as long
same_character : (l : List ℕ) (n m : ℕ) → Character l n → Character l m → n ≡ m
same_character l n m c d = by_order (ltb n m) (ltb m n) refl refl
  where
    shorter : (x y : ℕ) → Character l x → Character l y → x < y → ⊥
    shorter x y a b h = true≢false (sym a.valid ∙ b.no_shorter x a.some h)

    by_order : (t u : Bool) → ltb n m ≡ t → ltb m n ≡ u → n ≡ m
    by_order true u e f = absurd (shorter n m c d (ltb-true n m e))
    by_order false true e f = absurd (shorter m n d c (ltb-true m n f))
    by_order false false e f = let g = ltb-false n m e in let h = ltb-false m n f in omega arith

-- ---- what stands where the check does

module _ (s : List ℕ) where
  -- the check's two numbers
  abbrev Numbers : (i k : ℕ) → Type 0
  Numbers i k = (i ≡ whole_front (utf8 s)) × (k ≡ plain_eights s)

  -- an eight; or one character, behind which the check goes on; or neither, and the check is done
  data Here (i k : ℕ) : Type 0 where
    eight : plain_eight (drop i s) ≡ true → Here i k
    character : (n : ℕ) → plain_eight (drop i s) ≡ false → Character (drop i s) n → Checks s (i + n) k → Here i k
    neither : Stops s i → Numbers i k → Here i k

  -- within the text
  here_inside : (i k : ℕ) → i < length s → plain_eight (drop i s) ≡ false → Checks s i k → Here i k
  here_inside i k h e x = by_end (leaves_from s i)
    where
      cut : drop i s ≡ get_or s i 0 ∷ drop (i + 1) s
      cut = drop-cons s i 0 h ∙ ap (λ (n : ℕ). get_or s i 0 ∷ drop n s) (sym (add-one i))

      r : ℕ
      r = character_end (lead i (get_or s i 0)) (drop (i + 1) s)

      p : Passed s i r
      p = passed s i r h e refl

      by_end : Leaves i (i + 1) (lead i (get_or s i 0)) (drop (i + 1) s) r → Here i k
      by_end (ends m q n g f c) =
          let next : r ≡ i + suc m = omega arith in
          character (suc m) e
          (subst (λ (l : List ℕ). Character l (suc m)) (sym cut) (character_there i (get_or s i 0) m r (drop (i + 1) s) n f c))
          (subst (λ (n : ℕ). Checks s n k) next (checks_passed s i k r x p))
      by_end (fails q f c) =
          neither
          (record {
            no_eight = e;
            no_character = λ n d. character_none i (get_or s i 0) (drop (i + 1) s) c n (subst (λ (l : List ℕ). Character l n) cut d);
          })
          (checks_stop s i k r x p q)

  here : (i k : ℕ) → Checks s i k → Here i k
  here i k x = by_eight (plain_eight (drop i s)) refl
    where
      by_place : plain_eight (drop i s) ≡ false → (t : Bool) → ltb i (length s) ≡ t → Here i k
      by_place e true f = here_inside i k (ltb-true i (length s) f) e x
      by_place e false f =
          let h = ltb-false i (length s) f in
          neither
          (record { no_eight = e; no_character = λ n c. let l = c.there in let o = c.some in let d = length-drop i s in omega arith })
          (checks_end s i k x h)

      by_eight : (t : Bool) → plain_eight (drop i s) ≡ t → Here i k
      by_eight true e = eight e
      by_eight false e = by_place e (ltb i (length s)) refl

  -- ---- the walk

  abbrev Claimed : Type 0
  Claimed = Walked s (whole_front (utf8 s)) (plain_eights s) × Stops s (whole_front (utf8 s))

  -- one step more, with `on` for the walk from a later place; or the walk is done
  step : (i k : ℕ) → Checks s i k → Walked s i k → ((j c : ℕ) → i < j → Checks s j c → Walked s j c → Claimed) → Here i k → Claimed
  step i k x w on (eight e) = on (i + 8) (k + 1) (omega arith) (checks_eight s i k x e) (over_eight i k w e)
  step i k x w on (character n e c y) = let h = c.some in on (i + n) k (omega arith) y (over_character i k n w e c)
  step i k x w on (neither z e) =
      (subst (λ (n : ℕ). Walked s n (plain_eights s)) e.0 (subst (Walked s i) e.1 w), subst (Stops s) e.0 z)

  -- with at most `left` bytes still to come
  walk : (left i k : ℕ) → length s ≤ i + left → Checks s i k → Walked s i k → Claimed
  walk zero i k h x w = step i k x w (λ j c g y v. let l = y.at_most in absurd (omega arith)) (here i k x)
  walk (suc left) i k h x w = step i k x w (λ j c g y v. walk left j c (omega arith) y v) (here i k x)

  -- ---- the only walk

  walked_checks : (i k : ℕ) → Walked s i k → Checks s i k
  walked_checks _ _ at_start = checks_start s
  walked_checks _ _ (over_eight i k w e) = checks_eight s i k (walked_checks i k w) e
  walked_checks _ _ (over_character i k n w e c) = by_here (here i k (walked_checks i k w))
    where
      by_here : Here i k → Checks s (i + n) k
      by_here (eight f) = absurd (true≢false (sym f ∙ e))
      by_here (character m f d y) = subst (λ (x : ℕ). Checks s (i + x) k) (same_character (drop i s) m n d c) y
      by_here (neither z y) = absurd (z.no_character n c)

  stops_there : (i k : ℕ) → Checks s i k → Stops s i → Numbers i k
  stops_there i k x z = by_here (here i k x)
    where
      by_here : Here i k → Numbers i k
      by_here (eight e) = absurd (true≢false (sym e ∙ z.no_eight))
      by_here (character n e c y) = absurd (z.no_character n c)
      by_here (neither y e) = e

pub eights_walked : EightsWalked
unfolding EightsWalked
eights_walked s =
    let c = walk s (length s) 0 0 (omega arith) (checks_start s) at_start in
    record { walked = c.0; stops = c.1; only = λ i k w z. stops_there s i k (walked_checks s i k w) z }
