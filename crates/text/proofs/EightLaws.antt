-- The UTF-8 check: what a test of eight bytes or-ed together says, a step over eight plain bytes, a step over one character, and the loop
-- that makes them.
-- Assumes nothing.
use mathlib.Core.Path.{◌≡◌, refl, sym, ap, ◌∙◌, subst}
use Prim.Native.Nat.{ℕ, zero, suc, ◌+◌, ◌<◌, ◌≤◌}
use native.Mathlib.Numerals.{add-one}
use native.Mathlib.Omega.{arith}
use mathlib.Core.Bool.{Bool, true, false, cond, ◌&&◌, false≢true}
use mathlib.Core.List.{List, [], ◌∷◌}
use lib.Dec.{ltb}
use lib.Bits.{bit_or, or_lt, or_add_and, and_le_l, and_le_r}
use lib.ListN.{length, take, drop, get_or, length-drop, drop_of_length-le, take-append-drop}
use lib.Seq.{drop-cons, drop-drop, take-nil}
use borrow.Author.Tests.{ltb-true, ltb-false, lt-ltb, le-ltb, le-leb}
use Rattle.text.specs.Bytes.{feed}
use Rattle.text.specs.declared.utf8.Utf8.{Utf8}
use Rattle.text.specs.declared.utf8.Utf8.TheVariants.{Whole, Part, Broken}
use Rattle.text.specs.Utf8.{lead, utf8_step, utf8, is_whole, whole_front, plain, plain_eight, eight_here, eights, plain_eights}
use Rattle.text.specs.Internal.{is_part, character_end}
use Rattle.text.proofs.Choice.{cond-true, cond-false, and_left, and_right, and_off}
use Rattle.text.proofs.FeedLaws.{feed_turn, feed_done, feed_stays, feed_append}
use Rattle.text.proofs.Utf8Laws.{After, step_after, after_next, Keeps, lead_keeps, step_keeps}

-- ---- the test

-- two bytes are plain exactly if the two or-ed are
or_plain : (x y : ℕ) (t u : Bool) → ltb x 0x80 ≡ t → ltb y 0x80 ≡ u → ltb (bit_or x y) 0x80 ≡ t && u
or_plain x y true true e f = lt-ltb (bit_or x y) 0x80 (or_lt 7 x y (ltb-true x 0x80 e) (ltb-true y 0x80 f))
or_plain x y true false e f =
    let h = ltb-false y 0x80 f in
    let sum = or_add_and x y in
    let less = and_le_l x y in
    le-ltb (bit_or x y) 0x80 (omega arith)
or_plain x y false u e f =
    let h = ltb-false x 0x80 e in
    let sum = or_add_and x y in
    let less = and_le_r x y in
    le-ltb (bit_or x y) 0x80 (omega arith)

and_assoc : (a b c : Bool) → a && (b && c) ≡ (a && b) && c
and_assoc true b c = refl
and_assoc false b c = refl

and_on : (a : Bool) → a && true ≡ a
and_on true = refl
and_on false = refl

-- the bytes or-ed so far, and one byte more
or_next : (s : List ℕ) (j m k x : ℕ) → m ≡ j + 1 → j < length s
    → ltb x 0x80 && plain (suc k) (drop j s) ≡ ltb (bit_or x (get_or s j 0)) 0x80 && plain k (drop m s)
unfolding plain
or_next s j m k x e h =
    let q : m ≡ suc j = e ∙ add-one j in
    ap (λ (l : List ℕ). ltb x 0x80 && plain (suc k) l) (drop-cons s j 0 h)
    ∙ and_assoc (ltb x 0x80) (ltb (get_or s j 0) 0x80) (plain k (drop (suc j) s))
    ∙ ap (λ (t : Bool). t && plain k (drop (suc j) s)) (sym (or_plain x (get_or s j 0) _ _ refl refl))
    ∙ ap (λ (n : ℕ). ltb (bit_or x (get_or s j 0)) 0x80 && plain k (drop n s)) (sym q)

pub eight_or : (s : List ℕ) (i : ℕ) → i + 8 ≤ length s
    → ltb (bit_or (bit_or (bit_or (bit_or (bit_or (bit_or (bit_or (get_or s i 0) (get_or s (i + 1) 0)) (get_or s (i + 2) 0)) (get_or s (i + 3) 0)) (get_or s (i + 4) 0)) (get_or s (i + 5) 0)) (get_or s (i + 6) 0)) (get_or s (i + 7) 0)) 0x80
    ≡ plain_eight (drop i s)
unfolding plain plain_eight
eight_or s i h =
    let a = get_or s i 0 in
    let b = bit_or a (get_or s (i + 1) 0) in
    let c = bit_or b (get_or s (i + 2) 0) in
    let d = bit_or c (get_or s (i + 3) 0) in
    let e = bit_or d (get_or s (i + 4) 0) in
    let f = bit_or e (get_or s (i + 5) 0) in
    let g = bit_or f (get_or s (i + 6) 0) in
    sym (ap (plain 8) (drop-cons s i 0 (omega arith))
    ∙ ap (λ (n : ℕ). ltb (get_or s i 0) 0x80 && plain 7 (drop n s)) (sym (add-one i))
    ∙ or_next s (i + 1) (i + 2) 6 a (omega arith) (omega arith)
    ∙ or_next s (i + 2) (i + 3) 5 b (omega arith) (omega arith)
    ∙ or_next s (i + 3) (i + 4) 4 c (omega arith) (omega arith)
    ∙ or_next s (i + 4) (i + 5) 3 d (omega arith) (omega arith)
    ∙ or_next s (i + 5) (i + 6) 2 e (omega arith) (omega arith)
    ∙ or_next s (i + 6) (i + 7) 1 f (omega arith) (omega arith)
    ∙ or_next s (i + 7) (i + 8) 0 g (omega arith) (omega arith)
    ∙ and_on (ltb (bit_or g (get_or s (i + 7) 0)) 0x80))

plain_long : (k : ℕ) (s : List ℕ) → plain k s ≡ true → k ≤ length s
unfolding plain
plain_long zero s e = omega arith
plain_long (suc k) [] e = absurd (false≢true e)
plain_long (suc k) (b ∷ s) e = let h = plain_long k s (and_right (ltb b 0x80) (plain k s) e) in omega arith

pub eight_long : (s : List ℕ) (i : ℕ) → plain_eight (drop i s) ≡ true → i + 8 ≤ length s
unfolding plain_eight
eight_long s i e = let h = plain_long 8 (drop i s) e in let n = length-drop i s in omega arith

pub eight_short : (s : List ℕ) (i : ℕ) → length s < i + 8 → false ≡ plain_eight (drop i s)
eight_short s i h = by_test (plain_eight (drop i s)) refl
  where
    by_test : (t : Bool) → plain_eight (drop i s) ≡ t → false ≡ t
    by_test true e = let l = eight_long s i e in absurd (omega arith)
    by_test false e = refl

-- ---- one step over eight bytes

lead_plain : (n b : ℕ) → ltb b 0x80 ≡ true → lead n b ≡ Whole (n + 1)
unfolding lead
lead_plain n b e = let h = ltb-true b 0x80 e in rw (le-leb b 0x7F (omega arith))

-- what goes along with the machine byte by byte, and counts down, passes over plain bytes
plain_over : {A : Type 0} (f : ℕ → Utf8 → List ℕ → A) → ((k : ℕ) (u : Utf8) (b : ℕ) (s : List ℕ) → f (suc k) u (b ∷ s) ≡ f k (utf8_step u b) s)
    → (k n : ℕ) (s : List ℕ) → plain k s ≡ true → f k (Whole n) s ≡ f 0 (Whole (n + k)) (drop k s)
unfolding plain utf8_step
plain_over f on zero n s e = let z : n ≡ n + 0 = omega arith in ap (λ (m : ℕ). f 0 (Whole m) s) z
plain_over f on (suc k) n [] e = absurd (false≢true e)
plain_over f on (suc k) n (b ∷ s) e =
    let z : n + 1 + k ≡ n + suc k = omega arith in
    on k (Whole n) b s
    ∙ ap (λ (u : Utf8). f k u s) (lead_plain n b (and_left (ltb b 0x80) (plain k s) e))
    ∙ plain_over f on k (n + 1) s (and_right (ltb b 0x80) (plain k s) e)
    ∙ ap (λ (m : ℕ). f 0 (Whole m) (drop k s)) z

-- an eight begins: it counts one, and seven bytes of it are left
begins_eight : (n : ℕ) (s : List ℕ) → plain_eight s ≡ true → eights 0 (Whole n) s ≡ suc (eights 8 (Whole n) s)
unfolding eights eight_here is_whole plain_eight plain
begins_eight n [] e = absurd (false≢true e)
begins_eight n (b ∷ s) e =
    ap (λ (t : Bool). cond t 1 0 + eights (cond t 7 0) (utf8_step (Whole n) b) s) e ∙ one (eights 7 (utf8_step (Whole n) b) s)
  where
    one : (m : ℕ) → 1 + m ≡ suc m
    one m = omega arith

module _ (s : List ℕ) (i : ℕ) where
  eight_fed : plain_eight (drop i s) ≡ true → feed utf8_step (Whole i) (drop i s) ≡ feed utf8_step (Whole (i + 8)) (drop (i + 8) s)
  unfolding plain_eight feed
  eight_fed e =
      plain_over (λ (_ : ℕ). feed utf8_step) (λ k u b l. refl) 8 i (drop i s) e ∙ ap (feed utf8_step (Whole (i + 8))) (drop-drop 8 i s)

  eight_counted : plain_eight (drop i s) ≡ true → eights 0 (Whole i) (drop i s) ≡ suc (eights 0 (Whole (i + 8)) (drop (i + 8) s))
  unfolding plain_eight eights
  eight_counted e =
      begins_eight i (drop i s) e
      ∙ ap suc (plain_over eights (λ k u b l. refl) 8 i (drop i s) e ∙ ap (eights 0 (Whole (i + 8))) (drop-drop 8 i s))

-- ---- one step over one character

-- no eight begins here
count_on : (u : Utf8) (b : ℕ) (s : List ℕ) → eight_here u (b ∷ s) ≡ false → eights 0 u (b ∷ s) ≡ eights 0 (utf8_step u b) s
unfolding eights
count_on u b s e = ap (λ (t : Bool). cond t 1 0 + eights (cond t 7 0) (utf8_step u b) s) e ∙ none (eights 0 (utf8_step u b) s)
  where
    none : (m : ℕ) → 0 + m ≡ m
    none m = omega arith

count_turn : (s : List ℕ) (j : ℕ) (u next : Utf8) → j < length s → eight_here u (drop j s) ≡ false → next ≡ utf8_step u (get_or s j 0)
    → eights 0 u (drop j s) ≡ eights 0 next (drop (j + 1) s)
count_turn s j u next h e f =
    let cut = drop-cons s j 0 h in
    ap (eights 0 u) cut
    ∙ count_on u (get_or s j 0) (drop (suc j) s) (ap (eight_here u) (sym cut) ∙ e)
    ∙ (λ z. eights 0 (sym f z) (drop (sym (add-one j) z) s))

count_end : (u : Utf8) (s : List ℕ) (j : ℕ) → length s ≤ j → eights 0 u (drop j s) ≡ 0
unfolding eights
count_end u s j h = ap (eights 0 u) (drop_of_length-le s h)

-- nor in the first k bytes, if the machine is not whole before them nor between them
count_past : (k : ℕ) (u : Utf8) (l : List ℕ) → ((m : ℕ) → m < k → is_whole (feed utf8_step u (take m l)) ≡ false)
    → eights 0 u l ≡ eights 0 (feed utf8_step u (take k l)) (drop k l)
unfolding feed eight_here
count_past zero u l f = refl
count_past (suc k) u [] f = refl
count_past (suc k) u (b ∷ l) f =
    count_on u b l (and_off (is_whole u) (plain_eight (b ∷ l)) (f 0 (omega arith)))
    ∙ count_past k (utf8_step u b) l (λ m h. f (suc m) (omega arith))

-- a character that began at i goes on
part_keeps : (i n read more low high b : ℕ) → n ≡ i → Keeps i (utf8_step (Part n read more low high) b)
unfolding whole_front
part_keeps i n read more low high b e = subst (λ (m : ℕ). Keeps m (utf8_step (Part n read more low high) b)) e (step_keeps (Part n read more low high) b)

-- a character that began at i, with the machine at u after the bytes before j: it is whole after k bytes more, and not before, and the
-- character ends at r; or it never is whole again, and r is i
pub data Leaves (i j : ℕ) (u : Utf8) (l : List ℕ) (r : ℕ) : Type 0 where
  ends : (k : ℕ) → r ≡ j + k → k ≤ length l → i < r → feed utf8_step u (take k l) ≡ Whole r
      → ((m : ℕ) → m < k → is_whole (feed utf8_step u (take m l)) ≡ false) → Leaves i j u l r
  fails : r ≡ i → whole_front (feed utf8_step u l) ≡ i → ((m : ℕ) → is_whole (feed utf8_step u (take m l)) ≡ false) → Leaves i j u l r

leaves : (i j : ℕ) (u : Utf8) (l : List ℕ) → After j u → Keeps i u → Leaves i j u l (character_end u l)
unfolding After Keeps feed utf8_step whole_front is_whole is_part character_end
leaves i j (Whole n) [] a k = ends 0 (omega arith) (omega arith) k refl (λ m h. absurd (omega arith))
leaves i j (Whole n) (b ∷ l) a k = ends 0 (omega arith) (omega arith) k refl (λ m h. absurd (omega arith))
leaves i j (Part n read more low high) [] a k = fails k k (λ m. ap (λ l. is_whole (feed utf8_step (Part n read more low high) l)) (take-nil m))
leaves i j (Part n read more low high) (b ∷ l) a k =
    on (character_end (utf8_step (Part n read more low high) b) l)
    (leaves i (suc j) (utf8_step (Part n read more low high) b) l (step_after j (Part n read more low high) b a)
    (part_keeps i n read more low high b k))
  where
    later_not : (k : ℕ) → ((m : ℕ) → m < k → is_whole (feed utf8_step (utf8_step (Part n read more low high) b) (take m l)) ≡ false)
        → (m : ℕ) → m < suc k → is_whole (feed utf8_step (Part n read more low high) (take m (b ∷ l))) ≡ false
    later_not k f zero h = refl
    later_not k f (suc m) h = f m (omega arith)

    on : (r : ℕ) → Leaves i (suc j) (utf8_step (Part n read more low high) b) l r → Leaves i j (Part n read more low high) (b ∷ l) r
    on r (ends k e h g f c) = ends (suc k) (omega arith) (omega arith) g f (later_not k c)
    on r (fails e f c) = fails e f (λ m. later_not m (λ x _. c x) m (omega arith))
leaves i j (Broken n) [] a k = fails k k (λ m. ap is_whole (feed_stays utf8_step (Broken n) (λ b. refl) (take m [])))
leaves i j (Broken n) (b ∷ l) a k =
    fails k (ap whole_front (feed_stays utf8_step (Broken n) (λ b. refl) (b ∷ l)) ∙ k)
    (λ m. ap is_whole (feed_stays utf8_step (Broken n) (λ b. refl) (take m (b ∷ l))))

-- the character whose first byte stands at i
pub leaves_from : (s : List ℕ) (i : ℕ)
    → Leaves i (i + 1) (lead i (get_or s i 0)) (drop (i + 1) s) (character_end (lead i (get_or s i 0)) (drop (i + 1) s))
unfolding utf8_step After
leaves_from s i =
    leaves i (i + 1) (lead i (get_or s i 0)) (drop (i + 1) s) (after_next i (get_or s i 0) (Whole i) (lead i (get_or s i 0)) refl refl)
    (lead_keeps i (get_or s i 0))

-- the check from the character's start at i on: it goes on from r, and stops where r is i
pub record Passed (s : List ℕ) (i r : ℕ) : Type 0 where
  pub goes_up : i ≤ r
  pub ends_inside : r ≤ length s
  pub goes_on : whole_front (feed utf8_step (Whole i) (drop i s)) ≡ whole_front (feed utf8_step (Whole r) (drop r s))
  pub counts_on : eights 0 (Whole i) (drop i s) ≡ eights 0 (Whole r) (drop r s)
  pub stops : r ≡ i → whole_front (feed utf8_step (Whole i) (drop i s)) ≡ i
  pub counts_no_more : r ≡ i → eights 0 (Whole i) (drop i s) ≡ 0

module _ (s : List ℕ) (i r : ℕ) where
  pub passed : i < length s → plain_eight (drop i s) ≡ false → r ≡ character_end (lead i (get_or s i 0)) (drop (i + 1) s) → Passed s i r
  unfolding utf8_step eight_here is_whole
  passed h p e = by_end (subst (Leaves i (i + 1) (lead i (get_or s i 0)) (drop (i + 1) s)) (sym e) (leaves_from s i))
    where
      fed : feed utf8_step (Whole i) (drop i s) ≡ feed utf8_step (lead i (get_or s i 0)) (drop (i + 1) s)
      fed = feed_turn utf8_step (Whole i) (lead i (get_or s i 0)) s i h refl

      counted : eights 0 (Whole i) (drop i s) ≡ eights 0 (lead i (get_or s i 0)) (drop (i + 1) s)
      counted = count_turn s i (Whole i) (lead i (get_or s i 0)) h p refl

      by_end : Leaves i (i + 1) (lead i (get_or s i 0)) (drop (i + 1) s) r → Passed s i r
      by_end (ends k e m g f c) =
          let n = length-drop (i + 1) s in
          let u = lead i (get_or s i 0) in
          let l = drop (i + 1) s in
          let there : drop k l ≡ drop r s = drop-drop k (i + 1) s ∙ ap (λ (x : ℕ). drop x s) (sym e) in
          let all : feed utf8_step u l ≡ feed utf8_step (Whole r) (drop k l) =
          ap (feed utf8_step u) (sym (take-append-drop k l)) ∙ feed_append utf8_step u (take k l) (drop k l)
          ∙ ap (λ (v : Utf8). feed utf8_step v (drop k l)) f in
          record {
            goes_up = omega arith;
            ends_inside = omega arith;
            goes_on = ap whole_front (fed ∙ all ∙ ap (feed utf8_step (Whole r)) there);
            counts_on = counted ∙ count_past k u l c ∙ (λ z. eights 0 (f z) (there z));
            stops = λ q. absurd (omega arith);
            counts_no_more = λ q. absurd (omega arith);
          }
      by_end (fails e f c) =
          record {
            goes_up = omega arith;
            ends_inside = omega arith;
            goes_on = ap (λ (x : ℕ). whole_front (feed utf8_step (Whole x) (drop x s))) (sym e);
            counts_on = ap (λ (x : ℕ). eights 0 (Whole x) (drop x s)) (sym e);
            stops = λ _. ap whole_front fed ∙ f;
            counts_no_more =
                λ _. counted ∙ count_past (length s) (lead i (get_or s i 0)) (drop (i + 1) s) (λ m _. c m)
                ∙ count_end (feed utf8_step (lead i (get_or s i 0)) (take (length s) (drop (i + 1) s))) (drop (i + 1) s) (length s)
                (let n = length-drop (i + 1) s in omega arith);
          }

-- the loop over the bytes of a character: one byte more, and its two ways out
pub end_turn : (s : List ℕ) (j : ℕ) (u next : Utf8) → j < length s → is_part u ≡ true → next ≡ utf8_step u (get_or s j 0)
    → character_end u (drop j s) ≡ character_end next (drop (j + 1) s)
unfolding character_end
end_turn s j u next h p e =
    ap (character_end u) (drop-cons s j 0 h)
    ∙ cond-true (is_part u) (character_end (utf8_step u (get_or s j 0)) (drop (suc j) s)) (whole_front u) p
    ∙ (λ z. character_end (sym e z) (drop (sym (add-one j) z) s))

pub end_out : (u : Utf8) (l : List ℕ) → is_part u ≡ false → character_end u l ≡ whole_front u
unfolding character_end
end_out u [] p = refl
end_out u (b ∷ l) p = cond-false (is_part u) (character_end (utf8_step u b) l) (whole_front u) p

pub end_done : (s : List ℕ) (j : ℕ) (u : Utf8) → length s ≤ j → character_end u (drop j s) ≡ whole_front u
unfolding character_end
end_done s j u h = ap (character_end u) (drop_of_length-le s h)

-- ---- the loop over a text

-- the check at i, with k eights behind it
pub record Checks (s : List ℕ) (i k : ℕ) : Type 0 where
  pub at_most : i ≤ length s
  pub few : k ≤ i
  pub front_so : whole_front (utf8 s) ≡ whole_front (feed utf8_step (Whole i) (drop i s))
  pub eights_so : plain_eights s ≡ k + eights 0 (Whole i) (drop i s)

pub checks_start : (s : List ℕ) → Checks s 0 0
unfolding utf8 plain_eights
checks_start s = record { at_most = omega arith; few = omega arith; front_so = refl; eights_so = omega arith }

module _ (s : List ℕ) (i k : ℕ) where
  pub checks_eight : Checks s i k → plain_eight (drop i s) ≡ true → Checks s (i + 8) (k + 1)
  checks_eight x e =
      let l = eight_long s i e in
      let c = eight_counted s i e in
      let p = x.eights_so in
      let f = x.few in
      record { at_most = l; few = omega arith; front_so = x.front_so ∙ ap whole_front (eight_fed s i e); eights_so = omega arith }

  pub checks_passed : (r : ℕ) → Checks s i k → Passed s i r → Checks s r k
  checks_passed r x y =
      let f = x.few in
      let g = y.goes_up in
      record {
        at_most = y.ends_inside;
        few = omega arith;
        front_so = x.front_so ∙ y.goes_on;
        eights_so = x.eights_so ∙ ap (λ (m : ℕ). k + m) y.counts_on;
      }

  pub checks_stop : (r : ℕ) → Checks s i k → Passed s i r → r ≡ i → (i ≡ whole_front (utf8 s)) × (k ≡ plain_eights s)
  checks_stop r x y e =
      let c = y.counts_no_more e in
      let p = x.eights_so in
      (sym (x.front_so ∙ y.stops e), omega arith)

  pub checks_end : Checks s i k → length s ≤ i → (i ≡ whole_front (utf8 s)) × (k ≡ plain_eights s)
  unfolding whole_front
  checks_end x h =
      let c = count_end (Whole i) s i h in
      let p = x.eights_so in
      (sym (x.front_so ∙ ap whole_front (feed_done utf8_step (Whole i) s i h)), omega arith)
