-- Contents behind their lengths: how they are written, where two of them differ, and the tests that tell them apart.
-- Assumes nothing.
use Rattle.std.specs.Prelude.{Some, None}
use mathlib.Core.Path.{◌≡◌, refl, sym, ap, ◌∙◌}
use Prim.Native.Nat.{ℕ, suc, ◌+◌, ◌-◌, ◌*◌, ◌/◌, ◌%◌, ◌^◌, ◌<◌, ◌≤◌}
use native.Mathlib.Omega.{arith}
use native.Mathlib.Numerals.{add-one}
use mathlib.Core.Bool.{Bool, true, false, cond}
use mathlib.Core.List.{List, [], ◌∷◌}
use lib.Dec.{eqb}
use lib.ListN.{length, get_or, set, take, drop, drop_of_length-le}
use lib.Seq.{drop-cons, drop-drop, get_or-drop}
use borrow.Author.Tests.{eqb-true, eqb-false, eq-eqb, ne_eqb, le-leb, lt-leb}
use Rattle.std.specs.Int.{w8, trailing_zeros}
use Rattle.std.specs.Int.Bits.{bit_xor, xor_add_and}
use Rattle.std.proofs.lemmas.Nat.{and_le_l, and_le_r, xor_of_8}
use Rattle.std.proofs.lemmas.Nat.Bits.{bit_at-trailing_zeros, bit_at_xor}
use Rattle.literals.specs.InternalContent.{CopiedAs}
use Rattle.reader.specs.Internal.Index.{key_bytes, prefixed, ContentIn, agreed, bit_at, miss_of, TellsBy}

-- ---- where two lists differ

split : (s : List ℕ) (i : ℕ) → i < length s → drop i s ≡ get_or s i 0 ∷ drop (i + 1) s
split s i h = rw (add-one, drop-cons s i 0)

module _ (a b : List ℕ) (i : ℕ) where
  first_is : get_or (drop i b) 0 0 ≡ get_or b i 0
  first_is = get_or-drop i b 0 0 ∙ ap (λ (k : ℕ). get_or b k 0) (omega arith)

  rest_is : drop 1 (drop i b) ≡ drop (i + 1) b
  rest_is = drop-drop 1 i b

  -- one byte more agrees
  pub agreed_on : i < length a → get_or a i 0 ≡ get_or b i 0 → agreed (drop i a) (drop i b) ≡ suc (agreed (drop (i + 1) a) (drop (i + 1) b))
  unfolding agreed
  agreed_on h e =
      ap (λ (l : List ℕ). agreed l (drop i b)) (split a i h)
      ∙ ap (λ (t : Bool). cond t (suc (agreed (drop (i + 1) a) (drop 1 (drop i b)))) 0) (eq-eqb (get_or a i 0) (get_or (drop i b) 0 0) (e ∙ sym first_is))
      ∙ ap (λ (l : List ℕ). suc (agreed (drop (i + 1) a) l)) rest_is

  pub agreed_not : i < length a → (get_or a i 0 ≡ get_or b i 0 → ⊥) → agreed (drop i a) (drop i b) ≡ 0
  unfolding agreed
  agreed_not h n =
      ap (λ (l : List ℕ). agreed l (drop i b)) (split a i h)
      ∙ ap (λ (t : Bool). cond t (suc (agreed (drop (i + 1) a) (drop 1 (drop i b)))) 0) (ne_eqb (get_or a i 0) (get_or (drop i b) 0 0) (λ e. n (e ∙ first_is)))

  pub agreed_end : length a ≤ i → agreed (drop i a) (drop i b) ≡ 0
  unfolding agreed
  agreed_end h = ap (λ (l : List ℕ). agreed l (drop i b)) (drop_of_length-le a h)

-- all agree, and one is as long as the other
agreed_same : (a b : List ℕ) → length a ≡ length b → agreed a b ≡ length a → a ≡ b
unfolding agreed
agreed_same [] [] l e = refl
agreed_same [] (y ∷ b) l e = let z : ⊥ = omega arith in absurd z
agreed_same (x ∷ a) [] l e = let z : ⊥ = omega arith in absurd z
agreed_same (x ∷ a) (y ∷ b) l e = by (eqb x y) refl e (agreed_same a b (omega arith))
  where
    by : (t : Bool) → eqb x y ≡ t → cond t (suc (agreed a b)) 0 ≡ suc (length a) → (agreed a b ≡ length a → a ≡ b) → (x ∷ a) ≡ (y ∷ b)
    by true t q f = let u = eqb-true x y t in let v = f (omega arith) in (λ i. u i ∷ v i)
    by false t q f = let z : ⊥ = omega arith in absurd z

-- the byte behind those that agree is another
pub agreed_differ : (a b : List ℕ) → agreed a b < length a → get_or a (agreed a b) 0 ≡ get_or b (agreed a b) 0 → ⊥
unfolding agreed
agreed_differ [] b h e = omega arith
agreed_differ (x ∷ a) b h e = by (eqb x (get_or b 0 0)) refl h e (agreed_differ a (drop 1 b))
  where
    by : (t : Bool) → eqb x (get_or b 0 0) ≡ t → cond t (suc (agreed a (drop 1 b))) 0 < suc (length a)
        → get_or (x ∷ a) (cond t (suc (agreed a (drop 1 b))) 0) 0 ≡ get_or b (cond t (suc (agreed a (drop 1 b))) 0) 0
        → (agreed a (drop 1 b) < length a → get_or a (agreed a (drop 1 b)) 0 ≡ get_or (drop 1 b) (agreed a (drop 1 b)) 0 → ⊥) → ⊥
    by true t g q f =
        f (omega arith) (q ∙ ap (λ (k : ℕ). get_or b k 0) (let u : suc (agreed a (drop 1 b)) ≡ 1 + agreed a (drop 1 b) = omega arith in u) ∙ sym (get_or-drop 1 b (agreed a (drop 1 b)) 0))
    by false t g q f = eqb-false x (get_or b 0 0) t q

-- two contents behind their lengths that agree are one
pub prefixed_same : (w v : List ℕ) → agreed (prefixed w) (prefixed v) ≡ length (prefixed w) → w ≡ v
unfolding prefixed agreed
prefixed_same w v e = by (eqb (length w / 256 + 1) (length v / 256 + 1)) (eqb (length w % 256) (length v % 256)) refl refl e
  where
    by : (t u : Bool) → eqb (length w / 256 + 1) (length v / 256 + 1) ≡ t → eqb (length w % 256) (length v % 256) ≡ u
        → cond t (suc (cond u (suc (agreed w v)) 0)) 0 ≡ suc (suc (length w)) → w ≡ v
    by true true t u q =
        let a = eqb-true (length w / 256 + 1) (length v / 256 + 1) t in
        let b = eqb-true (length w % 256) (length v % 256) u in
        agreed_same w v (omega arith) (omega arith)
    by true false t u q = let z : ⊥ = omega arith in absurd z
    by false u t _ q = let z : ⊥ = omega arith in absurd z

-- the first byte is not 0
pub prefixed_first : (w : List ℕ) → get_or (prefixed w) 0 0 ≡ 0 → ⊥
unfolding prefixed
prefixed_first w e = omega arith

pub prefixed_length : (w : List ℕ) → length (prefixed w) ≡ length w + 2
unfolding prefixed
prefixed_length w = omega arith

-- ---- tests

pub bit_low : (s : List ℕ) (p : ℕ) → bit_at s p < 2
unfolding bit_at
bit_low s p = omega arith

pub below_two : (n : ℕ) → n % 2 < 2
below_two n = omega arith

twice_even : (n : ℕ) → (n % 2 + n % 2) % 2 ≡ 0
twice_even n = omega arith

same_parity : (n m : ℕ) → (m % 2 + n % 2) % 2 ≡ 0 → n % 2 ≡ m % 2
same_parity n m e = omega arith

-- the test of bit j of byte i with the value v
miss_by : (s : List ℕ) (i j v b : ℕ) → j < 8 → v < 2 → get_or s i 0 / 2 ^ j % 2 ≡ b → miss_of ((i * 8 + j) * 2 + v) s ≡ (b + v) % 2
unfolding miss_of bit_at
miss_by s i j v b h k e =
    let t : ((i * 8 + j) * 2 + v) / 2 ≡ i * 8 + j = omega arith in
    let p : (i * 8 + j) / 8 ≡ i = omega arith in
    let q : (i * 8 + j) % 8 ≡ j = omega arith in
    let f : get_or s (((i * 8 + j) * 2 + v) / 2 / 8) 0 / 2 ^ (((i * 8 + j) * 2 + v) / 2 % 8) % 2 ≡ b =
    ap (λ (k : ℕ). get_or s (k / 8) 0 / 2 ^ (k % 8) % 2) t ∙ (λ n. get_or s (p n) 0 / 2 ^ q n % 2) ∙ e in
    let g : (b + ((i * 8 + j) * 2 + v) % 2) % 2 ≡ (b + v) % 2 = omega arith in
    ap (λ (x : ℕ). (x + ((i * 8 + j) * 2 + v) % 2) % 2) f ∙ g

pub tells_bit : (i own other j : ℕ) → j < 8 → (own / 2 ^ j % 2 ≡ other / 2 ^ j % 2 → ⊥) → TellsBy i own other ((i * 8 + j) * 2 + own / 2 ^ j % 2)
tells_bit i own other j low n =
    record {
      is =
          λ s t p q.
          let a = miss_by s i j (own / 2 ^ j % 2) (own / 2 ^ j % 2) low (below_two (own / 2 ^ j)) (ap (λ (b : ℕ). b / 2 ^ j % 2) p) in
          let b = miss_by t i j (own / 2 ^ j % 2) (other / 2 ^ j % 2) low (below_two (own / 2 ^ j)) (ap (λ (b : ℕ). b / 2 ^ j % 2) q) in
          record {
            own = eq-eqb (miss_of ((i * 8 + j) * 2 + own / 2 ^ j % 2) s) 0 (a ∙ twice_even (own / 2 ^ j));
            apart = ne_eqb (miss_of ((i * 8 + j) * 2 + own / 2 ^ j % 2) t) 0 (λ e. n (same_parity (own / 2 ^ j) (other / 2 ^ j) (sym b ∙ e)));
          };
    }

-- the lowest bit in which two bytes differ
module _ (own other : ℕ) (h : own < 256) (k : other < 256) (n : own ≡ other → ⊥) where
  some_bit : 0 < bit_xor own other
  some_bit = let e = xor_add_and own other in let a = and_le_l own other in let b = and_le_r own other in omega (arith, e, a, b)

  lowest : (trailing_zeros w8 (bit_xor own other) < 8) × (bit_xor own other / 2 ^ trailing_zeros w8 (bit_xor own other) % 2 ≡ 1)
  lowest = let l = bit_at-trailing_zeros w8 (bit_xor own other) some_bit (xor_of_8 own other h k) in (l.0, l.1)

  pub differing_low : trailing_zeros w8 (bit_xor own other) < 8
  differing_low = lowest.0

  pub differing_bit : own / 2 ^ trailing_zeros w8 (bit_xor own other) % 2 ≡ other / 2 ^ trailing_zeros w8 (bit_xor own other) % 2 → ⊥
  differing_bit e =
      let x = bit_at_xor own other (trailing_zeros w8 (bit_xor own other)) in
      let l = lowest.1 in
      omega (arith, x, l, e)

-- ---- what writing a key leaves

-- the content from the third byte on, and its length before it
behind : (out w : List ℕ) (r : ℕ) → 2 ≤ length out → r ≡ 2 + length w → drop 2 (take r out) ≡ w → take r (set (set out 0 ((r - 2) / 256 + 1)) 1 ((r - 2) % 256)) ≡ prefixed w
unfolding prefixed
behind [] w r h e d = let z : ⊥ = omega arith in absurd z
behind (x ∷ []) w r h e d = let z : ⊥ = omega arith in absurd z
behind (x ∷ y ∷ l) w r h e d =
    let u : r ≡ suc (suc (length w)) = omega arith in
    let v : r - 2 ≡ length w = omega arith in
    let k : take (length w) l ≡ w = sym (ap (λ (n : ℕ). drop 2 (take n (x ∷ y ∷ l))) u) ∙ d in
    (λ i. take (u i) ((v i / 256 + 1) ∷ v i % 256 ∷ l)) ∙ ap (λ (t : List ℕ). (length w / 256 + 1) ∷ length w % 256 ∷ t) k

module _ {w out : List ℕ} (l : length out ≡ key_bytes) where
  pub key_short : {r : ℕ} → CopiedAs w 2 out (Some r) → ContentIn w (set (set out 0 ((r - 2) / 256 + 1)) 1 ((r - 2) % 256)) (Some r)
  key_short {r} C =
      let k = C.is in
      record { is = (le-leb (length w + 2) key_bytes (omega arith), omega arith, behind out w r (omega arith) k.0 k.2) }

  pub key_long : CopiedAs w 2 out None → ContentIn w out None
  key_long C = let k = C.is in record { is = lt-leb (length w + 2) key_bytes (omega arith) }

pub agreed_within : (a b : List ℕ) → agreed a b ≤ length a
unfolding agreed
agreed_within [] b = omega arith
agreed_within (x ∷ a) b = by (eqb x (get_or b 0 0)) (agreed_within a (drop 1 b))
  where
    by : (t : Bool) → agreed a (drop 1 b) ≤ length a → cond t (suc (agreed a (drop 1 b))) 0 ≤ suc (length a)
    by true h = omega arith
    by false h = omega arith
