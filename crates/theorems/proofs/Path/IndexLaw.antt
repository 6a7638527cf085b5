-- "a decimal index from 0 without leading zeros": such a step says the number that its digits make, and any other step says none.
-- Assumes nothing.
use mathlib.Core.Path.{◌≡◌, refl, sym, ap, ◌∙◌, subst}
use Prim.Native.Nat.{ℕ, ◌+◌, ◌-◌, ◌*◌, ◌<◌}
use Prim.Native.Char.{code}
use native.Mathlib.Omega.{arith}
use mathlib.Core.Bool.{Bool, true, false, cond}
use mathlib.Core.Option.{Option, none, some}
use mathlib.Core.List.{List, [], ◌∷◌, ◌++◌, append_assoc, append-nil}
use lib.Dec.{leb}
use borrow.Author.Tests.{eqb-true, eqb-false, ne_eqb, le-leb, leb-true}
use Rattle.text.specs.Bytes.{is, between, is_digit, digit_value}
use Rattle.text.proofs.Choice.{and_left, and_right, cond-case, cond-true}
use Rattle.path.specs.Path.{digits, alone, index}
use Rattle.nodes.proofs.WordLaws.{some_is, none_is}
use Rattle.theorems.specs.Path.{Decimal, nought, digit, further, IndicesRead}

-- ---- digits

digit_value_law : (b : ℕ) → is_digit b ≡ true → digit_value b ≡ b - code "0"
unfolding digit_value
digit_value_law b e = cond-true (is_digit b) _ _ e

-- a digit more, behind those that are read
digits_more : (v : ℕ) (s : List ℕ) (i b : ℕ) → digits v s ≡ some i → is_digit b ≡ true → digits v (s ++ (b ∷ [])) ≡ some (i * 10 + digit_value b)
unfolding digits
digits_more v [] i b e d =
    cond-true (is_digit b) _ none d ∙ ap (λ (n : ℕ). some (n * 10 + (b - code "0"))) (some_is e) ∙ ap (λ (n : ℕ). some (i * 10 + n)) (sym (digit_value_law b d))
digits_more v (c ∷ s) i b e d =
    cond-case (λ (o : Option ℕ). o ≡ some i) (digits v (c ∷ (s ++ (b ∷ []))) ≡ some (i * 10 + digit_value b)) (is_digit c) e
    (λ t q. cond-true (is_digit c) (digits (v * 10 + (c - code "0")) (s ++ (b ∷ []))) none t ∙ digits_more (v * 10 + (c - code "0")) s i b q d)
    (λ _ q. none_is q)

-- ---- a decimal is an index

-- a first byte that is not 0, and all digits
record Led (s : List ℕ) (i : ℕ) : Type 0 where
  first : ℕ
  rest : List ℕ
  is_it : s ≡ first ∷ rest
  not_zero : is "0" first ≡ false
  all : digits 0 s ≡ some i

high : (b : ℕ) → between "1" "9" b ≡ true → (is "0" b ≡ false) × (is_digit b ≡ true)
high b e =
    let l = leb-true 49 b (and_left (leb 49 b) (leb b 57) e) in
    let h = leb-true b 57 (and_right (leb 49 b) (leb b 57) e) in
    (ne_eqb b 48 (λ q. omega arith), rw (le-leb 48 b (omega arith), le-leb b 57 h))

led : (s : List ℕ) (i : ℕ) → Decimal s i → 0 < i → Led s i
unfolding digits
led s i nought p = absurd (omega arith)
led s i (digit b e) p =
    let h = high b e in
    record {
      first = b;
      rest = [];
      is_it = refl;
      not_zero = h.0;
      all = cond-true (is_digit b) _ none h.1 ∙ ap some (let q = digit_value_law b h.1 in omega arith);
    }
led s i (further t j b d q e) p =
    let L = led t j d q in
    record {
      first = L.first;
      rest = L.rest ++ (b ∷ []);
      is_it = ap (λ (l : List ℕ). l ++ (b ∷ [])) L.is_it;
      not_zero = L.not_zero;
      all = digits_more 0 t j b L.all e;
    }

says_led : (s : List ℕ) (i : ℕ) → Led s i → index s ≡ some i
unfolding index
says_led [] i L = let e = L.is_it in cc
says_led (b ∷ s) i L =
    let e : b ≡ L.first = let q = L.is_it in cc in
    let z : is "0" b ≡ false = ap (λ (x : ℕ). is "0" x) e ∙ L.not_zero in
    ap (λ (t : Bool). cond t (alone s) (digits 0 (b ∷ s))) z ∙ L.all

positive : (b : ℕ) → between "1" "9" b ≡ true → 0 < digit_value b
positive b e =
    let l = leb-true 49 b (and_left (leb 49 b) (leb b 57) e) in
    let q = digit_value_law b (high b e).1 in
    omega arith

decimal_says : (s : List ℕ) (i : ℕ) → Decimal s i → index s ≡ some i
unfolding index alone
decimal_says s i nought = refl
decimal_says s i (digit b e) = says_led (b ∷ []) (digit_value b) (led (b ∷ []) (digit_value b) (digit b e) (positive b e))
decimal_says s i (further t j b d q e) =
    says_led (t ++ (b ∷ [])) (j * 10 + digit_value b) (led (t ++ (b ∷ [])) (j * 10 + digit_value b) (further t j b d q e) (omega arith))

-- ---- an index is a decimal

-- what is read after a decimal that is not 0 makes another
digits_decimal : (p r : List ℕ) (v i : ℕ) → Decimal p v → 0 < v → digits v r ≡ some i → Decimal (p ++ r) i
unfolding digits
digits_decimal p [] v i d h e = subst (λ (l : List ℕ). Decimal l i) (sym (append-nil p)) (subst (Decimal p) (some_is e) d)
digits_decimal p (b ∷ r) v i d h e =
    cond-case (λ (o : Option ℕ). o ≡ some i) (Decimal (p ++ (b ∷ r)) i) (is_digit b) e
    (λ t q.
    let z : v * 10 + (b - code "0") ≡ v * 10 + digit_value b = ap (λ (n : ℕ). v * 10 + n) (sym (digit_value_law b t)) in
    subst (λ (l : List ℕ). Decimal l i) (append_assoc p (b ∷ []) r)
    (digits_decimal (p ++ (b ∷ [])) r (v * 10 + digit_value b) i (further p v b d h t) (omega arith) (ap (λ (n : ℕ). digits n r) (sym z) ∙ q)))
    (λ _ q. none_is q)

-- a digit that is not 0 is one from 1 to 9
low : (b : ℕ) → is_digit b ≡ true → is "0" b ≡ false → between "1" "9" b ≡ true
low b e z =
    let l = leb-true 48 b (and_left (leb 48 b) (leb b 57) e) in
    let h = leb-true b 57 (and_right (leb 48 b) (leb b 57) e) in
    let n = eqb-false b 48 z in
    rw (le-leb 49 b (omega arith), le-leb b 57 h)

alone_decimal : (b : ℕ) (s : List ℕ) (i : ℕ) → is "0" b ≡ true → alone s ≡ some i → Decimal (b ∷ s) i
unfolding alone
alone_decimal b [] i z e =
    subst (Decimal (b ∷ [])) (some_is e) (subst (λ (x : ℕ). Decimal (x ∷ []) 0) (sym (eqb-true b 48 z)) nought)
alone_decimal b (c ∷ s) i z e = none_is e

led_decimal : (b : ℕ) (s : List ℕ) (i : ℕ) → is "0" b ≡ false → digits 0 (b ∷ s) ≡ some i → Decimal (b ∷ s) i
unfolding digits
led_decimal b s i z e =
    cond-case (λ (o : Option ℕ). o ≡ some i) (Decimal (b ∷ s) i) (is_digit b) e
    (λ t q.
    let v : 0 * 10 + (b - code "0") ≡ digit_value b = let w = digit_value_law b t in omega arith in
    digits_decimal (b ∷ []) s (digit_value b) i (digit b (low b t z)) (positive b (low b t z)) (ap (λ (n : ℕ). digits n s) (sym v) ∙ q))
    (λ _ q. none_is q)

index_decimal : (s : List ℕ) (i : ℕ) → index s ≡ some i → Decimal s i
unfolding index
index_decimal [] i e = none_is e
index_decimal (b ∷ s) i e =
    cond-case (λ (o : Option ℕ). o ≡ some i) (Decimal (b ∷ s) i) (is "0" b) e (λ z q. alone_decimal b s i z q) (λ z q. led_decimal b s i z q)

-- ---- the claim

no_index_by : (s : List ℕ) (o : Option ℕ) → index s ≡ o → ((i : ℕ) → Decimal s i → ⊥) → o ≡ none
no_index_by s none e n = refl
no_index_by s (some i) e n = absurd (n i (index_decimal s i e))

pub indices_read : IndicesRead
unfolding IndicesRead
indices_read s = record { says = λ i d. decimal_says s i d; no_index = λ n. no_index_by s (index s) refl n }
