-- What opens a string: by the bytes at a place, how far it reaches, and that it says what `item` says.
-- Assumes nothing.
use Rattle.std.specs.Prelude.{Err}
use mathlib.Core.Path.{◌≡◌, refl, sym, ap, ◌∙◌, subst}
use Prim.Native.Nat.{ℕ, zero, suc, ◌+◌, ◌-◌, ◌≤◌, ◌<◌}
use native.Mathlib.Nat.{suc-add}
use native.Mathlib.Omega.{arith}
use mathlib.Core.Bool.{Bool, true, false, not, cond, ◌&&◌, ◌||◌, false≢true}
use mathlib.Core.List.{List, [], ◌∷◌}
use lib.Dec.{T, eqb, eqb→eq}
use lib.ListN.{length, take, drop, get_or, length-drop}
use lib.Seq.{drop-drop, drop-cons, get_or-drop}
use borrow.Author.Tests.{eq-eqb, ne_eqb, lt-ltb}
use Rattle.text.specs.declared.switches.Switches.{Switches}
use Rattle.text.specs.Bytes.{front, starts_with, is, Class, class_of, class_number, one_of}
use Rattle.text.proofs.Choice.{cond_both, both_right}
use Rattle.text.proofs.ClassLaws.{class_at, class_by, quote_number}
use Rattle.literals.specs.declared.decoder.Body.TheVariants as Y
use Rattle.lexer.specs.declared.opening.StringHead.{StringHead}
use Rattle.lexer.specs.declared.opening.Opening.{Opening}
use Rattle.lexer.specs.declared.opening.Opening.TheVariants as O
use Rattle.text.proofs.ListLaws.{part_to_end}
use Rattle.lexer.specs.Token.{fault, string_item, hash_count, raw_item, opens_raw, word_item, small_item, item_of, item, item_at}
use Rattle.lexer.specs.Opening.{string_opening, raw_opening, bytes_opening, opening_of, opened_item}
use Rattle.lexer.specs.Answer.{found, found_at}
use Rattle.lexer.proofs.ItemCases.{begins_le}

-- ---- what opens, by the bytes at a place

and_true : (a : Bool) → (a && true) ≡ a
and_true true = refl
and_true false = refl

begins_next : (s : List ℕ) (i x : ℕ) (xs : List ℕ) → 0 < x
    → starts_with (x ∷ xs) (drop i s) ≡ (eqb (get_or s i 0) x && starts_with xs (drop (i + 1) s))
unfolding starts_with
begins_next [] zero x xs h = let n : 0 ≡ x → ⊥ = λ e. omega arith in rw (ne_eqb 0 x n)
begins_next [] (suc i) x xs h = let n : 0 ≡ x → ⊥ = λ e. omega arith in rw (ne_eqb 0 x n)
begins_next (y ∷ s) zero x xs h = refl
begins_next (y ∷ s) (suc i) x xs h =
    begins_next s i x xs h ∙ ap (λ (n : ℕ). eqb (get_or s i 0) x && starts_with xs (drop n (y ∷ s))) (sym (suc-add i 1))

begins_one : (s : List ℕ) (i x : ℕ) → 0 < x → starts_with (x ∷ []) (drop i s) ≡ eqb (get_or s i 0) x
unfolding starts_with
begins_one s i x h = begins_next s i x [] h ∙ and_true (eqb (get_or s i 0) x)

-- `64"` from i on
pub base64_at : (s : List ℕ) (i : ℕ)
    → starts_with (54 ∷ 52 ∷ 34 ∷ []) (drop i s) ≡ (eqb (get_or s i 0) 54 && (eqb (get_or s (i + 1) 0) 52 && eqb (get_or s (i + 2) 0) 34))
base64_at s i =
    let e : i + 1 + 1 ≡ i + 2 = omega arith in
    rw (begins_next s i 54 (52 ∷ 34 ∷ []) (omega arith), begins_next s (i + 1) 52 (34 ∷ []) (omega arith), begins_one s (i + 1 + 1) 34 (omega arith), e)

-- hashes from `from` on, k of them, and the byte behind them
pub raw_at_law : (isText : Bool) (before : ℕ) (s : List ℕ) (from k : ℕ) → k ≡ front (is "#") (take (length s - from) (drop from s))
    → raw_opening isText before (drop from s)
    ≡ cond (eqb (get_or s (from + k) 0) 34) (string_opening isText Y.Raw (before + k + 1) k) (cond (eqb k 0) O.Nothing O.Broken)
unfolding raw_opening hash_count
raw_at_law isText before s from k e =
    let h = rw (part_to_end s from) at e in
    rw (← h, drop-drop k from s, begins_one s (from + k) 34 (omega arith))

module _ (sw : Switches) (s : List ℕ) (i : ℕ) where
  pub bytes_at_law : bytes_opening sw (drop i s)
      ≡ cond (eqb (get_or s i 0) 34) (string_opening false Y.Quoted 2 0)
      (cond (sw.base64 && starts_with (54 ∷ 52 ∷ 34 ∷ []) (drop i s)) (string_opening false Y.Base64 4 0)
      (cond (eqb (get_or s i 0) 114) (raw_opening false 2 (drop (i + 1) s)) O.Nothing))
  unfolding bytes_opening
  bytes_at_law = rw (begins_one s i 34 (omega arith), begins_one s i 114 (omega arith), drop-drop 1 i s)

  pub opening_at : opening_of sw (drop i s)
      ≡ cond (eqb (get_or s i 0) 34) (string_opening true Y.Quoted 1 0)
      (cond (eqb (get_or s i 0) 98) (bytes_opening sw (drop (i + 1) s))
      (cond (eqb (get_or s i 0) 114) (raw_opening true 1 (drop (i + 1) s)) O.Nothing))
  unfolding opening_of
  opening_at = rw (begins_one s i 34 (omega arith), begins_one s i 98 (omega arith), begins_one s i 114 (omega arith), drop-drop 1 i s)

-- ---- how far an opening reaches

-- within n bytes; its hashes and its quote are among its bytes
unfoldable Reaches : ℕ → Opening → Type 0
Reaches n (O.String h) = (h.before ≤ n) × (suc h.hashes ≤ h.before)
Reaches n O.Broken = Unit {0}
Reaches n O.Nothing = Unit {0}

raw_reaches : (isText : Bool) (before n : ℕ) (s : List ℕ) → before + length s ≤ n → Reaches n (raw_opening isText before s)
unfolding raw_opening Reaches
raw_reaches isText before n s h =
    cond_both (Reaches n) (starts_with (34 ∷ []) (drop (hash_count s) s))
    (λ t. let l = begins_le (34 ∷ []) (drop (hash_count s) s) t in let d = length-drop (hash_count s) s in (omega arith, omega arith))
    (λ _. cond_both (Reaches n) (eqb (hash_count s) 0) (λ _. tt) (λ _. tt))

bytes_reaches : (sw : Switches) (n : ℕ) (s : List ℕ) → 1 + length s ≤ n → Reaches n (bytes_opening sw s)
unfolding bytes_opening Reaches
bytes_reaches sw n s h =
    cond_both (Reaches n) (starts_with (34 ∷ []) s) (λ t. let l = begins_le (34 ∷ []) s t in (omega arith, omega arith))
    (λ _. cond_both (Reaches n) (sw.base64 && starts_with (54 ∷ 52 ∷ 34 ∷ []) s)
    (λ t. let l = begins_le (54 ∷ 52 ∷ 34 ∷ []) s (both_right sw.base64 (starts_with (54 ∷ 52 ∷ 34 ∷ []) s) t) in (omega arith, omega arith))
    (λ _. cond_both (Reaches n) (starts_with (114 ∷ []) s)
    (λ t. let l = begins_le (114 ∷ []) s t in let d = length-drop 1 s in raw_reaches false 2 n (drop 1 s) (omega arith)) (λ _. tt)))

reaches : (sw : Switches) (s : List ℕ) → Reaches (length s) (opening_of sw s)
unfolding opening_of Reaches
reaches sw s =
    let d = length-drop 1 s in
    cond_both (Reaches (length s)) (starts_with (34 ∷ []) s) (λ t. let l = begins_le (34 ∷ []) s t in (omega arith, omega arith))
    (λ _. cond_both (Reaches (length s)) (starts_with (98 ∷ []) s)
    (λ t. let l = begins_le (98 ∷ []) s t in bytes_reaches sw (length s) (drop 1 s) (omega arith))
    (λ _. cond_both (Reaches (length s)) (starts_with (114 ∷ []) s)
    (λ t. let l = begins_le (114 ∷ []) s t in raw_reaches true 1 (length s) (drop 1 s) (omega arith)) (λ _. tt)))

pub head_within : (sw : Switches) (s : List ℕ) (h : StringHead) → opening_of sw s ≡ O.String h
    → (h.before ≤ length s) × (suc h.hashes ≤ h.before)
unfolding Reaches
head_within sw s h e = subst (Reaches (length s)) e (reaches sw s)

-- ---- what opens is the item

or_true : (a : Bool) → true ≡ (a || true)
or_true true = refl
or_true false = refl

-- a quote behind the hashes, or some hash
raw_tests : (t : List ℕ) → opens_raw t ≡ (starts_with (34 ∷ []) (drop (hash_count t) t) || not (eqb (hash_count t) 0))
unfolding opens_raw starts_with hash_count front
raw_tests [] = refl
raw_tests (c ∷ t) = by (eqb c 35)
  where
    by : (x : Bool)
        → ((eqb c 34 && true) || (x && true))
        ≡ (starts_with (34 ∷ []) (drop (cond x (suc (front (is "#") t)) 0) (c ∷ t)) || not (eqb (cond x (suc (front (is "#") t)) 0) 0))
    by true =
        let n : suc (front (is "#") t) ≡ 0 → ⊥ = λ e. omega arith in
        sym (or_true (eqb c 34 && true)) ∙ or_true (starts_with (34 ∷ []) (drop (front (is "#") t) t))
        ∙ ap (λ (x : Bool). starts_with (34 ∷ []) (drop (front (is "#") t) t) || not x) (sym (ne_eqb (suc (front (is "#") t)) 0 n))
    by false = refl

module _ (sw : Switches) where
  -- after `r` or `br`, k + 1 bytes
  raw_item_law : (isText : Bool) (k : ℕ) (w t : List ℕ) → drop (suc k) w ≡ t
      → cond (opens_raw t) (raw_item sw isText k t) (word_item (get_or w 0 0) (drop 1 w)) ≡ opened_item sw (raw_opening isText (suc k) t) w
  unfolding raw_item raw_opening opened_item
  raw_item_law isText k w t e =
      ap (λ (x : Bool). cond x (raw_item sw isText k t) (word_item (get_or w 0 0) (drop 1 w))) (raw_tests t)
      ∙ by (starts_with (34 ∷ []) (drop (hash_count t) t)) (eqb (hash_count t) 0)
    where
      n : ℕ
      n = hash_count t

      by : (q z : Bool)
          → cond (q || not z) (cond q (string_item sw isText Y.Raw (k + n + 1) n (drop (n + 1) t)) (fault 3)) (word_item (get_or w 0 0) (drop 1 w))
          ≡ opened_item sw (cond q (string_opening isText Y.Raw (suc k + n + 1) n) (cond z O.Nothing O.Broken)) w
      by true z =
          let a : k + n + 1 ≡ suc k + n + 1 - 1 = omega arith in
          let b : suc k + (n + 1) ≡ suc k + n + 1 = omega arith in
          (λ i. string_item sw isText Y.Raw (a i) n (drop (n + 1) (sym e i)))
          ∙ ap (string_item sw isText Y.Raw (suc k + n + 1 - 1) n) (drop-drop (n + 1) (suc k) w ∙ ap (λ (j : ℕ). drop j w) b)
      by false true = refl
      by false false = refl

  small_b : (s : List ℕ) → small_item sw 98 s ≡ opened_item sw (bytes_opening sw s) (98 ∷ s)
  unfolding small_item bytes_opening opened_item
  small_b s = by (starts_with (34 ∷ []) s) (sw.base64 && starts_with (54 ∷ 52 ∷ 34 ∷ []) s) (starts_with (114 ∷ []) s)
    where
      by : (q x r : Bool)
          → cond q (string_item sw false Y.Quoted 1 0 (drop 1 s))
          (cond x (string_item sw false Y.Base64 3 0 (drop 3 s))
          (cond (r && opens_raw (drop 1 s)) (raw_item sw false 1 (drop 1 s)) (word_item 98 s)))
          ≡ opened_item sw (cond q (string_opening false Y.Quoted 2 0) (cond x (string_opening false Y.Base64 4 0) (cond r (raw_opening false 2 (drop 1 s)) O.Nothing))) (98 ∷ s)
      by true x r = refl
      by false true r = refl
      by false false true = raw_item_law false 1 (98 ∷ s) (drop 1 s) refl
      by false false false = refl

  small_r : (s : List ℕ) → small_item sw 114 s ≡ opened_item sw (raw_opening true 1 s) (114 ∷ s)
  unfolding small_item
  small_r s = raw_item_law true 0 (114 ∷ s) s refl

  small_opened : (b : ℕ) (s : List ℕ) → (b ≡ 34 → ⊥) → small_item sw b s ≡ opened_item sw (opening_of sw (b ∷ s)) (b ∷ s)
  unfolding small_item opening_of starts_with opened_item
  small_opened b s n = by_b (eqb b 98) refl
    where
      same : (c : ℕ) → eqb b c ≡ true → b ≡ c
      same c e = eqb→eq b c (subst T (sym e) tt)

      other : (c : ℕ) → eqb b c ≡ false → b ≡ c → ⊥
      other c e q = false≢true (sym e ∙ eq-eqb b c q)

      by_r : (t : Bool) → eqb b 114 ≡ t → (b ≡ 98 → ⊥) → small_item sw b s ≡ opened_item sw (opening_of sw (b ∷ s)) (b ∷ s)
      by_r true e m = subst (λ (c : ℕ). small_item sw c s ≡ opened_item sw (opening_of sw (c ∷ s)) (c ∷ s)) (sym (same 114 e)) (small_r s)
      by_r false e m = rw (ne_eqb b 98 m, e, ne_eqb b 34 n)

      by_b : (t : Bool) → eqb b 98 ≡ t → small_item sw b s ≡ opened_item sw (opening_of sw (b ∷ s)) (b ∷ s)
      by_b true e = subst (λ (c : ℕ). small_item sw c s ≡ opened_item sw (opening_of sw (c ∷ s)) (c ∷ s)) (sym (same 98 e)) (small_b s)
      by_b false e = by_r (eqb b 114) refl (other 98 e)

  item_small : (b : ℕ) (s : List ℕ) → class_number (class_of b) ≡ 3 → item sw b s ≡ opened_item sw (opening_of sw (b ∷ s)) (b ∷ s)
  unfolding item item_of class_at class_of class_number one_of
  item_small b s e = ap (λ (c : Class). item_of sw c b s) (class_by b 3 (sym e)) ∙ small_opened b s no_quote
    where
      no_quote : b ≡ 34 → ⊥
      no_quote q = let z : ◌≡◌ {A = ℕ} 5 3 = ap (λ (x : ℕ). class_number (class_of x)) (sym q) ∙ e in omega arith

  item_quote : (b : ℕ) (s : List ℕ) → class_number (class_of b) ≡ 5 → item sw b s ≡ opened_item sw (opening_of sw (b ∷ s)) (b ∷ s)
  unfolding item item_of class_of class_number one_of opening_of starts_with opened_item
  item_quote b s e = subst (λ (c : ℕ). item sw c s ≡ opened_item sw (opening_of sw (c ∷ s)) (c ∷ s)) (sym (quote_number b e)) refl

-- the classes of the bytes that may open a string: small letters and the quote
unfoldable pub may_open : ℕ → Bool
may_open n = one_of (3 ∷ 5 ∷ []) n

module _ (sw : Switches) where
  -- where a byte may open a string, what opens there is the item
  pub opening_item : (b : ℕ) (s : List ℕ) → may_open (class_number (class_of b)) ≡ true
      → item sw b s ≡ opened_item sw (opening_of sw (b ∷ s)) (b ∷ s)
  unfolding may_open one_of
  opening_item b s e = by (eqb (class_number (class_of b)) 3) (eqb (class_number (class_of b)) 5) refl refl e
    where
      same : (m n : ℕ) → eqb m n ≡ true → m ≡ n
      same m n e = eqb→eq m n (subst T (sym e) tt)

      by : (t u : Bool) → eqb (class_number (class_of b)) 3 ≡ t → eqb (class_number (class_of b)) 5 ≡ u → (t || (u || false)) ≡ true
          → item sw b s ≡ opened_item sw (opening_of sw (b ∷ s)) (b ∷ s)
      by true u p q e = item_small sw b s (same (class_number (class_of b)) 3 p)
      by false true p q e = item_quote sw b s (same (class_number (class_of b)) 5 q)
      by false false p q e = absurd (false≢true e)

  -- where it may not, nothing does
  pub opening_none : (b : ℕ) (s : List ℕ) → may_open (class_number (class_of b)) ≡ false → opening_of sw (b ∷ s) ≡ O.Nothing
  unfolding may_open one_of class_of class_number opening_of starts_with
  opening_none b s e = rw (ne_eqb b 34 (not_at 34 refl), ne_eqb b 98 (not_at 98 refl), ne_eqb b 114 (not_at 114 refl))
    where
      not_at : (c : ℕ) → may_open (class_number (class_of c)) ≡ true → b ≡ c → ⊥
      not_at c t q = false≢true (sym e ∙ ap (λ (x : ℕ). may_open (class_number (class_of x))) q ∙ t)

-- ---- the same at a place of a text

module _ (sw : Switches) (s : List ℕ) (at : ℕ) where
  pub opening_found : (n : ℕ) → at < length s → n ≡ class_number (class_of (get_or s at 0)) → may_open n ≡ true
      → found_at sw s at ≡ found at (opened_item sw (opening_of sw (drop at s)) (drop at s))
  unfolding found_at item_at
  opening_found n h e o =
      rw (lt-ltb at (length s) h, drop-cons s at 0 h)
      (ap (found at) (opening_item sw (get_or s at 0) (drop (suc at) s) (ap may_open (sym e) ∙ o)))

  pub opened_string : (h : StringHead) → opening_of sw (drop at s) ≡ O.String h
      → found at (string_item sw h.is_text h.body (h.before - 1) h.hashes (drop (at + h.before) s))
      ≡ found at (opened_item sw (opening_of sw (drop at s)) (drop at s))
  unfolding opened_item
  opened_string h e = rw (e, drop-drop h.before at s)

  pub opened_broken : opening_of sw (drop at s) ≡ O.Broken → Err 3 ≡ found at (opened_item sw (opening_of sw (drop at s)) (drop at s))
  unfolding opened_item found
  opened_broken e = rw e

  pub opened_word : opening_of sw (drop at s) ≡ O.Nothing
      → found at (word_item (get_or s at 0) (drop (at + 1) s)) ≡ found at (opened_item sw (opening_of sw (drop at s)) (drop at s))
  unfolding opened_item
  opened_word e = let z : at + 0 ≡ at = omega arith in rw (e, drop-drop 1 at s, get_or-drop at s 0 0, z)
