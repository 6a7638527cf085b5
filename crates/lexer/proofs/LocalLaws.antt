-- Local lexing: an item depends on its own bytes, and on the byte after them only as far as that byte would make it longer.
-- So a text may be changed behind an item, and the item stays.
-- Assumes nothing.
use mathlib.Core.Path.{◌≡◌, refl, sym, ap, ◌∙◌, subst}
use Prim.Native.Nat.{ℕ, suc, ◌+◌, ◌≤◌}
use native.Mathlib.Omega.{arith}
use mathlib.Core.Bool.{Bool, true, false, cond, ◌&&◌, ◌||◌}
use mathlib.Core.List.{List, [], ◌∷◌, ◌++◌}
use lib.Dec.{eqb}
use lib.ListN.{length, drop}
use borrow.Author.Tests.{eqb-true}
use Rattle.text.specs.declared.switches.Switches.{Switches}
use Rattle.text.specs.Bytes.{starts_with, Class, class_of, is_word_byte, is_letter_or_digit, is, ascii}
use Rattle.text.proofs.Choice.{cond-case, cond-true, cond-false, and_left, and_right, and_off}
use Rattle.literals.specs.declared.decoder.Body.TheVariants as Y
use Rattle.lexer.specs.Token.{Item, string_item, hash_count, raw_item, opens_raw, word_item, number_item, small_item, item_of, item}
use Rattle.lexer.proofs.Seams.{EndsAt, ItemSeam, Seam, WordSeam, heads}
use Rattle.lexer.proofs.LocalRuns.{front_stop, number_local, word_front, word_local, word_seam}
use Rattle.lexer.proofs.LocalStrings.{begins_same, comment_local, no_false, opened_local, raw_less, raw_local, raw_long, raw_at, string_head, string_local}

-- ---- small letters

and_false : (b c c' : Bool) → (c ≡ false → c' ≡ false) → b && c ≡ false → b && c' ≡ false
and_false true c c' f e = f e
and_false false c c' f e = refl

or_false : (a c a' c' : Bool) → (a ≡ false → a' ≡ false) → (c ≡ false → c' ≡ false) → a || c ≡ false → a' || c' ≡ false
or_false true c a' c' f g e = no_false e
or_false false c true c' f g e = no_false (f refl)
or_false false c false c' f g e = g e

-- an opening: bytes of words, then a last byte that follows z' only if it follows z
Opening : List ℕ → (z z' : List ℕ) → Type 0
Opening [] z z' = Unit {0}
Opening (e ∷ []) z z' = Seam (λ b. eqb b e) z z'
Opening (e ∷ f ∷ w) z z' = (is_word_byte e ≡ true) × Opening (f ∷ w) z z'

begins_one : (e : ℕ) (z : List ℕ) → starts_with (e ∷ []) z ≡ heads (λ b. eqb b e) z
unfolding starts_with heads
begins_one e [] = refl
begins_one e (c ∷ z) = id (eqb c e)
  where
    id : (t : Bool) → t && true ≡ t
    id true = refl
    id false = refl

begins_word : (e : ℕ) (w z : List ℕ) → is_word_byte e ≡ true → heads is_word_byte z ≡ false → starts_with (e ∷ w) z ≡ false
unfolding starts_with heads
begins_word e w [] p q = refl
begins_word e w (c ∷ z) p q = on (eqb c e) refl
  where
    on : (t : Bool) → eqb c e ≡ t → eqb c e && starts_with w z ≡ false
    on true k = no_false (sym p ∙ ap is_word_byte (sym (eqb-true c e k)) ∙ q)
    on false k = and_off (eqb c e) (starts_with w z) k

begins_tail : (e : ℕ) (w x z z' : List ℕ) (a : ℕ) → (starts_with w (x ++ z) ≡ false → starts_with w (x ++ z') ≡ false)
    → starts_with (e ∷ w) (a ∷ (x ++ z)) ≡ false → starts_with (e ∷ w) (a ∷ (x ++ z')) ≡ false
unfolding starts_with
begins_tail e w x z z' a f h = and_false (eqb a e) (starts_with w (x ++ z)) (starts_with w (x ++ z')) f h

begins_false : (w x z z' : List ℕ) → Opening w z z' → heads is_word_byte z' ≡ false → starts_with w (x ++ z) ≡ false → starts_with w (x ++ z') ≡ false
unfolding starts_with Opening
begins_false [] x z z' o q h = no_false h
begins_false (e ∷ []) [] z z' o q h = begins_one e z' ∙ o (sym (begins_one e z) ∙ h)
begins_false (e ∷ []) (a ∷ x) z z' o q h = begins_tail e [] x z z' a (λ k. no_false k) h
begins_false (e ∷ f ∷ w) [] z z' o q h = begins_word e (f ∷ w) z' o.0 q
begins_false (e ∷ f ∷ w) (a ∷ x) z z' o q h = begins_tail e (f ∷ w) x z z' a (begins_false (f ∷ w) x z z' o.1 q) h

opens_false : (x z z' : List ℕ) → WordSeam z z' → heads is_word_byte z' ≡ false → opens_raw (x ++ z) ≡ false → opens_raw (x ++ z') ≡ false
unfolding opens_raw Opening
opens_false x z z' s q h =
    or_false (starts_with (ascii "\"") (x ++ z)) (starts_with (ascii "#") (x ++ z)) (starts_with (ascii "\"") (x ++ z')) (starts_with (ascii "#") (x ++ z'))
    (begins_false (ascii "\"") x z z' s.quote q) (begins_false (ascii "#") x z z' s.hash q) h

opens_same : (x z z' : List ℕ) → 1 ≤ length x → opens_raw (x ++ z') ≡ opens_raw (x ++ z)
unfolding opens_raw
opens_same x z z' l = λ i. begins_same (ascii "\"") x z z' l i || begins_same (ascii "#") x z z' l i

-- the choice of five by four tests
abbrev five : (t₁ t₂ t₃ t₄ : Bool) (a₁ a₂ a₃ a₄ a₅ : Item) → Item
five t₁ t₂ t₃ t₄ a₁ a₂ a₃ a₄ a₅ = cond t₁ a₁ (cond t₂ a₂ (cond t₃ a₃ (cond t₄ a₄ a₅)))

module _ (t₁ t₂ t₃ t₄ : Bool) (a₁ a₂ a₃ a₄ a₅ : Item) where
  five_1 : t₁ ≡ true → five t₁ t₂ t₃ t₄ a₁ a₂ a₃ a₄ a₅ ≡ a₁
  five_1 e = cond-true t₁ a₁ (cond t₂ a₂ (cond t₃ a₃ (cond t₄ a₄ a₅))) e

  five_2 : t₁ ≡ false → t₂ ≡ true → five t₁ t₂ t₃ t₄ a₁ a₂ a₃ a₄ a₅ ≡ a₂
  five_2 e f = cond-false t₁ a₁ (cond t₂ a₂ (cond t₃ a₃ (cond t₄ a₄ a₅))) e ∙ cond-true t₂ a₂ (cond t₃ a₃ (cond t₄ a₄ a₅)) f

  five_3 : t₁ ≡ false → t₂ ≡ false → t₃ ≡ true → five t₁ t₂ t₃ t₄ a₁ a₂ a₃ a₄ a₅ ≡ a₃
  five_3 e f g =
      cond-false t₁ a₁ (cond t₂ a₂ (cond t₃ a₃ (cond t₄ a₄ a₅))) e ∙ cond-false t₂ a₂ (cond t₃ a₃ (cond t₄ a₄ a₅)) f ∙ cond-true t₃ a₃ (cond t₄ a₄ a₅) g

  five_4 : t₁ ≡ false → t₂ ≡ false → t₃ ≡ false → t₄ ≡ true → five t₁ t₂ t₃ t₄ a₁ a₂ a₃ a₄ a₅ ≡ a₄
  five_4 e f g h =
      cond-false t₁ a₁ (cond t₂ a₂ (cond t₃ a₃ (cond t₄ a₄ a₅))) e ∙ cond-false t₂ a₂ (cond t₃ a₃ (cond t₄ a₄ a₅)) f
      ∙ cond-false t₃ a₃ (cond t₄ a₄ a₅) g ∙ cond-true t₄ a₄ a₅ h

  five_5 : t₁ ≡ false → t₂ ≡ false → t₃ ≡ false → t₄ ≡ false → five t₁ t₂ t₃ t₄ a₁ a₂ a₃ a₄ a₅ ≡ a₅
  five_5 e f g h =
      cond-false t₁ a₁ (cond t₂ a₂ (cond t₃ a₃ (cond t₄ a₄ a₅))) e ∙ cond-false t₂ a₂ (cond t₃ a₃ (cond t₄ a₄ a₅)) f
      ∙ cond-false t₃ a₃ (cond t₄ a₄ a₅) g ∙ cond-false t₄ a₄ a₅ h

module _ (sw : Switches) (b : ℕ) where
  test₁ : List ℕ → Bool
  test₁ s = is "b" b && starts_with (ascii "\"") s

  test₂ : List ℕ → Bool
  test₂ s = is "b" b && sw.base64 && starts_with (ascii "64\"") s

  test₃ : List ℕ → Bool
  test₃ s = is "r" b && opens_raw s

  test₄ : List ℕ → Bool
  test₄ s = is "b" b && starts_with (ascii "r") s && opens_raw (drop 1 s)

  small₁ : List ℕ → Item
  small₁ s = string_item sw false Y.Quoted 1 0 (drop 1 s)

  small₂ : List ℕ → Item
  small₂ s = string_item sw false Y.Base64 3 0 (drop 3 s)

  small₃ : List ℕ → Item
  small₃ s = raw_item sw true 0 s

  small₄ : List ℕ → Item
  small₄ s = raw_item sw false 1 (drop 1 s)

  abbrev small_five : List ℕ → Item
  small_five s = five (test₁ s) (test₂ s) (test₃ s) (test₄ s) (small₁ s) (small₂ s) (small₃ s) (small₄ s) (word_item b s)

  small_five_law : (s : List ℕ) → small_item sw b s ≡ small_five s
  unfolding small_item test₁ test₂ test₃ test₄ small₁ small₂ small₃ small₄
  small_five_law s = refl

  at₁ : (s : List ℕ) → test₁ s ≡ true → small_five s ≡ small₁ s
  at₁ s e = five_1 (test₁ s) (test₂ s) (test₃ s) (test₄ s) (small₁ s) (small₂ s) (small₃ s) (small₄ s) (word_item b s) e

  at₂ : (s : List ℕ) → test₁ s ≡ false → test₂ s ≡ true → small_five s ≡ small₂ s
  at₂ s e f = five_2 (test₁ s) (test₂ s) (test₃ s) (test₄ s) (small₁ s) (small₂ s) (small₃ s) (small₄ s) (word_item b s) e f

  at₃ : (s : List ℕ) → test₁ s ≡ false → test₂ s ≡ false → test₃ s ≡ true → small_five s ≡ small₃ s
  at₃ s e f g = five_3 (test₁ s) (test₂ s) (test₃ s) (test₄ s) (small₁ s) (small₂ s) (small₃ s) (small₄ s) (word_item b s) e f g

  at₄ : (s : List ℕ) → test₁ s ≡ false → test₂ s ≡ false → test₃ s ≡ false → test₄ s ≡ true → small_five s ≡ small₄ s
  at₄ s e f g h = five_4 (test₁ s) (test₂ s) (test₃ s) (test₄ s) (small₁ s) (small₂ s) (small₃ s) (small₄ s) (word_item b s) e f g h

  at₅ : (s : List ℕ) → test₁ s ≡ false → test₂ s ≡ false → test₃ s ≡ false → test₄ s ≡ false → small_five s ≡ word_item b s
  at₅ s e f g h = five_5 (test₁ s) (test₂ s) (test₃ s) (test₄ s) (small₁ s) (small₂ s) (small₃ s) (small₄ s) (word_item b s) e f g h

  raw_long₀ : (x z : List ℕ) → EndsAt (length x) (small₃ (x ++ z)) → 1 ≤ length x
  unfolding small₃
  raw_long₀ x z h =
      let e : length x ≡ 0 + length x = omega arith in
      raw_long sw true 0 x z (subst (λ (n : ℕ). EndsAt n (raw_item sw true 0 (x ++ z))) e h)

  small₃_local : (x z z' : List ℕ) → EndsAt (length x) (small₃ (x ++ z)) → small₃ (x ++ z') ≡ small₃ (x ++ z)
  unfolding small₃
  small₃_local x z z' h =
      let e : length x ≡ 0 + length x = omega arith in
      raw_local sw true 0 x z z' (subst (λ (n : ℕ). EndsAt n (raw_item sw true 0 (x ++ z))) e h)

  small₄_local : (a : ℕ) (x z z' : List ℕ) → EndsAt (suc (length x)) (small₄ (a ∷ (x ++ z))) → (small₄ (a ∷ (x ++ z')) ≡ small₄ (a ∷ (x ++ z))) × (1 ≤ length x)
  unfolding small₄
  small₄_local a x z z' h =
      let e : suc (length x) ≡ 1 + length x = omega arith in
      let r = subst (λ (n : ℕ). EndsAt n (raw_item sw false 1 (x ++ z))) e h in
      (raw_local sw false 1 x z z' r, raw_long sw false 1 x z r)

  -- the four openings stay shut behind a word
  module _ (x z z' : List ℕ) (s : WordSeam z z') (q : heads is_word_byte z' ≡ false) where
    off₁ : test₁ (x ++ z) ≡ false → test₁ (x ++ z') ≡ false
    unfolding test₁ Opening
    off₁ h = and_false (is "b" b) (starts_with (ascii "\"") (x ++ z)) (starts_with (ascii "\"") (x ++ z')) (begins_false (ascii "\"") x z z' s.quote q) h

    off₂ : test₂ (x ++ z) ≡ false → test₂ (x ++ z') ≡ false
    unfolding test₂ Opening is_word_byte is_letter_or_digit
    off₂ h =
        and_false (is "b" b && sw.base64) (starts_with (ascii "64\"") (x ++ z)) (starts_with (ascii "64\"") (x ++ z'))
        (begins_false (ascii "64\"") x z z' (refl, (refl, s.quote)) q) h

    off₃ : test₃ (x ++ z) ≡ false → test₃ (x ++ z') ≡ false
    unfolding test₃
    off₃ h = and_false (is "r" b) (opens_raw (x ++ z)) (opens_raw (x ++ z')) (opens_false x z z' s q) h

  off₄ : (x z z' : List ℕ) → WordSeam z z' → heads is_word_byte z' ≡ false → test₄ (x ++ z) ≡ false → test₄ (x ++ z') ≡ false
  unfolding test₄ is_word_byte is_letter_or_digit starts_with
  off₄ [] z z' s q h =
      and_off (is "b" b && starts_with (ascii "r") z') (opens_raw (drop 1 z'))
      (and_false (is "b" b) false (starts_with (ascii "r") z') (λ _. begins_word 114 [] z' refl q) (and_f (is "b" b)))
    where
      and_f : (t : Bool) → t && false ≡ false
      and_f true = refl
      and_f false = refl
  off₄ (a ∷ x) z z' s q h =
      and_false (is "b" b && starts_with (ascii "r") (a ∷ (x ++ z))) (opens_raw (x ++ z)) (opens_raw (x ++ z')) (opens_false x z z' s q) h

  same₁ : (x z z' : List ℕ) → 1 ≤ length x → test₁ (x ++ z') ≡ test₁ (x ++ z)
  unfolding test₁
  same₁ x z z' l = ap (λ (t : Bool). is "b" b && t) (begins_same (ascii "\"") x z z' l)

  same₂ : (x z z' : List ℕ) → 3 ≤ length x → test₂ (x ++ z') ≡ test₂ (x ++ z)
  unfolding test₂
  same₂ x z z' l = ap (λ (t : Bool). is "b" b && sw.base64 && t) (begins_same (ascii "64\"") x z z' l)

  same₃ : (x z z' : List ℕ) → 1 ≤ length x → test₃ (x ++ z') ≡ test₃ (x ++ z)
  unfolding test₃
  same₃ x z z' l = ap (λ (t : Bool). is "r" b && t) (opens_same x z z' l)

  -- where `r` opens a string no other opens
  r_off : (s t : List ℕ) → test₃ s ≡ true → (test₁ t ≡ false) × (test₂ t ≡ false)
  unfolding test₁ test₂ test₃
  r_off s t h =
      let e = eqb-true b 114 (and_left (is "r" b) (opens_raw s) h) in
      let f : is "b" b ≡ false = ap (is "b") e in
      (and_off (is "b" b) (starts_with (ascii "\"") t) f, and_off (is "b" b && sw.base64) (starts_with (ascii "64\"") t) (and_off (is "b" b) sw.base64 f))

  -- behind `br` no `64`
  br_off : (a : ℕ) (y t : List ℕ) → test₄ (a ∷ y) ≡ true → test₂ (a ∷ t) ≡ false
  unfolding test₂ test₄ starts_with
  br_off a y t h =
      let k = and_right (is "b" b) (is "r" a && true) (and_left (is "b" b && (is "r" a && true)) (opens_raw y) h) in
      let e = eqb-true a 114 (and_left (is "r" a) true k) in
      off (is "b" b && sw.base64) (is "6" a) (starts_with (ascii "4\"") t) (ap (is "6") e)
    where
      off : (u v w : Bool) → v ≡ false → u && (v && w) ≡ false
      off true v w e = and_off v w e
      off false v w e = refl

  Stays : (x z z' : List ℕ) → Type 0
  Stays x z z' = small_five (x ++ z') ≡ small_five (x ++ z)

  module _ (x z z' : List ℕ) where
    go₁ : test₁ (x ++ z) ≡ true → EndsAt (length x) (small₁ (x ++ z)) → Stays x z z'
    unfolding Stays small₁
    go₁ e h =
        let l = string_head sw false Y.Quoted 1 0 (length x) (drop 1 (x ++ z)) h in
        at₁ (x ++ z') (same₁ x z z' l ∙ e) ∙ opened_local sw false Y.Quoted 1 x z z' l h ∙ sym (at₁ (x ++ z) e)

    go₂ : test₁ (x ++ z) ≡ false → test₂ (x ++ z) ≡ true → EndsAt (length x) (small₂ (x ++ z)) → Stays x z z'
    unfolding Stays small₂
    go₂ f e h =
        let l = string_head sw false Y.Base64 3 0 (length x) (drop 3 (x ++ z)) h in
        at₂ (x ++ z') (same₁ x z z' (omega arith) ∙ f) (same₂ x z z' l ∙ e) ∙ opened_local sw false Y.Base64 3 x z z' l h ∙ sym (at₂ (x ++ z) f e)

    go₃ : test₁ (x ++ z) ≡ false → test₂ (x ++ z) ≡ false → test₃ (x ++ z) ≡ true → EndsAt (length x) (small₃ (x ++ z)) → Stays x z z'
    unfolding Stays
    go₃ f g e h =
        let l = raw_long₀ x z h in
        let o = r_off (x ++ z) (x ++ z') e in
        at₃ (x ++ z') o.0 o.1 (same₃ x z z' l ∙ e) ∙ small₃_local x z z' h ∙ sym (at₃ (x ++ z) f g e)

    go₅ : test₁ (x ++ z) ≡ false → test₂ (x ++ z) ≡ false → test₃ (x ++ z) ≡ false → test₄ (x ++ z) ≡ false → EndsAt (length x) (word_item b (x ++ z)) → WordSeam z z'
        → Stays x z z'
    unfolding Stays
    go₅ f g h k n s =
        let e = word_front b x z n in
        let q = s.byte (front_stop is_word_byte x z e) in
        at₅ (x ++ z') (off₁ x z z' s q f) (off₂ x z z' s q g) (off₃ x z z' s q h) (off₄ x z z' s q k) ∙ word_local b x z z' n s.byte ∙ sym (at₅ (x ++ z) f g h k)

  go₄ : (x z z' : List ℕ) → test₁ (x ++ z) ≡ false → test₂ (x ++ z) ≡ false → test₃ (x ++ z) ≡ false → test₄ (x ++ z) ≡ true → EndsAt (length x) (small₄ (x ++ z)) → Stays x z z'
  unfolding Stays small₄ test₄ raw_at raw_item starts_with
  go₄ [] z z' f g h e n = absurd (none z n)
    where
      none : (y : List ℕ) → EndsAt 0 (raw_item sw false 1 (drop 1 y)) → ⊥
      none y k = let l = raw_less sw false 1 0 (hash_count (drop 1 y)) (drop 1 y) k in omega arith
  go₄ (a ∷ x) z z' f g h e n =
      let w = small₄_local a x z z' n in
      let l : 1 ≤ suc (length x) = omega arith in
      let e' : test₄ (a ∷ (x ++ z')) ≡ true = ap (λ (t : Bool). is "b" b && starts_with (ascii "r") (a ∷ (x ++ z)) && t) (opens_same x z z' w.1) ∙ e in
      at₄ (a ∷ (x ++ z')) (same₁ (a ∷ x) z z' l ∙ f) (br_off a (x ++ z) (x ++ z') e) (same₃ (a ∷ x) z z' l ∙ h) e' ∙ w.0 ∙ sym (at₄ (a ∷ (x ++ z)) f g h e)

  abbrev Fit : (x z z' : List ℕ) → Item → Type 0
  Fit x z z' i = EndsAt (length x) i × ItemSeam x i z z'

  five_local : (x z z' : List ℕ) → Fit x z z' (small_five (x ++ z)) → Stays x z z'
  five_local x z z' p =
      cond-case (Fit x z z') (Stays x z z') (test₁ (x ++ z)) p (λ e h. go₁ x z z' e h.0)
      (λ f p₂. cond-case (Fit x z z') (Stays x z z') (test₂ (x ++ z)) p₂ (λ e h. go₂ x z z' f e h.0)
      (λ g p₃. cond-case (Fit x z z') (Stays x z z') (test₃ (x ++ z)) p₃ (λ e h. go₃ x z z' f g e h.0)
      (λ k p₄. cond-case (Fit x z z') (Stays x z z') (test₄ (x ++ z)) p₄ (λ e h. go₄ x z z' f g k e h.0)
      (λ m p₅. go₅ x z z' f g k m p₅.0 (word_seam b x z z' p₅.0 p₅.1)))))

  small_local : (x z z' : List ℕ) → EndsAt (length x) (small_item sw b (x ++ z)) → ItemSeam x (small_item sw b (x ++ z)) z z'
      → small_item sw b (x ++ z') ≡ small_item sw b (x ++ z)
  unfolding Stays
  small_local x z z' h s =
      let p = subst (Fit x z z') (small_five_law (x ++ z)) (h, s) in
      small_five_law (x ++ z') ∙ five_local x z z' p ∙ sym (small_five_law (x ++ z))

-- ---- every item

word_here : (b : ℕ) (x z z' : List ℕ) → EndsAt (length x) (word_item b (x ++ z)) → ItemSeam x (word_item b (x ++ z)) z z' → word_item b (x ++ z') ≡ word_item b (x ++ z)
word_here b x z z' h s = word_local b x z z' h (word_seam b x z z' h s).byte

module _ (sw : Switches) where
  class_local : (c : Class) (b : ℕ) (x z z' : List ℕ) → EndsAt (length x) (item_of sw c b (x ++ z)) → ItemSeam x (item_of sw c b (x ++ z)) z z'
      → item_of sw c b (x ++ z') ≡ item_of sw c b (x ++ z)
  unfolding item_of
  class_local Class.space b x z z' h s = refl
  class_local Class.digit b x z z' h s = number_local b x z z' h s
  class_local Class.capital b x z z' h s = word_here b x z z' h s
  class_local Class.small b x z z' h s = small_local sw b x z z' h s
  class_local Class.joiner b x z z' h s =
      cond-case (Fit sw b x z z') (cond (is "_" b) (word_item b (x ++ z')) (number_item b (x ++ z')) ≡ cond (is "_" b) (word_item b (x ++ z)) (number_item b (x ++ z))) (is "_" b) (h, s)
      (λ e p. cond-true (is "_" b) (word_item b (x ++ z')) (number_item b (x ++ z')) e ∙ word_here b x z z' p.0 p.1 ∙ sym (cond-true (is "_" b) (word_item b (x ++ z)) (number_item b (x ++ z)) e))
      (λ e p. cond-false (is "_" b) (word_item b (x ++ z')) (number_item b (x ++ z')) e ∙ number_local b x z z' p.0 p.1 ∙ sym (cond-false (is "_" b) (word_item b (x ++ z)) (number_item b (x ++ z)) e))
  class_local Class.quote b x z z' h s =
      let e : length x ≡ 0 + length x = omega arith in
      string_local sw true Y.Quoted 0 0 x z z' (subst (λ (n : ℕ). EndsAt n (string_item sw true Y.Quoted 0 0 (x ++ z))) e h)
  class_local Class.tick b x z z' h s = refl
  class_local Class.mark b x z z' h s = refl
  class_local Class.slash b x z z' h s = comment_local x z z' h s
  class_local Class.plus b x z z' h s = number_local b x z z' h s
  class_local Class.other b x z z' h s = refl

  -- LOCAL LEXING: the item at the front of b ∷ (x ++ z) is a gap or a token that ends with x, and z' may follow it: it is the same before z'
  pub item_local : (b : ℕ) (x z z' : List ℕ) → EndsAt (length x) (item sw b (x ++ z)) → ItemSeam x (item sw b (x ++ z)) z z'
      → item sw b (x ++ z') ≡ item sw b (x ++ z)
  unfolding item
  item_local b x z z' h s = class_local (class_of b) b x z z' h s
