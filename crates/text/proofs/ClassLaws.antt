-- The table of classes, a class by its number, the one byte of the class 5, the bytes of words by their classes, and that bytes above
-- 127 are of no class of their own.
-- Assumes nothing.
use mathlib.Core.Path.{◌≡◌, refl, sym, ap, ◌∙◌, subst}
use Prim.Native.Nat.{ℕ, ◌<◌, ◌≤◌}
use mathlib.Core.Bool.{Bool, true, false, not, cond, ◌||◌}
use mathlib.Core.List.{List, [], ◌∷◌}
use lib.Dec.{T, leb, ltb, eqb, eqb→eq, leb→le}
use lib.ListN.{get_or, replicate, length-replicate}
use native.Mathlib.Omega.{arith}
use borrow.Author.Tests.{ltb-true, ltb-false}
use Rattle.text.specs.Bytes.{Class, space, digit, capital, small, joiner, quote, tick, mark, slash, plus, other, class_of, class_number, one_of, is_space, is_digit, is_capital, is_small, is_joiner, is_letter_or_digit, is_word_byte, is, ascii, within}
use Rattle.text.specs.Internal.{ClassTable}
use Rattle.text.proofs.Choice.{cond_both, both_right, or_case}
use Rattle.text.proofs.Table.{every, at}

-- ---- the table of src/bytes.rt

unfoldable pub class_table : List ℕ
class_table =
    10 ∷ 10 ∷ 10 ∷ 10 ∷ 10 ∷ 10 ∷ 10 ∷ 10 ∷ 10 ∷ 0 ∷ 0 ∷ 10 ∷ 10 ∷ 0 ∷ 10 ∷ 10 ∷ 10 ∷ 10 ∷ 10 ∷ 10 ∷ 10 ∷ 10 ∷ 10 ∷ 10 ∷ 10 ∷ 10 ∷ 10 ∷ 10 ∷ 10 ∷ 10 ∷ 10 ∷ 10 ∷
    0 ∷ 10 ∷ 5 ∷ 10 ∷ 10 ∷ 10 ∷ 10 ∷ 6 ∷ 7 ∷ 7 ∷ 10 ∷ 9 ∷ 7 ∷ 4 ∷ 10 ∷ 8 ∷ 1 ∷ 1 ∷ 1 ∷ 1 ∷ 1 ∷ 1 ∷ 1 ∷ 1 ∷ 1 ∷ 1 ∷ 7 ∷ 10 ∷ 10 ∷ 10 ∷ 10 ∷ 10 ∷
    10 ∷ 2 ∷ 2 ∷ 2 ∷ 2 ∷ 2 ∷ 2 ∷ 2 ∷ 2 ∷ 2 ∷ 2 ∷ 2 ∷ 2 ∷ 2 ∷ 2 ∷ 2 ∷ 2 ∷ 2 ∷ 2 ∷ 2 ∷ 2 ∷ 2 ∷ 2 ∷ 2 ∷ 2 ∷ 2 ∷ 2 ∷ 7 ∷ 10 ∷ 7 ∷ 10 ∷ 4 ∷
    10 ∷ 3 ∷ 3 ∷ 3 ∷ 3 ∷ 3 ∷ 3 ∷ 3 ∷ 3 ∷ 3 ∷ 3 ∷ 3 ∷ 3 ∷ 3 ∷ 3 ∷ 3 ∷ 3 ∷ 3 ∷ 3 ∷ 3 ∷ 3 ∷ 3 ∷ 3 ∷ 3 ∷ 3 ∷ 3 ∷ 3 ∷ 7 ∷ 10 ∷ 7 ∷ 10 ∷ 10 ∷
    10 ∷ 10 ∷ 10 ∷ 10 ∷ 10 ∷ 10 ∷ 10 ∷ 10 ∷ 10 ∷ 10 ∷ 10 ∷ 10 ∷ 10 ∷ 10 ∷ 10 ∷ 10 ∷ 10 ∷ 10 ∷ 10 ∷ 10 ∷ 10 ∷ 10 ∷ 10 ∷ 10 ∷ 10 ∷ 10 ∷ 10 ∷ 10 ∷ 10 ∷ 10 ∷ 10 ∷ 10 ∷
    10 ∷ 10 ∷ 10 ∷ 10 ∷ 10 ∷ 10 ∷ 10 ∷ 10 ∷ 10 ∷ 10 ∷ 10 ∷ 10 ∷ 10 ∷ 10 ∷ 10 ∷ 10 ∷ 10 ∷ 10 ∷ 10 ∷ 10 ∷ 10 ∷ 10 ∷ 10 ∷ 10 ∷ 10 ∷ 10 ∷ 10 ∷ 10 ∷ 10 ∷ 10 ∷ 10 ∷ 10 ∷
    10 ∷ 10 ∷ 10 ∷ 10 ∷ 10 ∷ 10 ∷ 10 ∷ 10 ∷ 10 ∷ 10 ∷ 10 ∷ 10 ∷ 10 ∷ 10 ∷ 10 ∷ 10 ∷ 10 ∷ 10 ∷ 10 ∷ 10 ∷ 10 ∷ 10 ∷ 10 ∷ 10 ∷ 10 ∷ 10 ∷ 10 ∷ 10 ∷ 10 ∷ 10 ∷ 10 ∷ 10 ∷
    10 ∷ 10 ∷ 10 ∷ 10 ∷ 10 ∷ 10 ∷ 10 ∷ 10 ∷ 10 ∷ 10 ∷ 10 ∷ 10 ∷ 10 ∷ 10 ∷ 10 ∷ 10 ∷ 10 ∷ 10 ∷ 10 ∷ 10 ∷ 10 ∷ 10 ∷ 10 ∷ 10 ∷ 10 ∷ 10 ∷ 10 ∷ 10 ∷ 10 ∷ 10 ∷ 10 ∷ 10 ∷ []

right : ℕ → ℕ → Bool
right b x = eqb x (class_number (class_of b))

all_right : T (every right 0 class_table)
unfolding class_table right class_of class_number one_of
all_right = tt

-- its rule, proved once over the whole table
pub class_table_law : ClassTable class_table
unfolding class_table right
class_table_law = record { each = λ b h. eqb→eq (get_or class_table b 0) (class_number (class_of b)) (at right class_table all_right b h) }

-- ---- classes by their numbers

-- the class of a number
unfoldable pub class_at : ℕ → Class
class_at n =
    cond (eqb n 0) space
    (cond (eqb n 1) digit
    (cond (eqb n 2) capital
    (cond (eqb n 3) small
    (cond (eqb n 4) joiner
    (cond (eqb n 5) quote
    (cond (eqb n 6) tick
    (cond (eqb n 7) mark
    (cond (eqb n 8) slash
    (cond (eqb n 9) plus
    other)))))))))

class_again : (c : Class) → class_at (class_number c) ≡ c
unfolding class_at class_number
class_again space = refl
class_again digit = refl
class_again capital = refl
class_again small = refl
class_again joiner = refl
class_again quote = refl
class_again tick = refl
class_again mark = refl
class_again slash = refl
class_again plus = refl
class_again other = refl

-- the class of a byte whose class has this number
pub class_by : (b n : ℕ) → n ≡ class_number (class_of b) → class_of b ≡ class_at n
class_by b n e = sym (class_again (class_of b)) ∙ ap class_at (sym e)

-- ---- tests that name bytes

-- what holds of each byte of a list
unfoldable pub AllOf : (ℕ → Type 0) → List ℕ → Type 0
AllOf P [] = Unit {0}
AllOf P (x ∷ xs) = P x × AllOf P xs

-- holds of one of them
pub one_of_law : (P : ℕ → Type 0) (xs : List ℕ) (b : ℕ) → T (one_of xs b) → AllOf P xs → P b
unfolding one_of AllOf
one_of_law P [] b t a = absurd t
one_of_law P (x ∷ xs) b t a =
    or_case (eqb b x) (one_of xs b) (P b) t (λ h. subst P (sym (eqb→eq b x h)) a.0) (λ h. one_of_law P xs b h a.1)

-- what holds of the four spaces holds of a space
pub space_of : (P : ℕ → Type 0) (b : ℕ) → T (is_space b) → P 0x09 → P 0x0A → P 0x0D → P 0x20 → P b
space_of P b t p q r s =
    or_case (eqb b 0x09 || eqb b 0x0A || eqb b 0x0D) (eqb b 0x20) (P b) t
    (λ u. or_case (eqb b 0x09 || eqb b 0x0A) (eqb b 0x0D) (P b) u
    (λ v. or_case (eqb b 0x09) (eqb b 0x0A) (P b) v (λ h. subst P (sym (eqb→eq b 0x09 h)) p) (λ h. subst P (sym (eqb→eq b 0x0A h)) q))
    (λ h. subst P (sym (eqb→eq b 0x0D h)) r))
    (λ h. subst P (sym (eqb→eq b 0x20 h)) s)

-- "Each of the 256 byte values has one class": above 127 it is the last
module _ (b : ℕ) (high : 128 ≤ b) where
  not_up_to : (lo hi : ℕ) → hi ≤ 127 → T (within lo hi b) → ⊥
  not_up_to lo hi h t = let k = leb→le b hi (both_right (leb lo b) (leb b hi) t) in omega arith

  not_byte : (c : ℕ) → c ≤ 127 → T (eqb b c) → ⊥
  not_byte c h t = let e = eqb→eq b c t in omega arith

  pub class_high : class_of b ≡ other
  unfolding class_of AllOf
  class_high =
      let Is : Class → Type 0 = λ c. c ≡ other in
      let Low : ℕ → Type 0 = λ x. x ≤ 127 in
      let no : b ≤ 127 → ⊥ = λ l. omega arith in
      cond_both Is (is_space b) (λ t. absurd (no (space_of Low b t (omega arith) (omega arith) (omega arith) (omega arith))))
      (λ _. cond_both Is (is_digit b) (λ t. absurd (not_up_to 48 57 (omega arith) t))
      (λ _. cond_both Is (is_capital b) (λ t. absurd (not_up_to 65 90 (omega arith) t))
      (λ _. cond_both Is (is_small b) (λ t. absurd (not_up_to 97 122 (omega arith) t))
      (λ _. cond_both Is (is_joiner b) (λ t. absurd (or_case (is "_" b) (is "-" b) ⊥ t (not_byte 95 (omega arith)) (not_byte 45 (omega arith))))
      (λ _. cond_both Is (is "\"" b) (λ t. absurd (not_byte 34 (omega arith) t))
      (λ _. cond_both Is (is "'" b) (λ t. absurd (not_byte 39 (omega arith) t))
      (λ _. cond_both Is (one_of (ascii "{}[]():,") b)
      (λ t. absurd (no (one_of_law Low (ascii "{}[]():,") b t
      (omega arith, (omega arith, (omega arith, (omega arith, (omega arith, (omega arith, (omega arith, (omega arith, tt)))))))))))
      (λ _. cond_both Is (is "/" b) (λ t. absurd (not_byte 47 (omega arith) t))
      (λ _. cond_both Is (is "+" b) (λ t. absurd (not_byte 43 (omega arith) t))
      (λ _. refl))))))))))

-- ---- bytes by the numbers of their classes: a test at each of the 256 bytes, and `class_high` above them

every_byte : (f : ℕ → Bool) → T (every (λ b x. f b) 0 (replicate 256 0)) → (b : ℕ) → b < 256 → T (f b)
every_byte f t b h = let l = length-replicate {A = ℕ} 256 0 in at (λ b x. f b) (replicate 256 0) t b (omega arith)

-- the class 5 has one byte
one_quote : ℕ → Bool
one_quote b = cond (eqb (class_number (class_of b)) 5) (eqb b 34) true

all_quotes : T (every (λ b x. one_quote b) 0 (replicate 256 0))
unfolding one_quote class_of class_number one_of
all_quotes = tt

pub quote_number : (b : ℕ) → class_number (class_of b) ≡ 5 → b ≡ 34
unfolding one_quote class_number
quote_number b e = below (ltb b 256) refl
  where
    below : (t : Bool) → ltb b 256 ≡ t → b ≡ 34
    below true q =
        let h = ltb-true b 256 q in
        eqb→eq b 34 (subst (λ (n : ℕ). T (cond (eqb n 5) (eqb b 34) true)) e (every_byte one_quote all_quotes b h))
    below false q =
        let h = ltb-false b 256 q in
        let z : ◌≡◌ {A = ℕ} 10 5 = ap class_number (sym (class_high b (omega arith))) ∙ e in
        absurd (omega arith)

-- the classes of letters, digits and joiners, "1 to 4"
unfoldable pub is_word_class : ℕ → Bool
is_word_class n = within 1 4 n

agrees : Bool → Bool → Bool
agrees a b = cond a b (not b)

agreed : (a b : Bool) → T (agrees a b) → a ≡ b
unfolding agrees
agreed true true t = refl
agreed true false t = absurd t
agreed false true t = absurd t
agreed false false t = refl

word_agrees : ℕ → Bool
word_agrees b = agrees (is_word_byte b) (is_word_class (class_number (class_of b)))

all_words : T (every (λ b x. word_agrees b) 0 (replicate 256 0))
unfolding word_agrees agrees is_word_byte is_letter_or_digit is_word_class class_of class_number one_of
all_words = tt

-- the bytes of words, by their classes
pub word_class : (b : ℕ) → b < 256 → is_word_byte b ≡ is_word_class (class_number (class_of b))
unfolding word_agrees
word_class b h = agreed (is_word_byte b) (is_word_class (class_number (class_of b))) (every_byte word_agrees all_words b h)
