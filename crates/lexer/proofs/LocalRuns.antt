-- Local lexing, of runs, words and numbers: they depend on their own bytes, and on the next only as far as it would make them longer.
-- Assumes nothing.
use mathlib.Core.Path.{◌≡◌, refl, sym, ap, ◌∙◌}
use Prim.Native.Nat.{ℕ, suc, ◌<◌}
use native.Mathlib.Omega.{arith}
use mathlib.Core.Bool.{Bool, true, false, cond}
use mathlib.Core.List.{List, [], ◌∷◌, ◌++◌}
use lib.ListN.{length, take}
use lib.Seq.{take_at}
use Rattle.text.specs.Bytes.{front, is_word_byte, is_number_byte}
use Rattle.text.proofs.Choice.{cond-case, cond-true, cond-false}
use Rattle.literals.specs.Number.{Meaning}
use Rattle.std.specs.declared.result.Result.TheVariants.{Ok, Err}
use Rattle.literals.specs.declared.number.NumberValue.TheVariants as N
use Rattle.literals.specs.declared.number.NumberError.TheVariants as E
use Rattle.literals.specs.Number.{number}
use Rattle.literals.specs.Word.{has_shape}
use Rattle.lexer.specs.Token.{word, Item, token, fault, word_item, meant_item, number_item}
use Rattle.lexer.proofs.Seams.{EndsAt, FormSeam, ItemSeam, Seam, WordSeam, heads}

-- ---- runs

suc_or : (b : Bool) (n : ℕ) → cond b (suc n) 0 ≡ 0 → b ≡ false
suc_or true n e = absurd (omega arith)
suc_or false n e = refl

suc_in : (b : Bool) (n m : ℕ) → cond b (suc n) 0 ≡ suc m → (b ≡ true) × (n ≡ m)
suc_in true n m e = (refl, omega arith)
suc_in false n m e = absurd (omega arith)

less_in : (b : Bool) (n n' m : ℕ) → cond b (suc n) 0 < suc m → (n < m → n' ≡ n) → cond b (suc n') 0 ≡ cond b (suc n) 0
less_in true n n' m h f = ap suc (f (omega arith))
less_in false n n' m h f = refl

module _ (p : ℕ → Bool) where
  pub front_stop : (x z : List ℕ) → front p (x ++ z) ≡ length x → heads p z ≡ false
  unfolding front heads
  front_stop [] [] e = refl
  front_stop [] (c ∷ z) e = suc_or (p c) (front p z) e
  front_stop (a ∷ x) z e = front_stop x z (suc_in (p a) (front p (x ++ z)) (length x) e).1

  none_front : (z : List ℕ) → heads p z ≡ false → front p z ≡ 0
  unfolding front heads
  none_front [] e = refl
  none_front (c ∷ z) e = cond-false (p c) (suc (front p z)) 0 e

  pub front_here : (x z z' : List ℕ) → front p (x ++ z) ≡ length x → heads p z' ≡ false → front p (x ++ z') ≡ length x
  unfolding front
  front_here [] z z' e q = none_front z' q
  front_here (a ∷ x) z z' e q =
      let w = suc_in (p a) (front p (x ++ z)) (length x) e in
      cond-true (p a) (suc (front p (x ++ z'))) 0 w.0 ∙ ap suc (front_here x z z' w.1 q)

  pub front_less : (x z z' : List ℕ) → front p (x ++ z) < length x → front p (x ++ z') ≡ front p (x ++ z)
  unfolding front
  front_less [] z z' h = absurd (omega arith)
  front_less (a ∷ x) z z' h = less_in (p a) (front p (x ++ z)) (front p (x ++ z')) (length x) h (front_less x z z')

  -- the longest run is the same
  pub front_local : (x z z' : List ℕ) → front p (x ++ z) ≡ length x → Seam p z z' → front p (x ++ z') ≡ length x
  front_local x z z' e s = front_here x z z' e (s (front_stop x z e))

-- ---- words and numbers

word_alone : ℕ → List ℕ → Item
word_alone b x = cond (has_shape (b ∷ x)) (token (word (b ∷ x)) (length x)) (fault 3)

word_known : (b : ℕ) (x z : List ℕ) → front is_word_byte (x ++ z) ≡ length x → word_item b (x ++ z) ≡ word_alone b x
unfolding word_item word_alone
word_known b x z e =
    ap (λ (n : ℕ). cond (has_shape (b ∷ take n (x ++ z))) (token (word (b ∷ take n (x ++ z))) n) (fault 3)) e
    ∙ ap (λ (l : List ℕ). cond (has_shape (b ∷ l)) (token (word (b ∷ l)) (length x)) (fault 3)) (take_at x z (length x) refl)

pub word_front : (b : ℕ) (x z : List ℕ) → EndsAt (length x) (word_item b (x ++ z)) → front is_word_byte (x ++ z) ≡ length x
unfolding word_item EndsAt
word_front b x z h =
    cond-case (EndsAt (length x)) (front is_word_byte (x ++ z) ≡ length x) (has_shape (b ∷ take (front is_word_byte (x ++ z)) (x ++ z))) h (λ _ q. q) (λ _ q. absurd q)

pub word_local : (b : ℕ) (x z z' : List ℕ) → EndsAt (length x) (word_item b (x ++ z)) → Seam is_word_byte z z' → word_item b (x ++ z') ≡ word_item b (x ++ z)
word_local b x z z' h s =
    let e = word_front b x z h in
    word_known b x z' (front_local is_word_byte x z z' e s) ∙ sym (word_known b x z e)

-- a word item that ends is a word
pub word_seam : (b : ℕ) (x z z' : List ℕ) → EndsAt (length x) (word_item b (x ++ z)) → ItemSeam x (word_item b (x ++ z)) z z' → WordSeam z z'
unfolding word_item EndsAt ItemSeam FormSeam
word_seam b x z z' h s = pick (has_shape (b ∷ take (front is_word_byte (x ++ z)) (x ++ z))) h s
  where
    pick : (t : Bool) → EndsAt (length x) (cond t (token (word (b ∷ take (front is_word_byte (x ++ z)) (x ++ z))) (front is_word_byte (x ++ z))) (fault 3))
        → ItemSeam x (cond t (token (word (b ∷ take (front is_word_byte (x ++ z)) (x ++ z))) (front is_word_byte (x ++ z))) (fault 3)) z z' → WordSeam z z'
    pick true h' s' = s'
    pick false h' s' = absurd h'

meant_front : (n more : ℕ) (m : Meaning) → EndsAt n (meant_item more m) → more ≡ n
unfolding meant_item EndsAt
meant_front n more (Ok (N.Integer z)) h = h
meant_front n more (Ok (N.Decimal minus m p)) h = h
meant_front n more (Err E.Malformed) h = absurd h
meant_front n more (Err E.TooWide) h = absurd h

meant_seam : (x : List ℕ) (n more : ℕ) (m : Meaning) (z z' : List ℕ) → EndsAt n (meant_item more m) → ItemSeam x (meant_item more m) z z' → Seam is_number_byte z z'
unfolding meant_item EndsAt ItemSeam FormSeam
meant_seam x n more (Ok (N.Integer i)) z z' h s = s
meant_seam x n more (Ok (N.Decimal minus m p)) z z' h s = s
meant_seam x n more (Err E.Malformed) z z' h s = absurd h
meant_seam x n more (Err E.TooWide) z z' h s = absurd h

number_known : (b : ℕ) (x z : List ℕ) → front is_number_byte (x ++ z) ≡ length x → number_item b (x ++ z) ≡ meant_item (length x) (number (b ∷ x))
unfolding number_item
number_known b x z e =
    ap (λ (n : ℕ). meant_item n (number (b ∷ take n (x ++ z)))) e
    ∙ ap (λ (l : List ℕ). meant_item (length x) (number (b ∷ l))) (take_at x z (length x) refl)

pub number_local : (b : ℕ) (x z z' : List ℕ) → EndsAt (length x) (number_item b (x ++ z)) → ItemSeam x (number_item b (x ++ z)) z z' → number_item b (x ++ z') ≡ number_item b (x ++ z)
unfolding number_item
number_local b x z z' h s =
    let m = number (b ∷ take (front is_number_byte (x ++ z)) (x ++ z)) in
    let e = meant_front (length x) (front is_number_byte (x ++ z)) m h in
    let q = meant_seam x (length x) (front is_number_byte (x ++ z)) m z z' h s in
    number_known b x z' (front_local is_number_byte x z z' e q) ∙ sym (number_known b x z e)
