-- What may follow an item: bytes that would not make it longer.
-- Assumes nothing.
use mathlib.Core.Path.{◌≡◌, refl}
use Prim.Native.Nat.{ℕ}
use mathlib.Core.Bool.{Bool, true, false, ◌||◌}
use mathlib.Core.List.{List, [], ◌∷◌}
use Rattle.text.specs.Bytes.{starts_with, is_word_byte, is_number_byte, is, ascii}
use Rattle.text.proofs.Choice.{or_left, or_right}
use Rattle.lexer.specs.Closing.{not_newline}
use Rattle.lexer.specs.Token.{Form, mark, word, text, bytes, integer, decimal, Item, gap, token, fault}

-- ---- what may follow

-- the list begins with a byte that passes the test
unfoldable pub heads : (ℕ → Bool) → List ℕ → Bool
heads p [] = false
heads p (b ∷ s) = p b

-- what passes no test before passes none after
abbrev pub Seam : (ℕ → Bool) → (z z' : List ℕ) → Type 0
Seam p z z' = heads p z ≡ false → heads p z' ≡ false

-- the item is a gap or a token with so many bytes after its first
unfoldable pub EndsAt : (n : ℕ) → Item → Type 0
EndsAt n (gap more) = more ≡ n
EndsAt n (token form more) = more ≡ n
EndsAt n (fault number) = ⊥

-- a word may go on with a byte of a word, or with the opening of a string
pub record WordSeam (z z' : List ℕ) : Type 0 where
  pub byte : Seam is_word_byte z z'
  pub quote : Seam (is "\"") z z'
  pub hash : Seam (is "#") z z'

unfoldable pub FormSeam : Form → (z z' : List ℕ) → Type 0
FormSeam (mark b) z z' = Unit {0}
FormSeam (word s) z z' = WordSeam z z'
FormSeam (text s) z z' = Unit {0}
FormSeam (bytes s) z z' = Unit {0}
FormSeam (integer i) z z' = Seam is_number_byte z z'
FormSeam (decimal minus m p) z z' = Seam is_number_byte z z'

-- z' may follow instead of z: a word and a number are the longest run, and a line comment is
unfoldable pub ItemSeam : (x : List ℕ) → Item → (z z' : List ℕ) → Type 0
ItemSeam x (gap more) z z' = starts_with (ascii "/") x ≡ true → Seam not_newline z z'
ItemSeam x (token form more) z z' = FormSeam form z z'
ItemSeam x (fault number) z z' = Unit {0}

-- nothing that a word or number could go on with
unfoldable pub goes_on : ℕ → Bool
goes_on b = is_number_byte b || (is "\"" b || is "#" b)

number_ends : (y : List ℕ) → heads goes_on y ≡ false → heads is_number_byte y ≡ false
unfolding heads goes_on
number_ends [] e = refl
number_ends (c ∷ y) e = or_left (is_number_byte c) (is "\"" c || is "#" c) e

-- after a token: the end, or a byte that no word or number goes on with
pub form_ends : (f : Form) (z z' : List ℕ) → heads goes_on z' ≡ false → FormSeam f z z'
unfolding FormSeam heads is_number_byte goes_on
form_ends (mark b) z z' h = tt
form_ends (word s) z z' h = record { byte = λ _. (at z' h).0; quote = λ _. (at z' h).1; hash = λ _. (at z' h).2 }
  where
    at : (y : List ℕ) → heads goes_on y ≡ false → (heads is_word_byte y ≡ false) × (heads (is "\"") y ≡ false) × (heads (is "#") y ≡ false)
    at [] e = (refl, refl, refl)
    at (c ∷ y) e =
        let q = or_right (is_number_byte c) (is "\"" c || is "#" c) e in (
          or_right (is "." c || is "+" c) (is_word_byte c) (or_left (is_number_byte c) (is "\"" c || is "#" c) e),
          or_left (is "\"" c) (is "#" c) q,
          or_right (is "\"" c) (is "#" c) q,
        )
form_ends (text s) z z' h = tt
form_ends (bytes s) z z' h = tt
form_ends (integer i) z z' h = λ _. number_ends z' h
form_ends (decimal minus m p) z z' h = λ _. number_ends z' h

-- what passes every test alike may follow every item
pub all_seam : (x : List ℕ) (i : Item) (z z' : List ℕ) → ((p : ℕ → Bool) → Seam p z z') → ItemSeam x i z z'
unfolding ItemSeam FormSeam
all_seam x (gap more) z z' h = λ _. h not_newline
all_seam x (token form more) z z' h = on form
  where
    on : (f : Form) → FormSeam f z z'
    on (mark b) = tt
    on (word s) = record { byte = h is_word_byte; quote = h (is "\""); hash = h (is "#") }
    on (text s) = tt
    on (bytes s) = tt
    on (integer i) = h is_number_byte
    on (decimal minus m p) = h is_number_byte
all_seam x (fault number) z z' h = tt
