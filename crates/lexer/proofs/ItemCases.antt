-- The kinds of items: what is shown of each kind holds of the item at any place.
-- The laws about all items go by this, so that an opening more, or a kind more, is met here alone.
-- Assumes nothing.
use mathlib.Core.Path.{◌≡◌, refl, sym, ap, ◌∙◌, subst}
use Prim.Native.Nat.{ℕ, suc, ◌+◌, ◌-◌, ◌≤◌, zero-le, suc-le-suc}
use native.Mathlib.Nat.{le_trans}
use native.Mathlib.Omega.{arith}
use mathlib.Core.Bool.{Bool, true, false, cond, ◌&&◌}
use mathlib.Core.Option.{Option, none, some}
use mathlib.Core.List.{List, [], ◌∷◌}
use lib.Dec.{T, eqb}
use lib.IntN.{ℤ}
use lib.ListN.{length, take, drop, length-drop}
use lib.Seq.{drop-drop}
use Rattle.text.specs.declared.switches.Switches.{Switches}
use Rattle.text.specs.Bytes.{front, starts_with, Class, class_of, is_word_byte, is_number_byte, is, ascii}
use Rattle.text.proofs.Choice.{cond_both, both_left, both_right}
use Rattle.literals.specs.declared.decoder.Body.{Body}
use Rattle.literals.specs.declared.decoder.Body.TheVariants as Y
use Rattle.literals.specs.Content.{content_of}
use Rattle.literals.specs.Number.{Meaning}
use Rattle.std.specs.declared.result.Result.TheVariants.{Ok, Err}
use Rattle.literals.specs.declared.number.NumberValue.TheVariants as N
use Rattle.literals.specs.declared.number.NumberError.TheVariants as E
use Rattle.literals.specs.Number.{number}
use Rattle.literals.specs.Word.{has_shape}
use Rattle.lexer.specs.declared.closing.Closing.{Closing}
use Rattle.lexer.specs.declared.closing.Closing.TheVariants as C
use Rattle.lexer.specs.declared.closing.Block.{Block}
use Rattle.lexer.specs.declared.closing.Block.TheVariants as B
use Rattle.lexer.specs.Closing.{closing, block, not_newline}
use Rattle.lexer.specs.Internal.{block_read}
use Rattle.lexer.specs.Token.{mark, word, integer, decimal, Item, gap, token, fault, block_item, comment, string_form, content_item, closed_item, has_escapes, string_item, hash_count, raw_item, opens_raw, word_item, meant_item, number_item, small_item, item_of, item}
use Rattle.lexer.proofs.ClosingLaws.{closing_bytes, closing_le, block_le}

-- ---- lengths

pub front_le : (p : ℕ → Bool) (s : List ℕ) → front p s ≤ length s
unfolding front
front_le p [] = zero-le
front_le p (b ∷ s) = cond_both (λ (n : ℕ). n ≤ suc (length s)) (p b) (λ _. suc-le-suc (front_le p s)) (λ _. zero-le)

pub begins_le : (xs s : List ℕ) → T (starts_with xs s) → length xs ≤ length s
unfolding starts_with
begins_le [] s t = zero-le
begins_le (x ∷ xs) [] t = absurd t
begins_le (x ∷ xs) (b ∷ s) t = suc-le-suc (begins_le xs s (both_right (eqb b x) (starts_with xs s) t))

-- ---- the kinds

-- a token's own fault: a number from 3 to 6
abbrev pub OwnFault : ℕ → Type 0
OwnFault n = (3 ≤ n) × (n ≤ 6)

-- a byte of this class begins a gap or is a mark
unfoldable pub Loose : Class → Type 0
Loose Class.space = Unit {0}
Loose Class.digit = ⊥
Loose Class.capital = ⊥
Loose Class.small = ⊥
Loose Class.joiner = ⊥
Loose Class.quote = ⊥
Loose Class.tick = ⊥
Loose Class.mark = Unit {0}
Loose Class.slash = Unit {0}
Loose Class.plus = ⊥
Loose Class.other = ⊥

-- a property of the items that begin with b and go on in s, by kind. A string's opening has `head` bytes after its first, and with its closing
-- quote and k hashes it has m bytes after that.
pub record Cases (sw : Switches) (b : ℕ) (s : List ℕ) (P : Item → Type 0) : Type 0 where
  pub of_gap : (more : ℕ) → more ≤ length s → Loose (class_of b) → P (gap more)
  pub of_mark : Loose (class_of b) → P (token (mark b) 0)
  pub of_word : P (token (word (b ∷ take (front is_word_byte s) s)) (front is_word_byte s))
  pub of_string : (isText : Bool) (body : Body) (head k m : ℕ) (c : List ℕ) → closing (has_escapes body) k (drop head s) ≡ C.Closed m
      → head + m ≤ length s → content_of sw isText body (take (m - suc k) (drop head s)) ≡ some c → P (token (string_form isText c) (head + m))
  pub of_integer : (z : ℤ) → number (b ∷ take (front is_number_byte s) s) ≡ Ok (N.Integer z) → P (token (integer z) (front is_number_byte s))
  pub of_decimal : (minus : Bool) (m : ℕ) (p : ℤ) → number (b ∷ take (front is_number_byte s) s) ≡ Ok (N.Decimal minus m p)
      → P (token (decimal minus m p) (front is_number_byte s))
  pub of_fault : (n : ℕ) → OwnFault n → P (fault n)

-- ---- the item, by its first bytes

module _ (sw : Switches) (b : ℕ) (s : List ℕ) (P : Item → Type 0) (X : Cases sw b s P) where
  malformed : P (fault 3)
  malformed = X.of_fault 3 (omega arith, omega arith)

  module _ (isText : Bool) (body : Body) (head k : ℕ) (h : head ≤ length s) where
    content_case : (m : ℕ) → closing (has_escapes body) k (drop head s) ≡ C.Closed m → head + m ≤ length s → (o : Option (List ℕ))
        → content_of sw isText body (take (m - suc k) (drop head s)) ≡ o → P (content_item isText (head + m) o)
    unfolding content_item
    content_case m q g none e = X.of_fault 4 (omega arith, omega arith)
    content_case m q g (some c) e = X.of_string isText body head k m c q g e

    closed_case : (c : Closing) → closing (has_escapes body) k (drop head s) ≡ c → head + closing_bytes c ≤ length s
        → P (closed_item sw isText body head k (drop head s) c)
    unfolding closed_item closing_bytes
    closed_case (C.Closed m) q g = content_case m q g (content_of sw isText body (take (m - suc k) (drop head s))) refl
    closed_case (C.Inside m) q g = malformed
    closed_case (C.Escaped m) q g = malformed
    closed_case (C.Hashes j m) q g = malformed

    string_case : P (string_item sw isText body head k (drop head s))
    unfolding string_item
    string_case =
        let e = closing_le (has_escapes body) k (drop head s) in
        let d = length-drop head s in
        closed_case (closing (has_escapes body) k (drop head s)) refl (omega arith)

  raw_case : (isText : Bool) (head : ℕ) → head ≤ length s → P (raw_item sw isText head (drop head s))
  unfolding raw_item
  raw_case isText head h =
      let l = drop head s in
      let j = hash_count l in
      cond_both P (starts_with (ascii "\"") (drop j l))
      (λ t.
      let e = begins_le (ascii "\"") (drop j l) t in
      let d = length-drop j l in
      let f = length-drop head s in
      let z : head + (j + 1) ≡ head + j + 1 = omega arith in
      subst (λ (x : List ℕ). P (string_item sw isText Y.Raw (head + j + 1) j x)) (sym (drop-drop (j + 1) head s ∙ ap (λ (n : ℕ). drop n s) z))
      (string_case isText Y.Raw (head + j + 1) j (omega arith)))
      (λ _. malformed)

  word_case : P (word_item b s)
  unfolding word_item
  word_case = cond_both P (has_shape (b ∷ take (front is_word_byte s) s)) (λ _. X.of_word) (λ _. malformed)

  meant_case : (m : Meaning) → number (b ∷ take (front is_number_byte s) s) ≡ m → P (meant_item (front is_number_byte s) m)
  unfolding meant_item
  meant_case (Ok (N.Integer z)) e = X.of_integer z e
  meant_case (Ok (N.Decimal minus m p)) e = X.of_decimal minus m p e
  meant_case (Err E.Malformed) e = malformed
  meant_case (Err E.TooWide) e = X.of_fault 5 (omega arith, omega arith)

  number_case : P (number_item b s)
  unfolding number_item
  number_case = meant_case (number (b ∷ take (front is_number_byte s) s)) refl

  block_case : (c : Block) → suc (block_read c) ≤ length s → Loose (class_of b) → P (block_item c)
  unfolding block_item block_read
  block_case (B.Inside m) h y = malformed
  block_case (B.Starred m) h y = malformed
  block_case (B.Closed m) h y = X.of_gap (suc m) h y

  comment_case : (l : List ℕ) → length l ≤ length s → Loose (class_of b) → P (comment l)
  unfolding comment
  comment_case [] h y = malformed
  comment_case (c ∷ l) h y =
      cond_both P (is "/" c) (λ _. X.of_gap (suc (front not_newline l)) (le_trans (suc-le-suc (front_le not_newline l)) h) y)
      (λ _. cond_both P (is "*" c)
      (λ _.
      let k = block_le l in
      block_case (block l) (omega arith) y)
      (λ _. malformed))

  small_case : P (small_item sw b s)
  unfolding small_item
  small_case =
      cond_both P (is "b" b && starts_with (ascii "\"") s)
      (λ t.
      let e = begins_le (ascii "\"") s (both_right (is "b" b) _ t) in
      string_case false Y.Quoted 1 0 (omega arith))
      (λ _. cond_both P (is "b" b && sw.base64 && starts_with (ascii "64\"") s)
      (λ t.
      let e = begins_le (ascii "64\"") s (both_right (is "b" b && sw.base64) _ t) in
      string_case false Y.Base64 3 0 (omega arith))
      (λ _. cond_both P (is "r" b && opens_raw s)
      (λ _. raw_case true 0 zero-le)
      (λ _. cond_both P (is "b" b && starts_with (ascii "r") s && opens_raw (drop 1 s))
      (λ t.
      let e = begins_le (ascii "r") s (both_right (is "b" b) _ (both_left (is "b" b && starts_with (ascii "r") s) _ t)) in
      raw_case false 1 (omega arith))
      (λ _. word_case))))

  class_case : (c : Class) → class_of b ≡ c → P (item_of sw c b s)
  unfolding item_of Loose
  class_case Class.space e = X.of_gap 0 zero-le (subst Loose (sym e) tt)
  class_case Class.digit e = number_case
  class_case Class.capital e = word_case
  class_case Class.small e = small_case
  class_case Class.joiner e = cond_both P (is "_" b) (λ _. word_case) (λ _. number_case)
  class_case Class.quote e = string_case true Y.Quoted 0 0 zero-le
  class_case Class.tick e =
      X.of_fault (cond sw.ticks 6 3) (cond_both OwnFault sw.ticks (λ _. (omega arith, omega arith)) (λ _. (omega arith, omega arith)))
  class_case Class.mark e = X.of_mark (subst Loose (sym e) tt)
  class_case Class.slash e = comment_case s (omega arith) (subst Loose (sym e) tt)
  class_case Class.plus e = number_case
  class_case Class.other e = malformed

  pub item_case : P (item sw b s)
  unfolding item
  item_case = class_case (class_of b) refl
