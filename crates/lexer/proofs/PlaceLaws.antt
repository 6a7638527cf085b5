-- What stands at a place of a text, by the bytes there: each law is what one way out of a function of src/item.rt has to show.
-- Assumes nothing.
use mathlib.Core.Path.{◌≡◌, refl, sym, ap, ◌∙◌}
use Prim.Native.Nat.{ℕ, suc, ◌+◌, ◌-◌, ◌≤◌, ◌<◌}
use native.Mathlib.Numerals.{add-one}
use native.Mathlib.Omega.{arith}
use mathlib.Core.Bool.{Bool, true, false}
use mathlib.Core.Option.{Option, none, some}
use mathlib.Core.List.{List, [], ◌∷◌}
use lib.Dec.{eqb}
use lib.ListN.{length, take, drop, get_or, length-drop}
use lib.Seq.{get_or-drop}
use borrow.Author.Tests.{eq-eqb, ne_eqb, lt-ltb, le-ltb}
use Rattle.std.specs.Prelude.{Some, None, Ok, Err, Result}
use Rattle.text.specs.declared.switches.Switches.{Switches}
use Rattle.text.specs.Bytes.{front, Class, class_of, class_number, is_word_byte, is_number_byte}
use Rattle.text.proofs.ClassLaws.{class_at, class_by}
use Rattle.text.proofs.ListLaws.{get_d_inside, drop_next, part_next}
use Rattle.literals.specs.declared.decoder.Body.{Body}
use Rattle.std.specs.declared.option.Option.TheVariants as M
use Rattle.literals.specs.Content.{content_of, measured}
use Rattle.literals.specs.Number.{Meaning}
use Rattle.literals.specs.Number.{number}
use Rattle.literals.specs.Word.{has_shape}
use Rattle.lexer.specs.declared.closing.Closing.{Closing}
use Rattle.lexer.specs.declared.closing.Closing.TheVariants as C
use Rattle.lexer.specs.declared.closing.Block.{Block}
use Rattle.lexer.specs.declared.closing.Block.TheVariants as B
use Rattle.lexer.specs.declared.item.TokenKind.TheVariants as K
use Rattle.lexer.specs.declared.item.Found.{Found}
use Rattle.lexer.specs.declared.item.Found.TheVariants as F
use Rattle.lexer.specs.Closing.{closing, block, not_newline}
use Rattle.lexer.specs.Token.{fault, block_item, comment, content_item, closed_item, has_escapes, string_item, word_item, meant_item, number_item, item_of, item, item_at}
use Rattle.lexer.specs.Answer.{kind_of, found, found_at}
use Rattle.lexer.specs.Internal.{closed_at, shut_at, string_found}
use Rattle.lexer.proofs.ClosingLaws.{closed_told, shut_told}
use Rattle.lexer.proofs.ItemCases.{front_le}

-- ---- runs

pub run_within : (p : ℕ → Bool) (s : List ℕ) (from : ℕ) → from ≤ length s → from + front p (drop from s) ≤ length s
run_within p s from h = let l = front_le p (drop from s) in let d = length-drop from s in omega arith

-- ---- comments

module _ (s : List ℕ) (at : ℕ) where
  pub line_found : (end : ℕ) → get_or s (at + 1) 0 ≡ 47 → end ≡ at + 2 + front not_newline (drop (at + 2) s)
      → Ok (F.Gap end) ≡ found at (comment (drop (at + 1) s))
  unfolding comment found
  line_found end e r =
      let h = get_d_inside s (at + 1) 47 e (omega arith) in
      let j : at + 2 ≡ at + 1 + 1 = omega arith in
      rw (drop_next s (at + 1) (at + 2) j h, eq-eqb (get_or s (at + 1) 0) 47 e) (ap (λ (x : ℕ). Ok (F.Gap x)) (omega arith))

  pub block_found : get_or s (at + 1) 0 ≡ 42 → found at (block_item (block (drop (at + 2) s))) ≡ found at (comment (drop (at + 1) s))
  unfolding comment
  block_found e =
      let h = get_d_inside s (at + 1) 42 e (omega arith) in
      let j : at + 2 ≡ at + 1 + 1 = omega arith in
      rw (drop_next s (at + 1) (at + 2) j h, e)

pub shut_found : (at n end : ℕ) (b : Block) → shut_at b ≡ Some n → end ≡ at + suc (suc n) → Ok (F.Gap end) ≡ found at (block_item b)
unfolding block_item found
shut_found at n end b e h = rw (shut_told b n e) (ap (λ (x : ℕ). Ok (F.Gap x)) h)

pub unshut_found : (at : ℕ) (b : Block) → shut_at b ≡ None → Err 3 ≡ found at (block_item b)
unfolding block_item found shut_at
unshut_found at (B.Inside n) e = refl
unshut_found at (B.Starred n) e = refl
unshut_found at (B.Closed n) e = cc

no_comment : (l : List ℕ) → (get_or l 0 0 ≡ 47 → ⊥) → (get_or l 0 0 ≡ 42 → ⊥) → comment l ≡ fault 3
unfolding comment
no_comment [] m n = refl
no_comment (b ∷ l) m n = rw (ne_eqb b 47 m, ne_eqb b 42 n)

pub slash_found : (s : List ℕ) (at : ℕ) → (get_or s (at + 1) 0 ≡ 47 → ⊥) → (get_or s (at + 1) 0 ≡ 42 → ⊥)
    → Err 3 ≡ found at (comment (drop (at + 1) s))
unfolding found
slash_found s at m n =
    let z : at + 1 + 0 ≡ at + 1 = omega arith in
    let e : get_or (drop (at + 1) s) 0 0 ≡ get_or s (at + 1) 0 = get_or-drop (at + 1) s 0 0 ∙ ap (λ (n : ℕ). get_or s n 0) z in
    rw (no_comment (drop (at + 1) s) (λ (q : get_or (drop (at + 1) s) 0 0 ≡ 47). m (sym e ∙ q)) (λ (q : get_or (drop (at + 1) s) 0 0 ≡ 42). n (sym e ∙ q)))

-- ---- strings

pub text_found : (isText : Bool) (end n : ℕ) (c : Option (List ℕ)) → isText ≡ true → measured c ≡ M.Some n
    → Ok (F.Token (K.Text n) end) ≡ string_found isText end c
unfolding measured string_found kind_of
text_found isText end n none e m = cc
text_found isText end n (some bytes) e m = rw e (cc)

pub bytes_found : (isText : Bool) (end n : ℕ) (c : Option (List ℕ)) → isText ≡ false → measured c ≡ M.Some n
    → Ok (F.Token (K.Bytes n) end) ≡ string_found isText end c
unfolding measured string_found kind_of
bytes_found isText end n none e m = cc
bytes_found isText end n (some bytes) e m = rw e (cc)

pub content_refused : (isText : Bool) (end : ℕ) (c : Option (List ℕ)) → measured c ≡ M.None → Err 4 ≡ string_found isText end c
unfolding measured string_found
content_refused isText end none m = refl
content_refused isText end (some bytes) m = cc

string_item_law : (isText : Bool) (at more : ℕ) (c : Option (List ℕ)) → string_found isText (at + suc more) c ≡ found at (content_item isText more c)
unfolding string_found found content_item
string_item_law isText at more none = refl
string_item_law isText at more (some bytes) = refl

module _ (sw : Switches) (isText : Bool) (body : Body) (at head k : ℕ) (l : List ℕ) where
  pub closed_found : (n t end : ℕ) (r : Result Found ℕ) → closed_at (closing (has_escapes body) k l) ≡ Some n → t ≡ n - suc k → end ≡ at + suc (head + n)
      → r ≡ string_found isText end (content_of sw isText body (take t l)) → r ≡ found at (string_item sw isText body head k l)
  unfolding string_item closed_item
  closed_found n t end r e t-is end_is r-is =
      rw (closed_told (closing (has_escapes body) k l) n e)
      (r-is ∙ (λ i. string_found isText (end_is i) (content_of sw isText body (take (t-is i) l)))
      ∙ string_item_law isText at (head + n) (content_of sw isText body (take (n - suc k) l)))

  pub unclosed_found : closed_at (closing (has_escapes body) k l) ≡ None → Err 3 ≡ found at (string_item sw isText body head k l)
  unfolding string_item closed_item found closed_at
  unclosed_found e = of_closing (closing (has_escapes body) k l) e
    where
      of_closing : (c : Closing) → closed_at c ≡ None → Err 3 ≡ found at (closed_item sw isText body head k l c)
      of_closing (C.Inside n) e = refl
      of_closing (C.Escaped n) e = refl
      of_closing (C.Hashes j n) e = refl
      of_closing (C.Closed n) e = cc

-- ---- words and numbers

module _ (s : List ℕ) (at end : ℕ) (h : at < length s) where
  pub word_found : end ≡ at + 1 + front is_word_byte (drop (at + 1) s) → has_shape (take (end - at) (drop at s)) ≡ true
      → Ok (F.Token K.Word end) ≡ found at (word_item (get_or s at 0) (drop (at + 1) s))
  unfolding word_item found kind_of
  word_found e t =
      rw (sym (ap has_shape (part_next s at (front is_word_byte (drop (at + 1) s)) end h e)) ∙ t) (ap (λ (x : ℕ). Ok (F.Token K.Word x)) (omega arith))

  pub word_bad : end ≡ at + 1 + front is_word_byte (drop (at + 1) s) → has_shape (take (end - at) (drop at s)) ≡ false
      → Err 3 ≡ found at (word_item (get_or s at 0) (drop (at + 1) s))
  unfolding word_item found
  word_bad e t = rw (sym (ap has_shape (part_next s at (front is_word_byte (drop (at + 1) s)) end h e)) ∙ t)

  pub number_found : (m : Meaning) → end ≡ at + 1 + front is_number_byte (drop (at + 1) s) → number (take (end - at) (drop at s)) ≡ m
      → found at (number_item (get_or s at 0) (drop (at + 1) s)) ≡ found at (meant_item (front is_number_byte (drop (at + 1) s)) m)
  unfolding number_item
  number_found m e t =
      ap (λ (x : Meaning). found at (meant_item (front is_number_byte (drop (at + 1) s)) x))
      (sym (ap number (part_next s at (front is_number_byte (drop (at + 1) s)) end h e)) ∙ t)

-- ---- the item at a place, by the number of its first byte's class

module _ (sw : Switches) (s : List ℕ) (at : ℕ) where
  pub class_item : (n m : ℕ) → at < length s → n ≡ class_number (class_of (get_or s at 0)) → n ≡ m
      → found at (item_of sw (class_at m) (get_or s at 0) (drop (at + 1) s)) ≡ found_at sw s at
  unfolding found_at item_at item
  class_item n m h e f = rw (lt-ltb at (length s) h, add-one, class_by (get_or s at 0) n e, f)

  pub item_past : length s ≤ at → (Ok F.Nothing) ≡ found_at sw s at
  unfolding found_at
  item_past h = rw (le-ltb at (length s) h)

-- a number that is no other class's
pub class_other : (n : ℕ) → 9 < n → class_at n ≡ Class.other
unfolding class_at
class_other n h =
    rw (
      apart 0 (omega arith),
      apart 1 (omega arith),
      apart 2 (omega arith),
      apart 3 (omega arith),
      apart 4 (omega arith),
      apart 5 (omega arith),
      apart 6 (omega arith),
      apart 7 (omega arith),
      apart 8 (omega arith),
      apart 9 (omega arith),
    )
  where
    apart : (m : ℕ) → m < n → eqb n m ≡ false
    apart m l = ne_eqb n m (λ e. omega arith)
