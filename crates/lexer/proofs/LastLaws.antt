-- The last byte of a token is an ASCII byte: a mark, the last of a run of ASCII bytes, or the quote or hash that closes a string. So behind a token
-- no character is begun.
-- Assumes nothing.
use mathlib.Core.Path.{◌≡◌, refl, sym, ap, ◌∙◌, subst}
use Prim.Native.Nat.{ℕ, suc, ◌+◌, ◌-◌, ◌≤◌, ◌<◌}
use native.Mathlib.Decide.{dec_lt}
use native.Mathlib.Omega.{arith}
use mathlib.Core.Bool.{Bool, true, false, ◌&&◌, ◌||◌, false≢true}
use mathlib.Core.List.{List, [], ◌∷◌}
use lib.Dec.{T, leb, eqb, eqb→eq, leb→le}
use lib.ListN.{drop, get_or}
use lib.Seq.{get_or-drop}
use Rattle.text.specs.declared.switches.Switches.{Switches}
use Rattle.text.specs.Bytes.{feed, front, Class, is_capital, is_small, is_digit, is_joiner, is_letter_or_digit, is_word_byte, is_number_byte, within, is}
use Rattle.text.proofs.Choice.{cond_both, both_right, or_case}
use Rattle.text.proofs.ClassLaws.{class_high}
use Rattle.literals.specs.declared.decoder.Body.{Body}
use Rattle.literals.specs.Number.{number}
use Rattle.lexer.specs.declared.closing.Closing.{Closing}
use Rattle.lexer.specs.declared.closing.Closing.TheVariants as C
use Rattle.lexer.specs.Closing.{after_other, closing_step, closing}
use Rattle.lexer.specs.Token.{Item, gap, token, fault, has_escapes, item_of, item}
use Rattle.lexer.proofs.ClosingLaws.{closing_bytes, closed_stays, is_closed}
use Rattle.lexer.proofs.ItemCases.{item_case}
use Rattle.lexer.proofs.LocalStrings.{close_goes}

-- ---- bytes of words and numbers

up_to : (lo hi b : ℕ) → hi ≤ 127 → T (within lo hi b) → b ≤ 127
up_to lo hi b h t = let k = leb→le b hi (both_right (leb lo b) (leb b hi) t) in omega arith

one_byte : (c b : ℕ) → c ≤ 127 → T (eqb b c) → b ≤ 127
one_byte c b h t = let e = eqb→eq b c t in omega arith

word_byte : (b : ℕ) → T (is_word_byte b) → b ≤ 127
unfolding is_word_byte is_letter_or_digit
word_byte b t =
    or_case (is_letter_or_digit b) (is_joiner b) (b ≤ 127) t
    (λ u. or_case (is_capital b || is_small b) (is_digit b) (b ≤ 127) u
    (λ v. or_case (is_capital b) (is_small b) (b ≤ 127) v (up_to 65 90 b (omega arith)) (up_to 97 122 b (omega arith))) (up_to 48 57 b (omega arith)))
    (λ u. or_case (is "_" b) (is "-" b) (b ≤ 127) u (one_byte 95 b (omega arith)) (one_byte 45 b (omega arith)))

number_byte : (b : ℕ) → T (is_number_byte b) → b ≤ 127
unfolding is_number_byte
number_byte b t =
    or_case (is "." b || is "+" b) (is_word_byte b) (b ≤ 127) t
    (λ u. or_case (is "." b) (is "+" b) (b ≤ 127) u (one_byte 46 b (omega arith)) (one_byte 43 b (omega arith))) (word_byte b)

-- the last byte of a run of such bytes, or the byte before it
run_low : (p : ℕ → Bool) → ((c : ℕ) → T (p c) → c ≤ 127) → (b : ℕ) (s : List ℕ) → b ≤ 127 → get_or (b ∷ s) (front p s) 0 ≤ 127
unfolding front
run_low p low b [] h = h
run_low p low b (c ∷ s) h = cond_both (λ (n : ℕ). get_or (b ∷ c ∷ s) n 0 ≤ 127) (p c) (λ t. run_low p low c s (low c t)) (λ _. h)

-- ---- the end of a string

-- a string that has closed, of which s is what was read after the first `base` bytes: it has read some of s, and the last of them is low
unfoldable LowAt : (base : ℕ) → List ℕ → Closing → Type 0
LowAt base s (C.Closed n) = (base < n) × (get_or s (n - suc base) 0 ≤ 127)
LowAt base s (C.Inside n) = Unit {0}
LowAt base s (C.Escaped n) = Unit {0}
LowAt base s (C.Hashes j n) = Unit {0}

-- a string closes with a low byte
LowIf : ℕ → Closing → Type 0
LowIf b c = is_closed c ≡ true → b ≤ 127

module _ (escapes : Bool) (k : ℕ) where
  other_low : (n b : ℕ) → LowIf b (after_other escapes k n b)
  unfolding LowIf after_other is_closed
  other_low n b =
      cond_both (LowIf b) (is "\"" b) (λ t _. one_byte 34 b (omega arith) t)
      (λ _. cond_both (LowIf b) (is "\\" b && escapes) (λ _ e. absurd (false≢true e)) (λ _ e. absurd (false≢true e)))

  step_low : (c : Closing) (b : ℕ) → is_closed c ≡ false → LowIf b (closing_step escapes k c b)
  unfolding LowIf closing_step is_closed
  step_low (C.Inside n) b e = other_low n b
  step_low (C.Escaped n) b e = λ h. absurd (false≢true h)
  step_low (C.Hashes j n) b e = cond_both (LowIf b) (is "#" b) (λ t _. one_byte 35 b (omega arith) t) (λ _. other_low n b)
  step_low (C.Closed n) b e = λ _. absurd (false≢true (sym e))

  low_here : (base b : ℕ) (s : List ℕ) (c : Closing) → closing_bytes c ≡ suc base → b ≤ 127 → LowAt base (b ∷ s) c
  unfolding LowAt closing_bytes
  low_here base b s (C.Closed n) e h =
      let z : 0 ≡ n - suc base = omega arith in
      (omega arith, subst (λ (i : ℕ). get_or (b ∷ s) i 0 ≤ 127) z h)
  low_here base b s (C.Inside n) e h = tt
  low_here base b s (C.Escaped n) e h = tt
  low_here base b s (C.Hashes j n) e h = tt

  low_on : (base b : ℕ) (s : List ℕ) (c : Closing) → LowAt (suc base) s c → LowAt base (b ∷ s) c
  unfolding LowAt
  low_on base b s (C.Closed n) h =
      let p = h.0 in
      let z : suc (n - suc (suc base)) ≡ n - suc base = omega arith in
      (omega arith, subst (λ (i : ℕ). get_or (b ∷ s) i 0 ≤ 127) z h.1)
  low_on base b s (C.Inside n) h = tt
  low_on base b s (C.Escaped n) h = tt
  low_on base b s (C.Hashes j n) h = tt

  low_none : (c : Closing) → is_closed c ≡ false → LowAt (closing_bytes c) [] c
  unfolding LowAt is_closed
  low_none (C.Closed n) e = absurd (false≢true (sym e))
  low_none (C.Inside n) e = tt
  low_none (C.Escaped n) e = tt
  low_none (C.Hashes j n) e = tt

  feed_low : (c : Closing) (s : List ℕ) → is_closed c ≡ false → LowAt (closing_bytes c) s (feed (closing_step escapes k) c s)
  unfolding feed LowIf
  feed_low c [] e = low_none c e
  feed_low c (b ∷ s) e = on (is_closed (closing_step escapes k c b)) refl (λ f. feed_low (closing_step escapes k c b) s f)
    where
      st : Closing
      st = closing_step escapes k c b

      up : closing_bytes st ≡ suc (closing_bytes c)
      up = close_goes escapes k c b e

      on : (t : Bool) → is_closed st ≡ t → (is_closed st ≡ false → LowAt (closing_bytes st) s (feed (closing_step escapes k) st s))
          → LowAt (closing_bytes c) (b ∷ s) (feed (closing_step escapes k) st s)
      on true h f =
          subst (LowAt (closing_bytes c) (b ∷ s)) (sym (closed_stays escapes k st h s)) (low_here (closing_bytes c) b s st up (step_low c b e h))
      on false h f = low_on (closing_bytes c) b s (feed (closing_step escapes k) st s) (subst (λ (n : ℕ). LowAt n s (feed (closing_step escapes k) st s)) up (f h))

  closing_low : (s : List ℕ) → LowAt 0 s (closing escapes k s)
  unfolding closing closing_bytes is_closed
  closing_low s = feed_low (C.Inside 0) s refl

-- ---- items

-- if an item of these bytes is a token, then its last byte is low
unfoldable pub LowLast : List ℕ → Item → Type 0
LowLast l (token form more) = get_or l more 0 ≤ 127
LowLast l (gap more) = Unit {0}
LowLast l (fault number) = Unit {0}

-- a string that closes ends low
string_low : (body : Body) (b : ℕ) (s : List ℕ) (head k m : ℕ) → closing (has_escapes body) k (drop head s) ≡ C.Closed m → get_or (b ∷ s) (head + m) 0 ≤ 127
unfolding LowAt
string_low body b s head k m q =
    let h = subst (LowAt 0 (drop head s)) q (closing_low (has_escapes body) k (drop head s)) in
    let p = h.0 in
    let z : suc head + (m - 1) ≡ head + m = omega arith in
    let e : get_or (drop head s) (m - 1) 0 ≡ get_or (b ∷ s) (head + m) 0 = get_or-drop (suc head) (b ∷ s) (m - 1) 0 ∙ ap (λ (i : ℕ). get_or (b ∷ s) i 0) z in
    subst (λ (x : ℕ). x ≤ 127) e h.1

low_case : (sw : Switches) (b : ℕ) (s : List ℕ) → b ≤ 127 → LowLast (b ∷ s) (item sw b s)
unfolding LowLast
low_case sw b s low =
    item_case sw b s (LowLast (b ∷ s)) (record {
      of_gap = λ more h y. tt;
      of_mark = λ y. low;
      of_word = run_low is_word_byte word_byte b s low;
      of_string = λ isText body head k m c q h e. string_low body b s head k m q;
      of_integer = λ z e. run_low is_number_byte number_byte b s low;
      of_decimal = λ minus m p e. run_low is_number_byte number_byte b s low;
      of_fault = λ n h. tt;
    })

pub item_low : (sw : Switches) (b : ℕ) (s : List ℕ) → LowLast (b ∷ s) (item sw b s)
unfolding item item_of LowLast
item_low sw b s =
    elim (dec_lt 127 b) [
      | yes high ↦ subst (λ (c : Class). LowLast (b ∷ s) (item_of sw c b s)) (sym (class_high b high)) tt
      | no below ↦ low_case sw b s (omega arith)
    ]
