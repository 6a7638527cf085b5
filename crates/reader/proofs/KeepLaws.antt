-- What the values of tokens keep to: a number to its range, a word to its bytes, a string's content to its body's length.
-- Assumes nothing.
use mathlib.Core.Path.{◌≡◌, refl, subst}
use Prim.Native.Nat.{ℕ, zero, suc, ◌+◌, ◌-◌, ◌≤◌, zero-le}
use native.Mathlib.Omega.{arith}
use mathlib.Core.Bool.{Bool, true, false, cond, ◌&&◌}
use mathlib.Core.Option.{Option, none, some}
use mathlib.Core.List.{List, [], ◌∷◌}
use lib.Dec.{leb, leb→le}
use lib.IntN.{ℤ, pos, negsuc, neg_ℤ, ◌+ℤ◌}
use lib.Signed.{le_z}
use lib.ListN.{length, take, drop, get_or, length-drop, length-append}
use Rattle.text.specs.declared.switches.Switches.{Switches}
use Rattle.text.specs.Bytes.{front, is_number_byte, feed}
use Rattle.text.specs.Utf8.{is_utf8, listed}
use Rattle.text.proofs.Choice.{cond_both, is_true, both_left, both_right}
use Rattle.literals.specs.declared.decoder.Body.{Body}
use Rattle.literals.specs.declared.decoder.Decoder.{Decoder}
use Rattle.literals.specs.Content.{may_end, decode_step, prepend, decoded, start_of, content, only_utf8, content_of}
use Rattle.literals.specs.InternalContent.{Sound}
use Rattle.literals.proofs.StepLaws.{spent, good_next}
use Rattle.literals.proofs.TallyLaws.{start_sound}
use Rattle.literals.specs.declared.number.Number.{Number}
use Rattle.literals.specs.declared.number.Number.TheVariants.{Start, Bad, Sign, Zero, Digit, Underscore, Dot, Prefix, Based, BasedUnderscore, Fraction, FractionUnderscore, ExpLetter, ExpSign, ExpDigit, ExpUnderscore}
use Rattle.literals.specs.Number.{Meaning}
use Rattle.std.specs.declared.result.Result.TheVariants.{Ok, Err}
use Rattle.literals.specs.declared.number.NumberValue.TheVariants as N
use Rattle.literals.specs.declared.number.NumberError.TheVariants as E
use Rattle.literals.specs.Number.{number_step, most, signed_by, as_integer, as_decimal, meaning, number}
use Rattle.lexer.specs.Token as L
use Rattle.lexer.specs.Token.{Form, Item, item, item_at}
use Rattle.lexer.proofs.ItemCases.{item_case}
use Rattle.text.proofs.ListLaws.{take_at_most}
use Rattle.reader.specs.Internal.Tokens.{DecimalFits}

-- ---- a content is no longer than its body

unfoldable Short : (n : ℕ) → Option (List ℕ) → Type 0
Short n none = Unit {0}
Short n (some c) = length c ≤ n

prepend_short : (n k : ℕ) (x : List ℕ) (o : Option (List ℕ)) → length x + k ≤ n → Short k o → Short n (prepend x o)
unfolding Short prepend
prepend_short n k x none h s = tt
prepend_short n k x (some c) h s = let l = length-append x c in omega arith

decoded_short : (sw : Switches) (st : Decoder) (s : List ℕ) → Sound st → Short (spent st + length s) (decoded sw st s)
unfolding decoded Short
decoded_short sw st [] h = cond_both (Short (spent st + 0)) (may_end st) (λ _. zero-le) (λ _. tt)
decoded_short sw st (b ∷ s) h =
    let d = decode_step sw st b in
    let g = good_next sw st b d h refl in
    prepend_short (spent st + suc (length s)) (spent d.state + length s) (listed d.out) (decoded sw d.state s) (omega arith)
    (decoded_short sw d.state s g.0)

body_short : (sw : Switches) (body : Body) (s : List ℕ) → Short (length s) (content sw body s)
unfolding content
body_short sw body s =
    let g = start_sound body in
    let e : spent (start_of body) + length s ≡ length s = omega arith in
    subst (λ (n : ℕ). Short n (decoded sw (start_of body) s)) e (decoded_short sw (start_of body) s g.0)

only_short : (n : ℕ) (o : Option (List ℕ)) → Short n o → Short n (only_utf8 o)
unfolding Short only_utf8
only_short n none h = tt
only_short n (some c) h = cond_both (Short n) (is_utf8 c) (λ _. h) (λ _. tt)

content_short : (sw : Switches) (isText : Bool) (body : Body) (s : List ℕ) → Short (length s) (content_of sw isText body s)
unfolding content_of
content_short sw isText body s =
    cond_both (Short (length s)) isText (λ _. only_short (length s) (content sw body s) (body_short sw body s)) (λ _. body_short sw body s)

-- ---- a number's range

-- "Range of a signed 64-bit integer"
unfoldable pub IntegerFits : ℤ → Type 0
IntegerFits (pos n) = n ≤ most
IntegerFits (negsuc n) = n ≤ most

unfoldable Ranged : Meaning → Type 0
Ranged (Ok (N.Integer z)) = IntegerFits z
Ranged (Ok (N.Decimal minus m p)) = DecimalFits m p
Ranged (Err E.Malformed) = Unit {0}
Ranged (Err E.TooWide) = Unit {0}

signed_fits : (minus : Bool) (m : ℕ) → m ≤ cond minus (suc most) most → IntegerFits (signed_by minus m)
unfolding IntegerFits
signed_fits true zero h = omega arith
signed_fits true (suc m) h = omega arith
signed_fits false m h = h

integer_ranged : (minus : Bool) (m : ℕ) → Ranged (as_integer minus m)
unfolding Ranged as_integer
integer_ranged minus m =
    cond_both Ranged (leb m (cond minus (suc most) most)) (λ t. signed_fits minus m (leb→le m (cond minus (suc most) most) t)) (λ _. tt)

decimal_ranged : (minus : Bool) (m : ℕ) (p : ℤ) → Ranged (as_decimal minus m p)
unfolding Ranged as_decimal
decimal_ranged minus m p =
    cond_both Ranged (leb m most && le_z (negsuc 399) p && le_z p (pos 400))
    (λ t.
    let u = both_left (leb m most && le_z (negsuc 399) p) (le_z p (pos 400)) t in
    record {
      most = leb→le m most (both_left (leb m most) (le_z (negsuc 399) p) u);
      least = is_true (le_z (negsuc 399) p) (both_right (leb m most) (le_z (negsuc 399) p) u);
      greatest = is_true (le_z p (pos 400)) (both_right (leb m most && le_z (negsuc 399) p) (le_z p (pos 400)) t);
    })
    (λ _. tt)

meaning_ranged : (n : Number) → Ranged (meaning n)
unfolding Ranged meaning
meaning_ranged Start = tt
meaning_ranged Bad = tt
meaning_ranged (Sign minus) = tt
meaning_ranged (Zero signed minus) = integer_ranged minus 0
meaning_ranged (Digit minus m) = integer_ranged minus m
meaning_ranged (Underscore minus m) = tt
meaning_ranged (Dot minus m) = tt
meaning_ranged (Prefix base) = tt
meaning_ranged (Based base m) = integer_ranged false m
meaning_ranged (BasedUnderscore base m) = tt
meaning_ranged (Fraction minus m places) = decimal_ranged minus m (neg_ℤ (pos places))
meaning_ranged (FractionUnderscore minus m places) = tt
meaning_ranged (ExpLetter minus m places) = tt
meaning_ranged (ExpSign minus m places below) = tt
meaning_ranged (ExpDigit minus m places below exp) = decimal_ranged minus m (signed_by below exp +ℤ neg_ℤ (pos places))
meaning_ranged (ExpUnderscore minus m places below exp) = tt

-- ---- the token whose first byte is b and which has `more` bytes after it, of which s is what follows the first

unfoldable pub Keeps : (b : ℕ) (s : List ℕ) (more : ℕ) → Form → Type 0
Keeps b s more (L.mark x) = Unit {0}
Keeps b s more (L.word w) = w ≡ b ∷ take more s
Keeps b s more (L.text c) = length c ≤ length s
Keeps b s more (L.bytes c) = length c ≤ length s
Keeps b s more (L.integer z) = IntegerFits z
Keeps b s more (L.decimal minus m p) = DecimalFits m p

unfoldable pub ItemKeeps : (b : ℕ) (s : List ℕ) → Item → Type 0
ItemKeeps b s (L.gap more) = Unit {0}
ItemKeeps b s (L.token form more) = Keeps b s more form
ItemKeeps b s (L.fault number) = Unit {0}

string_keeps : (b : ℕ) (s : List ℕ) (isText : Bool) (c : List ℕ) (more : ℕ) → length c ≤ length s → ItemKeeps b s (L.token (L.string_form isText c) more)
unfolding ItemKeeps Keeps
string_keeps b s true c more h = h
string_keeps b s false c more h = h

item_keeps : (sw : Switches) (b : ℕ) (s : List ℕ) → ItemKeeps b s (item sw b s)
unfolding ItemKeeps Keeps Short Ranged number
item_keeps sw b s =
    item_case sw b s (ItemKeeps b s) (record {
      of_gap = λ more h y. tt;
      of_mark = λ y. tt;
      of_word = refl;
      of_string = λ isText body head k m c q h e.
          let l = take (m - suc k) (drop head s) in
          let z = subst (Short (length l)) e (content_short sw isText body l) in
          let t = take_at_most (m - suc k) (drop head s) in
          let d = length-drop head s in
          string_keeps b s isText c (head + m) (omega arith);
      of_integer = λ z e. subst Ranged e (meaning_ranged (feed number_step Start (b ∷ take (front is_number_byte s) s)));
      of_decimal = λ minus m p e. subst Ranged e (meaning_ranged (feed number_step Start (b ∷ take (front is_number_byte s) s)));
      of_fault = λ n h. tt;
    })

-- the same by the places of a text
pub at_keeps : (sw : Switches) (s : List ℕ) (at : ℕ) (form : Form) (more : ℕ) → item_at sw s at ≡ L.token form more
    → Keeps (get_or s at 0) (drop (suc at) s) more form
unfolding item_at ItemKeeps
at_keeps sw s at form more e = subst (ItemKeeps (get_or s at 0) (drop (suc at) s)) e (item_keeps sw (get_or s at 0) (drop (suc at) s))
