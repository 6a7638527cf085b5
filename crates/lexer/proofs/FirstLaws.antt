-- What the first byte of an item says: a gap or a token begins with an ASCII byte, a byte that a word or number goes on with begins no gap
-- and no mark, and a line's end is a gap.
-- Assumes nothing.
use mathlib.Core.Path.{◌≡◌, refl, sym, ◌∙◌, subst}
use Prim.Native.Nat.{ℕ, ◌≤◌}
use native.Mathlib.Decide.{dec_lt}
use native.Mathlib.Omega.{arith}
use mathlib.Core.Bool.{Bool, true, false, ◌||◌, true≢false}
use mathlib.Core.List.{List}
use lib.Dec.{T, eqb, eqb→eq}
use borrow.Author.Tests.{not-false}
use Rattle.text.specs.declared.switches.Switches.{Switches}
use Rattle.text.specs.Bytes.{one_of, Class, class_of, is_space, is_digit, is_capital, is_small, is_joiner, is_letter_or_digit, is_word_byte, is_number_byte, is, ascii}
use Rattle.text.proofs.Choice.{cond_both, or_case}
use Rattle.text.proofs.ClassLaws.{AllOf, one_of_law, space_of, class_high}
use Rattle.literals.specs.Number.{number}
use Rattle.lexer.specs.Closing.{not_newline}
use Rattle.lexer.specs.Token.{Form, string_form, mark, word, text, bytes, integer, decimal, Item, gap, token, fault, item_of, item}
use Rattle.lexer.proofs.ItemCases.{Loose, item_case}
use Rattle.lexer.proofs.Seams.{EndsAt, goes_on}

-- ---- bytes above 127 begin no item

-- the first byte of a gap or a token
pub item_ascii : (sw : Switches) (n b : ℕ) (s : List ℕ) → EndsAt n (item sw b s) → b ≤ 127
unfolding item item_of EndsAt
item_ascii sw n b s h =
    elim (dec_lt 127 b) [
      | yes high ↦ absurd (subst (λ (c : Class). EndsAt n (item_of sw c b s)) (class_high b high) h)
      | no low ↦ omega arith
    ]

-- ---- a byte that a word or number goes on with begins no gap and no mark

unfoldable pub SolidForm : Form → Type 0
SolidForm (mark b) = ⊥
SolidForm (word s) = Unit {0}
SolidForm (text s) = Unit {0}
SolidForm (bytes s) = Unit {0}
SolidForm (integer z) = Unit {0}
SolidForm (decimal minus m p) = Unit {0}

unfoldable pub Solid : Item → Type 0
Solid (gap more) = ⊥
Solid (token form more) = SolidForm form
Solid (fault number) = Unit {0}

string_solid : (isText : Bool) (c : List ℕ) → SolidForm (string_form isText c)
unfolding SolidForm
string_solid true c = tt
string_solid false c = tt

goes_class : (b : ℕ) → goes_on b ≡ true → Loose (class_of b) → ⊥
unfolding class_of Loose AllOf goes_on is_number_byte is_word_byte is_letter_or_digit
goes_class b h =
    let Tight : Class → Type 0 = λ c. Loose c → ⊥ in
    let No : ℕ → Type 0 = λ x. goes_on x ≡ false in
    let no : No b → ⊥ = λ e. true≢false (sym h ∙ e) in
    cond_both Tight (is_space b) (λ t _. no (space_of No b t refl refl refl refl))
    (λ _. cond_both Tight (is_digit b) (λ _ y. y)
    (λ _. cond_both Tight (is_capital b) (λ _ y. y)
    (λ _. cond_both Tight (is_small b) (λ _ y. y)
    (λ _. cond_both Tight (is_joiner b) (λ _ y. y)
    (λ _. cond_both Tight (is "\"" b) (λ _ y. y)
    (λ _. cond_both Tight (is "'" b) (λ _ y. y)
    (λ _. cond_both Tight (one_of (ascii "{}[]():,") b)
    (λ t _. no (one_of_law No (ascii "{}[]():,") b t (refl, (refl, (refl, (refl, (refl, (refl, (refl, (refl, tt))))))))))
    (λ _. cond_both Tight (is "/" b) (λ t _. no (subst No (sym (eqb→eq b 47 t)) refl))
    (λ _. cond_both Tight (is "+" b) (λ _ y. y)
    (λ _ y. y))))))))))

-- so before a gap or a mark words and numbers end
pub solid : (sw : Switches) (b : ℕ) (s : List ℕ) → goes_on b ≡ true → Solid (item sw b s)
unfolding Solid SolidForm
solid sw b s h =
    item_case sw b s Solid (record {
      of_gap = λ more g y. goes_class b h y;
      of_mark = λ y. goes_class b h y;
      of_word = tt;
      of_string = λ isText body head k m c q g e. string_solid isText c;
      of_integer = λ z e. tt;
      of_decimal = λ minus m p e. tt;
      of_fault = λ n g. tt;
    })

-- ---- a line's end is a gap

pub newline_gap : (sw : Switches) (b : ℕ) (s : List ℕ) → not_newline b ≡ false → item sw b s ≡ gap 0
unfolding not_newline item item_of class_of
newline_gap sw b s h =
    or_case (eqb b 0x0A) (eqb b 0x0D) (item sw b s ≡ gap 0) (subst T (sym (not-false (eqb b 0x0A || eqb b 0x0D) h)) tt)
    (λ t. subst (λ (x : ℕ). item sw x s ≡ gap 0) (sym (eqb→eq b 0x0A t)) refl)
    (λ t. subst (λ (x : ℕ). item sw x s ≡ gap 0) (sym (eqb→eq b 0x0D t)) refl)
