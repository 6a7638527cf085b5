-- Two contents side by side: what their first bytes say.
-- Assumes nothing.
use mathlib.Core.Path.{◌≡◌, refl, ap}
use Prim.Native.Nat.{ℕ}
use mathlib.Core.Bool.{Bool, false, ◌&&◌}
use mathlib.Core.Option.{Option, none, some}
use mathlib.Core.List.{List, [], ◌∷◌}
use borrow.Author.Tests.{eq-eqb, ne_eqb}
use Rattle.text.specs.declared.switches.Switches.{Switches}
use Rattle.text.specs.Bytes.{same_bytes}
use Rattle.text.specs.Utf8.{listed}
use Rattle.literals.specs.declared.decoder.Decoder.TheVariants.{Letters}
use Rattle.literals.specs.Content.{decode_step, may_end, prepend, decoded, same_content}

pub same_none : (x : Option (List ℕ)) → same_content x none ≡ false
unfolding same_content
same_none none = refl
same_none (some a) = refl

pub end_byte : (q : ℕ) (y : Option (List ℕ)) → same_content (some []) (prepend (q ∷ []) y) ≡ false
unfolding same_content same_bytes prepend
end_byte q none = refl
end_byte q (some b) = refl

pub byte_end : (p : ℕ) (x : Option (List ℕ)) → same_content (prepend (p ∷ []) x) (some []) ≡ false
unfolding same_content same_bytes prepend
byte_end p none = refl
byte_end p (some a) = refl

pub byte_differ : (p q : ℕ) (x y : Option (List ℕ)) → (p ≡ q → ⊥) → same_content (prepend (p ∷ []) x) (prepend (q ∷ []) y) ≡ false
unfolding same_content same_bytes prepend
byte_differ p q none y n = refl
byte_differ p q (some a) none n = refl
byte_differ p q (some a) (some b) n = ap (λ (t : Bool). t && same_bytes a b) (ne_eqb p q n)

pub byte_same : (p q : ℕ) (x y : Option (List ℕ)) → p ≡ q → same_content (prepend (p ∷ []) x) (prepend (q ∷ []) y) ≡ same_content x y
unfolding same_content same_bytes prepend
byte_same p q none y e = refl
byte_same p q (some a) none e = refl
byte_same p q (some a) (some b) e = ap (λ (t : Bool). t && same_bytes a b) (eq-eqb p q e)

-- a word is its own content
pub letters_own : (sw : Switches) (s : List ℕ) → decoded sw Letters s ≡ some s
unfolding decoded decode_step may_end prepend listed
letters_own sw [] = refl
letters_own sw (b ∷ s) = ap (prepend (b ∷ [])) (letters_own sw s)
