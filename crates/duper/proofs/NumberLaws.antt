-- What the code's answer says of the specification's: its number, and the bound on a refusal's place.
-- Assumes nothing.
use Rattle.std.specs.Prelude.{Ok, Err}
use mathlib.Core.Path.{◌≡◌, refl, sym, ap, ◌∙◌, subst}
use Prim.Native.Nat.{ℕ, ◌≤◌}
use native.Mathlib.Omega.{arith}
use mathlib.Core.List.{List}
use Rattle.text.specs.Refusal.{Refusal, refusal}
use Rattle.text.specs.declared.switches.Switches.{Switches}
use Rattle.reader.specs.Syntax.{Outcome, taken, refused}
use Rattle.reader.specs.Reading.{reading, answer_of, max_text}
use Rattle.std.specs.declared.result.Result.{Result}
use Rattle.reader.specs.Content as C
use Rattle.reader.specs.Content.{ContentAnswer, content_given}
use Rattle.reader.proofs.PlaceBound.{PlaceWithin, place_law}
use Rattle.duper.specs.Numbers.{packed, content_number, read_number, found_number}

-- the number of the code's answer to a reading, and to a content call
read_packed : Result ℕ Refusal → ℕ
read_packed (Ok nodes) = nodes
read_packed (Err f) = packed f

content_packed : Result ℕ ℕ → ℕ
content_packed (Ok count) = count
content_packed (Err number) = packed (refusal number 0)

read_packed_law : (o : Outcome) → read_packed (answer_of o) ≡ read_number o
unfolding answer_of read_number read_packed
read_packed_law (taken tree) = refl
read_packed_law (refused number place) = refl

content_packed_law : (a : ContentAnswer) → content_packed (content_given a) ≡ content_number a
unfolding content_given content_number content_packed
content_packed_law (C.given content) = refl
content_packed_law (C.refused number) = refl

pub taken_number : (nodes : ℕ) (o : Outcome) → Ok nodes ≡ answer_of o → nodes ≡ read_number o
unfolding read_packed
taken_number nodes o e = ap read_packed e ∙ read_packed_law o

pub refused_number : (f : Refusal) (o : Outcome) → Err f ≡ answer_of o → packed f ≡ read_number o
unfolding read_packed
refused_number f o e = ap read_packed e ∙ read_packed_law o

pub given_number : (count : ℕ) (a : ContentAnswer) → Ok count ≡ content_given a → count ≡ content_number a
unfolding content_packed
given_number count a e = ap content_packed e ∙ content_packed_law a

pub declined_number : (number : ℕ) (a : ContentAnswer) → Err number ≡ content_given a → packed (refusal number 0) ≡ content_number a
unfolding content_packed
declined_number number a e = ap content_packed e ∙ content_packed_law a

-- a refusal's place in the code's answer can be packed
place_of : Result ℕ Refusal → ℕ
place_of (Ok nodes) = 0
place_of (Err f) = f.place

place_packed : (o : Outcome) → PlaceWithin max_text o → place_of (answer_of o) ≤ max_text
unfolding answer_of PlaceWithin place_of
place_packed (taken tree) h = omega arith
place_packed (refused number place) h = h

pub place_small : (sw : Switches) (words : ℕ) (s : List ℕ) (f : Refusal) → Err f ≡ answer_of (reading sw words s) → f.place ≤ max_text
unfolding place_of
place_small sw words s f e = subst (λ r. place_of r ≤ max_text) (sym e) (place_packed (reading sw words s) (place_law sw words s))

-- the number of the code's answer to a path
pub node_number : (node : ℕ) (a : Result ℕ Refusal) → Ok node ≡ a → node ≡ found_number a
unfolding found_number
node_number node a e = ap found_number e

pub step_number : (f : Refusal) (a : Result ℕ Refusal) → Err f ≡ a → packed f ≡ found_number a
unfolding found_number
step_number f a e = ap found_number e
