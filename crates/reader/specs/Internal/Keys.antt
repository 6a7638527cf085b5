-- That an object's keys are told by the text and the table alone, as what holds them says. Nothing here has to be believed.
-- Assumes nothing.
use Rattle.std.specs.Prelude.{ℕ, ◌+◌, ◌*◌, ◌≡◌, List, [], ◌∷◌, get_or}
use mathlib.Core.Path.{PathP, sym, ap, ◌∙◌}
use native.Mathlib.Omega.{arith}
use mathlib.Core.Option.{some}
use mathlib.Core.Option as O
use mathlib.Core.List as L
use mathlib.Core.HLevel.{×_prop, is_prop→PathP}
use native.Mathlib.Bridge.{le_prop}
use Rattle.std.proofs.Math.Nat.{ℕ_set}
use Rattle.text.specs.declared.switches.Switches.{Switches}
use Rattle.reader.specs.Tree.{node_words}
use Rattle.reader.specs.Reading.{word_of}
use Rattle.reader.specs.Internal.Values.{KeyAt, Link, SiblingKeys, HaveKeys}

some_is : {a b : List ℕ} → some a ≡ some b → a ≡ b
some_is e = cc

-- a span has one content
pub key_unique : (sw : Switches) (s : List ℕ) (a e : ℕ) (v w : List ℕ) → KeyAt sw s a e v → KeyAt sw s a e w → v ≡ w
key_unique sw s a e v w p q = some_is (sym p.holds ∙ q.holds)

pub chain_unique : (sw : Switches) (s tab : List ℕ) (x m : ℕ) (ks js : List (List ℕ)) → SiblingKeys sw s tab x m ks → SiblingKeys sw s tab x m js → ks ≡ js
chain_unique sw s tab x m [] [] C D = λ i. []
chain_unique sw s tab x m [] (v ∷ js) C D = let L = D.0 in let z : ⊥ = omega arith in absurd z
chain_unique sw s tab x m (w ∷ ks) [] C D = let L = C.0 in let z : ⊥ = omega arith in absurd z
chain_unique sw s tab x m (w ∷ ks) (v ∷ js) C D =
    ap (λ (y : List ℕ). y ∷ ks) (key_unique sw s (get_or tab (node_words * x + 4) 0) (get_or tab (node_words * x + 5) 0) w v C.0.key D.0.key)
    ∙ ap (λ (l : List (List ℕ)). v ∷ l) (chain_unique sw s tab (get_or tab (node_words * x + 8) 0) m ks js C.1 D.1)

KeyAt-prop : (sw : Switches) (s : List ℕ) (a e : ℕ) (w : List ℕ) → IsProp (KeyAt sw s a e w)
KeyAt-prop sw s a e w H K = λ i.
    record {
      ordered = le_prop H.ordered K.ordered i;
      inside = le_prop H.inside K.inside i;
      holds = O.is_set (L.is_set ℕ_set) _ _ H.holds K.holds i;
    }

Link-prop : (sw : Switches) (s tab : List ℕ) (x m : ℕ) (w : List ℕ) → IsProp (Link sw s tab x m w)
Link-prop sw s tab x m w H K = λ i.
    record {
      row = le_prop H.row K.row i;
      later = le_prop H.later K.later i;
      below = le_prop H.below K.below i;
      key = KeyAt-prop sw s (word_of tab x 4) (word_of tab x 5) w H.key K.key i;
    }

SiblingKeys-prop : (sw : Switches) (s tab : List ℕ) (x m : ℕ) (ks : List (List ℕ)) → IsProp (SiblingKeys sw s tab x m ks)
SiblingKeys-prop sw s tab x m [] = ℕ_set x m
SiblingKeys-prop sw s tab x m (w ∷ ks) = ×_prop (Link-prop sw s tab x m w) (SiblingKeys-prop sw s tab (word_of tab x 8) m ks)

pub HaveKeys-prop : (sw : Switches) (s tab : List ℕ) (x m : ℕ) → IsProp (HaveKeys sw s tab x m)
HaveKeys-prop sw s tab x m H K = λ i. record { keys = same i; siblings = over i }
  where
    same : H.keys ≡ K.keys
    same = chain_unique sw s tab x m H.keys K.keys H.siblings K.siblings

    over : PathP (λ i. SiblingKeys sw s tab x m (same i)) H.siblings K.siblings
    over = is_prop→PathP (λ i. SiblingKeys sw s tab x m (same i)) (λ i. SiblingKeys-prop sw s tab x m (same i)) H.siblings K.siblings
