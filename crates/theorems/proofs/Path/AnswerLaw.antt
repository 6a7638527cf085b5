-- The numbers of an answer: a node of the text, a step of the path, or the reading's refusal; and the one number that says which.
-- Assumes nothing.
use Rattle.std.specs.Prelude.{Ok, Err}
use mathlib.Core.Path.{◌≡◌, refl, sym, ap, ◌∙◌}
use Prim.Native.Nat.{ℕ, ◌/◌, ◌%◌, ◌≤◌, ◌<◌}
use native.Mathlib.Omega.{arith}
use mathlib.Core.List.{List}
use lib.ListN.{length}
use Rattle.text.specs.declared.switches.Switches.{Switches}
use Rattle.text.specs.Switches.{present_edition}
use Rattle.reader.specs.Tree.{size}
use Rattle.reader.specs.Syntax.{Outcome, taken, refused}
use Rattle.reader.specs.Reading.{reading, node_count}
use Rattle.reader.proofs.NumberBound.{NumberWithin, number_law}
use Rattle.reader.proofs.SizeLaws.{count_law}
use Rattle.path.specs.Path.{steps, follow, found}
use Rattle.std.specs.declared.result.Result.{Result}
use Rattle.text.specs.Refusal.{Refusal}
use Rattle.path.proofs.FoundLaws.{Leads, found_leads, found_node, found_place}
use Rattle.duper.specs.Numbers.{packed, found_number}
use Rattle.theorems.specs.Path.{refused_at, answer, PathsAnswered, FindCall, PathsUnpacked}

-- the number and the place of a refusal
number_of : Result ℕ Refusal → ℕ
number_of (Ok n) = 0
number_of (Err f) = f.number

place_of : Result ℕ Refusal → ℕ
place_of (Ok n) = 0
place_of (Err f) = f.place

-- ---- a step

step_leads : (nodes left k : ℕ) (a : Result ℕ Refusal) → Leads nodes 0 left a → a ≡ refused_at 23 k → (k < left) × (k < nodes)
unfolding Leads place_of
step_leads nodes left k (Ok n) h e = let v : ◌≡◌ {A = ℕ} 0 1 = cc in absurd (omega arith)
step_leads nodes left k (Err f) h e =
    let q : f.place ≡ k = ap place_of e in
    let a = h.1 in
    let b = h.2 in
    (omega arith, omega arith)

-- a path that leads nowhere is refused with 23
step_number : (nodes left number place : ℕ) (a : Result ℕ Refusal) → Leads nodes 0 left a → a ≡ refused_at number place → number ≡ 23
unfolding Leads number_of
step_number nodes left number place (Ok n) h e = cc
step_number nodes left number place (Err f) h e = sym (ap number_of e) ∙ h.0

module _ (sw : Switches) (text path : List ℕ) where
  step_by : (k : ℕ) (o : Outcome) → NumberWithin o → found sw text path o ≡ refused_at 23 k → (k < length (steps path)) × (k < node_count o)
  unfolding found node_count NumberWithin number_of
  step_by k (taken tree) n e =
      step_leads (size tree) (length (steps path)) k (follow sw text 0 0 tree (steps path)) (found_leads sw text tree path) e
  step_by k (refused number place) n e =
      let q : number ≡ 23 = ap number_of e in
      let b = n.1 in
      absurd (omega arith)

  -- ---- a refusal

  refusal_by_law : (number place : ℕ) (o : Outcome) → NumberWithin o → found sw text path o ≡ refused_at number place → (number ≡ 23 → ⊥)
      → (o ≡ refused number place) × (1 ≤ number) × (number ≤ 10)
  unfolding found NumberWithin number_of place_of
  refusal_by_law number place (taken tree) n e not = absurd (not (step_number (size tree) (length (steps path)) number place (follow sw text 0 0 tree (steps path)) (found_leads sw text tree path) e))
  refusal_by_law number place (refused r p) n e not =
      let q : r ≡ number = ap number_of e in
      let a = n.0 in
      let b = n.1 in
      ((λ i. refused (ap number_of e i) (ap place_of e i)), omega arith, omega arith)

  -- every refusal has a number
  some_number : (number place : ℕ) (o : Outcome) → NumberWithin o → found sw text path o ≡ refused_at number place → 1 ≤ number
  unfolding found NumberWithin number_of
  some_number number place (taken tree) n e = let q = step_number (size tree) (length (steps path)) number place (follow sw text 0 0 tree (steps path)) (found_leads sw text tree path) e in omega arith
  some_number number place (refused r p) n e =
      let q : r ≡ number = ap number_of e in
      let a = n.0 in
      omega arith

pub paths_answered : PathsAnswered
unfolding PathsAnswered
paths_answered sw words text path =
    record {
      node = λ n e. found_node sw words text path n (sym e);
      step = λ k e. step_by sw text path k (reading sw words text) (number_law sw words text) e;
      refusal = λ number place e not. refusal_by_law sw text path number place (reading sw words text) (number_law sw words text) e not;
    }

-- ---- the number that C gets

module _ (words : ℕ) (text path : List ℕ) (a : FindCall words text path) where
  abbrev Numbered : Result ℕ Refusal → Type 0
  Numbered f = (a.number < 4294967296 → f ≡ Ok a.number) × (4294967296 ≤ a.number → f ≡ refused_at (a.number / 4294967296) (a.number % 4294967296))

  unpacked_by : (f : Result ℕ Refusal) → answer present_edition words text path ≡ f → a.number ≡ found_number f → Numbered f
  unfolding found_number packed
  unpacked_by (Ok n) e q =
      let l = found_node present_edition words text path n (sym e) in
      let c = count_law present_edition words text in
      ((λ _. ap Ok (sym q)), λ h. absurd (omega arith))
  unpacked_by (Err f) e q =
      let p = found_place present_edition words text path f (sym e) in
      let s = some_number present_edition text path f.number f.place (reading present_edition words text) (number_law present_edition words text) e in
      let d : f.number ≡ a.number / 4294967296 = omega arith in
      let m : f.place ≡ a.number % 4294967296 = omega arith in
      ((λ h. absurd (omega arith)), λ _. λ i. refused_at (d i) (m i))

pub paths_unpacked : PathsUnpacked
unfolding PathsUnpacked
paths_unpacked words text path a =
    let r = unpacked_by words text path a (answer present_edition words text path) refl a.number_is in
    record { node = r.0; refusal = r.1 }
