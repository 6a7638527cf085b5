-- The walk over an object's children, which a loop keeps.
-- Assumes nothing.
use mathlib.Core.Path.{◌≡◌, sym, ap, ◌∙◌, subst}
use Prim.Native.Nat.{ℕ, ◌<◌, ◌≤◌}
use native.Mathlib.Omega.{arith}
use mathlib.Core.List.{List, [], ◌∷◌}
use Rattle.text.specs.declared.switches.Switches.{Switches}
use Rattle.reader.specs.Reading.{word_of}
use Rattle.reader.specs.Internal.Values.{SiblingKeys, HaveKeys}
use Rattle.reader.specs.Internal.Siblings.{Chained}
use Rattle.reader.specs.declared.siblings.Siblings.{Siblings}

pub chained : {sw : Switches} {s tab : List ℕ} {x m : ℕ} → HaveKeys sw s tab x m → Chained tab x m
chained {sw} {s} K = record { sw = sw; text = s; keys = K }

-- the child at x, and those behind it
pub record ChainedOn (tab : List ℕ) (x y m : ℕ) : Type 0 where
  pub up : x < y
  pub within : y ≤ m
  pub rest : Chained tab y m

pub chained_on : {tab : List ℕ} {x y m : ℕ} → Chained tab x m → x < m → y ≡ word_of tab x 8 → ChainedOn tab x y m
chained_on {tab} {x} {y} {m} C h e = by C.keys.keys C.keys.siblings
  where
    by : (ks : List (List ℕ)) → SiblingKeys C.sw C.text tab x m ks → ChainedOn tab x y m
    by [] z = absurd (omega arith)
    by (w ∷ ks) z =
        let L = z.0 in
        record {
          up = omega arith;
          within = omega arith;
          rest = record { sw = C.sw; text = C.text; keys = record { keys = ks; siblings = subst (λ (v : ℕ). SiblingKeys C.sw C.text tab v m ks) (sym e) z.1 } };
        }

-- the iterator is over the children in this table, up to m
pub record Over (tab : List ℕ) (m : ℕ) (s : Siblings) : Type 0 where
  pub table_is : s.table.now ≡ tab
  pub end_is : s.end ≡ m

-- what a loop on the iterator begins with, where P is so of the first child
pub over_start : (P : ℕ → Type 0) (tab : List ℕ) (x m : ℕ) (r s : Siblings) → s ≡ r → Chained r.table.now r.next r.end → r.table.now ≡ tab → r.next ≡ x
    → r.end ≡ m → P x → Chained s.table.now s.next s.end × Unit {0} × Over tab m s × P s.next
over_start P tab x m r s e l t n z p = rw e (l, tt, record { table_is = t; end_is = z }, subst P (sym n) p)

-- it gave the child x, and goes on
pub record Gave (tab : List ℕ) (m x : ℕ) (s t : Siblings) : Type 0 where
  pub at : s.next ≡ x
  pub before : x < m
  pub on : t.next ≡ word_of tab x 8
  pub over : Over tab m t

pub gave : (tab : List ℕ) (m x : ℕ) (s t : Siblings) → Over tab m s
    → (t.table.now ≡ s.table.now) × (t.end ≡ s.end) × ((x ≡ s.next) × (x < s.end) × (t.next ≡ word_of s.table.now x 8)) → Gave tab m x s t
gave tab m x s t O h =
    record {
      at = sym h.2.0;
      before = let e = O.end_is in let b = h.2.1 in omega arith;
      on = h.2.2 ∙ ap (λ (l : List ℕ). word_of l x 8) O.table_is;
      over = record { table_is = h.0 ∙ O.table_is; end_is = h.1 ∙ O.end_is };
    }

-- there is none left
pub gave_none : (tab : List ℕ) (m : ℕ) (s : Siblings) → Over tab m s → s.end ≤ s.next → m ≤ s.next
gave_none tab m s O h = let e = O.end_is in omega arith
