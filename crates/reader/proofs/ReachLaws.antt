-- Where a run ends: at a token that is refused, at the end of the text, or at a fault; and a taken run goes over all tokens.
-- Assumes nothing.
use mathlib.Core.Path.{◌≡◌, refl, ap}
use Prim.Native.Nat.{ℕ}
use native.Mathlib.Omega.{arith}
use mathlib.Core.Bool.{false≢true}
use mathlib.Core.List.{List, [], ◌∷◌}
use Rattle.text.specs.declared.switches.Switches.{Switches}
use Rattle.lexer.specs.Token as L
use Rattle.lexer.specs.Token.{Token, Tokens}
use Rattle.lexer.proofs.TokenLaws.{Within}
use Rattle.lexer.proofs.FaultLaws.{TokensFault}
use Rattle.lexer.proofs.ItemLaws.{leads}
use Rattle.reader.specs.declared.tree.Limits.{Limits}
use Rattle.reader.specs.Syntax.{Mode, value, named, inner, close, inside, colon, done, Config, Step, go, refuse, step, refused, at_end, after_step, run}
use Rattle.reader.specs.Reading.{is_taken}
use Rattle.reader.proofs.Viable.{Taken}
use Rattle.reader.proofs.RoomLaws.{Over, stays, goes}

-- how far the machine goes over tokens: to one that is refused, to the end, or to a fault
pub data Reach (sw : Switches) (l : Limits) (c : Config) (all : Tokens) : Type 0 where
  to_token : (ts : List Token) (u : Token) (r : Tokens) (d : Config) (n : ℕ) → all ≡ leads ts (L.next u r) → Over sw l c ts d → step sw l d u ≡ refuse n
      → Reach sw l c all
  to_end : (ts : List Token) (place : ℕ) (d : Config) → all ≡ leads ts (L.end place) → Over sw l c ts d → Reach sw l c all
  to_fault : (ts : List Token) (n place : ℕ) (d : Config) → all ≡ leads ts (Tokens.fault n place) → Over sw l c ts d → Reach sw l c all

module _ (sw : Switches) (l : Limits) where
  reach_on : (t : Token) (all : Tokens) (c d : Config) → step sw l c t ≡ go d → Reach sw l d all → Reach sw l c (L.next t all)
  unfolding leads
  reach_on t all c d e (to_token ts u r g n f p x) = to_token (t ∷ ts) u r g n (ap (L.next t) f) (goes e p) x
  reach_on t all c d e (to_end ts place g f p) = to_end (t ∷ ts) place g (ap (L.next t) f) (goes e p)
  reach_on t all c d e (to_fault ts n place g f p) = to_fault (t ∷ ts) n place g (ap (L.next t) f) (goes e p)

  reach_next : (t : Token) (all : Tokens) (c : Config) (s : Step) → step sw l c t ≡ s → ((d : Config) → Reach sw l d all) → Reach sw l c (L.next t all)
  unfolding leads
  reach_next t all c (go d) e f = reach_on t all c d e (f d)
  reach_next t all c (refuse n) e f = to_token [] t all c n refl stays e

  pub reach : (all : Tokens) (c : Config) → Reach sw l c all
  unfolding leads
  reach (L.next t all) c = reach_next t all c (step sw l c t) refl (λ d. reach all d)
  reach (L.end place) c = to_end [] place c refl stays
  reach (Tokens.fault n place) c = to_fault [] n place c refl stays

  -- a taken run goes over all tokens
  pub taken_over : (ts : List Token) (r : Tokens) (c : Config) → Taken (run sw l (leads ts r) c) → (d : Config) × Over sw l c ts d
  unfolding leads run after_step Taken is_taken
  taken_over [] r c h = (c, stays)
  taken_over (t ∷ ts) r c h = on (step sw l c t) refl h (λ d. taken_over ts r d)
    where
      on : (s : Step) → step sw l c t ≡ s → Taken (after_step t.start s (λ g. run sw l (leads ts r) g))
          → ((d : Config) → Taken (run sw l (leads ts r) d) → (e : Config) × Over sw l d ts e) → (e : Config) × Over sw l c (t ∷ ts) e
      on (go d) e k f = let w = f d k in (w.0, goes e w.1)
      on (refuse n) e k f = absurd (false≢true k)

-- the end of a text is told as its length
pub end_place : (n at : ℕ) (ts : List Token) (place : ℕ) → Within n at (leads ts (L.end place)) → place ≡ n
unfolding leads Within
end_place n at [] place w = w
end_place n at (t ∷ ts) place w = end_place n t.stop ts place w.3

-- the fault of a token is not 7
pub fault_not : (ts : List Token) (n place : ℕ) → TokensFault (leads ts (Tokens.fault n place)) → n ≡ 7 → ⊥
unfolding leads TokensFault
fault_not [] n place h e = let a = h.0 in let b = h.1 in omega arith
fault_not (t ∷ ts) n place h e = fault_not ts n place h e

-- at the end the machine takes or refuses with 7
pub end_either : (place : ℕ) (m : Mode) → (Taken (at_end place m) → ⊥) → at_end place m ≡ refused 7 place
unfolding at_end Taken is_taken
end_either place (value any key) h = refl
end_either place (named any a) h = refl
end_either place (inner any a) h = refl
end_either place (close t) h = refl
end_either place (inside slot) h = refl
end_either place (colon key) h = refl
end_either place (done t) h = absurd (h refl)
