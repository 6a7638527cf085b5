-- "steps separated by `.`": what is taken off a path are the only steps that make it.
-- Assumes nothing.
use mathlib.Core.Path.{◌≡◌, refl, sym, ap, ◌∙◌, subst}
use Prim.Native.Nat.{ℕ, ◌<◌}
use Prim.Native.Char.{code}
use native.Mathlib.Omega.{arith}
use mathlib.Core.Bool.{Bool, true, false, not, cond}
use mathlib.Core.List.{List, [], ◌∷◌, ◌++◌, append-nil}
use lib.ListN.{length}
use borrow.Author.Tests.{eqb-true}
use Rattle.text.specs.Bytes.{is}
use Rattle.text.proofs.Choice.{and_left, and_right}
use Rattle.path.specs.Path.{on_first, pieces, steps}
use Rattle.theorems.specs.Insertion.{every}
use Rattle.theorems.specs.Path.{joined, no_dots, Separated, StepsOf}

-- ---- a byte put before the first step

front_joined : (b : ℕ) (ss : List (List ℕ)) → 0 < length ss → joined (on_first b ss) ≡ b ∷ joined ss
unfolding on_first joined
front_joined b [] h = absurd (omega arith)
front_joined b (s ∷ []) h = refl
front_joined b (s ∷ t ∷ ss) h = refl

front_apart : (b : ℕ) (ss : List (List ℕ)) → is "." b ≡ false → no_dots ss ≡ true → no_dots (on_first b ss) ≡ true
unfolding on_first no_dots every
front_apart b [] e h = rw e
front_apart b (s ∷ ss) e h = rw e h

front_some : (b : ℕ) (ss : List (List ℕ)) → 0 < length (on_first b ss)
unfolding on_first
front_some b [] = omega arith
front_some b (s ∷ ss) = omega arith

-- an empty step before others
empty_joined : (ss : List (List ℕ)) → 0 < length ss → joined ([] ∷ ss) ≡ code "." ∷ joined ss
unfolding joined
empty_joined [] h = absurd (omega arith)
empty_joined (s ∷ ss) h = refl

-- ---- the pieces are steps

pieces_separated : (s : List ℕ) → Separated s (pieces s)
unfolding pieces joined no_dots every
pieces_separated [] = record { not_none = omega arith; whole = refl; apart = refl }
pieces_separated (b ∷ s) = by (is "." b) refl (pieces_separated s)
  where
    by : (t : Bool) → is "." b ≡ t → Separated s (pieces s) → Separated (b ∷ s) (cond t ([] ∷ pieces s) (on_first b (pieces s)))
    by true e P =
        record {
          not_none = omega arith;
          whole = empty_joined (pieces s) P.not_none ∙ (λ i. sym (eqb-true b (code ".") e) i ∷ P.whole i);
          apart = P.apart;
        }
    by false e P =
        record {
          not_none = front_some b (pieces s);
          whole = front_joined b (pieces s) P.not_none ∙ ap (λ (l : List ℕ). b ∷ l) P.whole;
          apart = front_apart b (pieces s) e P.apart;
        }

-- ---- and no others are

not_dot : (b : ℕ) (t : Bool) → not (is "." b) ≡ true → is "." b ≡ t → t ≡ false
not_dot b false h e = refl
not_dot b true h e = sym (sym (ap not e) ∙ h)

-- bytes of a step before others are the front of the first of these
before_others : (s r first : List ℕ) (others : List (List ℕ)) → every (λ b. not (is "." b)) s ≡ true → pieces r ≡ first ∷ others
    → pieces (s ++ r) ≡ (s ++ first) ∷ others
unfolding pieces every on_first
before_others [] r first others h e = e
before_others (b ∷ s) r first others h e =
    let d = not_dot b (is "." b) (and_left (not (is "." b)) _ h) refl in
    ap (λ (t : Bool). cond t ([] ∷ pieces (s ++ r)) (on_first b (pieces (s ++ r)))) d
    ∙ ap (on_first b) (before_others s r first others (and_right (not (is "." b)) _ h) e)

pieces_joined : (ss : List (List ℕ)) → 0 < length ss → no_dots ss ≡ true → pieces (joined ss) ≡ ss
unfolding joined no_dots pieces
pieces_joined [] h d = absurd (omega arith)
pieces_joined (s ∷ []) h d =
    subst (λ (l : List ℕ). pieces l ≡ l ∷ []) (append-nil s) (before_others s [] [] [] (and_left (every (λ b. not (is "." b)) s) true d) refl)
pieces_joined (s ∷ t ∷ ss) h d =
    before_others s (code "." ∷ joined (t ∷ ss)) [] (pieces (joined (t ∷ ss))) (and_left (every (λ b. not (is "." b)) s) (no_dots (t ∷ ss)) d) refl
    ∙ (λ i. append-nil s i ∷ pieces_joined (t ∷ ss) (omega arith) (and_right (every (λ b. not (is "." b)) s) (no_dots (t ∷ ss)) d) i)

-- ---- the claim

pieces_steps : (path : List ℕ) → 0 < length path → pieces path ≡ steps path
unfolding steps
pieces_steps [] h = absurd (omega arith)
pieces_steps (b ∷ s) h = refl

pub steps_of : StepsOf
unfolding steps
steps_of =
    record {
      of_empty = refl;
      separated = λ path h. subst (Separated path) (pieces_steps path h) (pieces_separated path);
      only = λ path h ss S. sym (pieces_joined ss S.not_none S.apart) ∙ ap pieces S.whole ∙ pieces_steps path h;
    }
