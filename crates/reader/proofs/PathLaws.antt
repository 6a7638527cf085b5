-- The machine's walk through a text: a run followed item by item, as a thing to argue by. What the text comes to is what its rest comes to
-- behind a path, and every taken run is a path through the whole text.
-- Assumes nothing.
use mathlib.Core.Path.{◌≡◌, refl, sym, ap, ◌∙◌, subst}
use Prim.Native.Nat.{ℕ, zero, suc, ◌+◌, ◌≤◌}
use native.Mathlib.Nat.{le_refl}
use native.Mathlib.Omega.{arith}
use mathlib.Core.List.{List, [], ◌∷◌, ◌++◌, append-nil, append_assoc}
use lib.ListN.{length, length-append}
use Rattle.text.specs.declared.switches.Switches.{Switches}
use Rattle.lexer.specs.Token as L
use Rattle.lexer.specs.Token.{Token, Tokens, Form, Item, item, cut}
use Rattle.lexer.proofs.SeamLaws.{cut_token, cut_took, cut_fault, split_gap, split_token}
use Rattle.lexer.proofs.WalkLaws.{Walk, here, past, took, walk_cut}
use Rattle.reader.specs.Tree.{Tree}
use Rattle.reader.specs.declared.tree.Limits.{Limits}
use Rattle.reader.specs.Syntax.{Mode, value, named, inner, close, inside, colon, done, Config, Step, go, refuse, step, taken, refused, at_end, after_step, run}

abbrev pub Moves : Switches → Limits → Config → Token → Config → Type 0
Moves sw limits c t d = step sw limits c t ≡ go d

-- from c₀ at the place `from` the machine reads `pre`, with z behind it, and stands in the last configuration
abbrev pub Path : Switches → Limits → (from : ℕ) → Config → (pre z : List ℕ) → Config → Type 0
Path sw limits from c₀ pre z c = Walk sw (Moves sw limits) from c₀ pre z c

module _ (sw : Switches) (limits : Limits) (from : ℕ) (c₀ : Config) where
  pub path_run : {pre z : List ℕ} {c : Config} → Path sw limits from c₀ pre z c
      → run sw limits (cut sw 0 from (pre ++ z)) c₀ ≡ run sw limits (cut sw 0 (from + length pre) z) c
  unfolding run after_step
  path_run p =
      walk_cut sw (Moves sw limits) from c₀ (λ c ts. run sw limits ts c)
      (λ c d t ts m. ap (λ (u : Step). after_step t.start u (λ e. run sw limits ts e)) m) p

  -- a token that is refused ends the run
  pub path_refused : (pre : List ℕ) (b : ℕ) (x z : List ℕ) (form : Form) (k : ℕ) {c : Config} → Path sw limits from c₀ pre (b ∷ (x ++ z)) c
      → item sw b (x ++ z) ≡ L.token form (length x) → step sw limits c (cut_token form (from + length pre) (length x)) ≡ refuse k
      → run sw limits (cut sw 0 from (pre ++ (b ∷ (x ++ z)))) c₀ ≡ refused k (from + length pre)
  unfolding run after_step
  path_refused pre b x z form k {c} p i s =
      path_run p ∙ ap (λ (ts : Tokens). run sw limits ts c) (cut_took sw (from + length pre) b x z form i)
      ∙ ap (λ (u : Step). after_step (from + length pre) u (λ e. run sw limits (cut sw 0 (from + length pre + suc (length x)) z) e)) s

-- ---- a taken run

at_done : (p : ℕ) (m : Mode) (t : Tree) → at_end p m ≡ taken t → m ≡ done t
unfolding at_end
at_done p (value any key) t e = cc
at_done p (named any l) t e = cc
at_done p (inner any l) t e = cc
at_done p (close u) t e = cc
at_done p (inside slot) t e = cc
at_done p (colon k) t e = cc
at_done p (done u) t e = cc

-- a path through the whole text
pub record WholePath (sw : Switches) (limits : Limits) (from : ℕ) (c₀ : Config) (tree : Tree) (s : List ℕ) : Type 0 where
  pub last : Config
  pub path : Path sw limits from c₀ s [] last
  pub over : last.mode ≡ done tree

module _ (sw : Switches) (limits : Limits) (from : ℕ) (c₀ : Config) (tree : Tree) (s : List ℕ)
    (h : run sw limits (cut sw 0 from s) c₀ ≡ taken tree) where
  not_refused : (l : List ℕ) (k place : ℕ) → l ≡ s → run sw limits (cut sw 0 from l) c₀ ≡ refused k place → ⊥
  not_refused l k place j e =
      let q : refused k place ≡ taken tree = sym e ∙ ap (λ (y : List ℕ). run sw limits (cut sw 0 from y) c₀) j ∙ h in
      let z : ◌≡◌ {A = ℕ} 0 1 = cc in
      omega arith

  -- from a path to the end, if so many bytes are left
  Next : ℕ → Type 0
  Next n = (pre z : List ℕ) (c : Config) → pre ++ z ≡ s → length z ≤ n → Path sw limits from c₀ pre z c → WholePath sw limits from c₀ tree s

  turn : (n : ℕ) (pre : List ℕ) (b : ℕ) (l : List ℕ) (c : Config) (i : Item) → item sw b l ≡ i → pre ++ (b ∷ l) ≡ s → length l ≤ n
      → Path sw limits from c₀ pre (b ∷ l) c → Next n → WholePath sw limits from c₀ tree s
  unfolding Next run
  turn n pre b l c (L.gap k) e j m p f =
      let w = split_gap sw b l k e in
      let x = w.own in
      let z = w.rest in
      let q = ap length w.joined in
      let a = length-append x z in
      let all : pre ++ (b ∷ (x ++ z)) ≡ s = ap (λ (y : List ℕ). pre ++ (b ∷ y)) w.joined ∙ j in
      f (pre ++ (b ∷ x)) z c (append_assoc pre (b ∷ x) z ∙ all) (omega arith)
      (past pre b x (subst (λ (y : List ℕ). Path sw limits from c₀ pre (b ∷ y) c) (sym w.joined) p) w.it)
  turn n pre b l c (L.token form k) e j m p f =
      let w = split_token sw b l form k e in
      let q = ap length w.joined in
      let a = length-append w.own w.rest in
      on w.own w.rest (ap (λ (y : List ℕ). pre ++ (b ∷ y)) w.joined ∙ j) (omega arith)
      (subst (λ (y : List ℕ). Path sw limits from c₀ pre (b ∷ y) c) (sym w.joined) p) w.it
      (step sw limits c (cut_token form (from + length pre) (length w.own))) refl
    where
      on : (x z : List ℕ) → pre ++ (b ∷ (x ++ z)) ≡ s → length z ≤ n → Path sw limits from c₀ pre (b ∷ (x ++ z)) c
          → item sw b (x ++ z) ≡ L.token form (length x) → (u : Step) → step sw limits c (cut_token form (from + length pre) (length x)) ≡ u
          → WholePath sw limits from c₀ tree s
      on x z all less p' i (go d) u = f (pre ++ (b ∷ x)) z d (append_assoc pre (b ∷ x) z ∙ all) less (took pre b x form p' i u)
      on x z all less p' i (refuse r) u =
          absurd (not_refused (pre ++ (b ∷ (x ++ z))) r (from + length pre) all (path_refused sw limits from c₀ pre b x z form r p' i u))
  turn n pre b l c (Item.fault k) e j m p f =
      absurd (not_refused (pre ++ (b ∷ l)) k (from + length pre) j
      (path_run sw limits from c₀ p ∙ ap (λ (ts : Tokens). run sw limits ts c) (cut_fault sw (from + length pre) b l k e)))

  to_end : (n : ℕ) → Next n
  unfolding Next run cut
  to_end zero pre [] c j m p = ends pre c j p
    where
      ends : (pre : List ℕ) (c : Config) → pre ++ [] ≡ s → Path sw limits from c₀ pre [] c → WholePath sw limits from c₀ tree s
      ends pre c j p =
          record {
            last = c;
            path = subst (λ (y : List ℕ). Path sw limits from c₀ y [] c) (sym (append-nil pre) ∙ j) p;
            over =
                at_done (from + length pre) c.mode tree
                (sym (path_run sw limits from c₀ p) ∙ ap (λ (y : List ℕ). run sw limits (cut sw 0 from y) c₀) j ∙ h);
          }
  to_end (suc n) pre [] c j m p = to_end n pre [] c j (omega arith) p
  to_end zero pre (b ∷ l) c j m p = absurd (omega arith)
  to_end (suc n) pre (b ∷ l) c j m p = turn n pre b l c (item sw b l) refl j (omega arith) p (to_end n)

  pub whole_path : WholePath sw limits from c₀ tree s
  unfolding Next
  whole_path = to_end (length s) [] s c₀ refl (le_refl (length s)) here
