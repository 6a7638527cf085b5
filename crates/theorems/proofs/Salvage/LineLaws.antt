-- A line that reads by itself, in an array: with 0A behind it, at another place, one container further in. Its tree is the same with all places
-- moved, and is the array's last child.
-- Assumes nothing.
use mathlib.Core.Path.{◌≡◌, refl, sym, ap, ◌∙◌, subst}
use Prim.Native.Nat.{ℕ, suc, ◌+◌, ◌≤◌}
use native.Mathlib.Omega.{arith}
use mathlib.Core.Bool.{true, false}
use mathlib.Core.Option.{none}
use mathlib.Core.List.{List, [], ◌∷◌, ◌++◌}
use lib.ListN.{length}
use Rattle.text.specs.declared.switches.Switches.{Switches}
use Rattle.text.proofs.Choice.{and_off}
use Rattle.lexer.specs.Token.{Token, cut}
use Rattle.lexer.specs.Closing.{not_newline}
use Rattle.lexer.proofs.Seams.{heads, goes_on, Seam}
use Rattle.lexer.proofs.SeamLaws.{cut_token}
use Rattle.lexer.proofs.WalkLaws.{here, past, took, walk_before, follows_when}
use Rattle.reader.specs.Tree.{Tree, Forest, nil, snoc, size}
use Rattle.reader.specs.declared.tree.Kind.TheVariants.{Array}
use Rattle.reader.specs.declared.tree.Limits.{Limits}
use Rattle.reader.specs.Syntax.{Label, Slot, first, lone, after, more, value, inside, done, Config, config, frame, label, go, refuse, Begins, container, scalar, identifier, nothing, span_of, is_comma, empty_by_comma, mark_begins, begins, value_step, fresh_value, child_step, finished, mode_step, step, taken, run, before}
use Rattle.reader.proofs.PathLaws.{Moves, Path, path_run, WholePath, whole_path}
use Rattle.reader.proofs.MapLaws.{map_mode, map_some, map_stack, map_config}
use Rattle.reader.proofs.MoveLaws.{path_shift}
use Rattle.reader.proofs.RootLaws.{root_value}
use Rattle.reader.proofs.AwaitLaws.{Starts, starts_not}
use Rattle.reader.proofs.StepRun.{child_step_law, mode_free}
use Rattle.reader.proofs.SizeLaws.{frames_size, mode_size, Counted, CountedStep, mode_counted}
use Rattle.theorems.specs.Salvage.{moved}
use Rattle.theorems.proofs.Salvage.MovedLaws.{moved_shift}
use Rattle.theorems.proofs.Salvage.OntoLaws.{Settled, over, path_lifts, path_settled}

-- ---- the run by itself

module _ (sw : Switches) (limits : Limits) where
  -- the nodes begun are those of what is open and of what is whole
  path_counted : (from : ℕ) (c₀ : Config) {pre z : List ℕ} {c : Config} → Path sw limits from c₀ pre z c → Counted limits c₀ → Counted limits c
  unfolding CountedStep step
  path_counted from c₀ here h = h
  path_counted from c₀ (past pre b x p e) h = path_counted from c₀ p h
  path_counted from c₀ (took pre b x form {s = c} {t = d} p e m) h =
      subst (CountedStep limits) m (mode_counted limits sw c _ c.mode refl (path_counted from c₀ p h))

  -- a whole value is on no stack (which limits and which container the run could be in besides does not matter)
  settled : {pre z : List ℕ} {c : Config} → Path sw limits 0 (before true) pre z c → Settled c.stack c.mode
  unfolding Settled before
  settled q =
      path_settled sw limits (record { depth = suc limits.depth; nodes = 0 }) (frame Array (label 0 none none) nil []) 0 0 (omega arith) (omega arith) 0
      (before true) q tt

  -- at the end there is the whole tree, on no stack, and so many nodes have begun as it has
  alone : (line : List ℕ) (u : Tree) → run sw limits (cut sw 0 0 line) (before true) ≡ taken u
      → Path sw limits 0 (before true) line [] (config [] (done u) (size u))
  unfolding Counted frames_size mode_size before Settled
  alone line u h = ends p.last p.path p.over
    where
      p : WholePath sw limits 0 (before true) u line
      p = whole_path sw limits 0 (before true) u line h

      ends : (c : Config) → Path sw limits 0 (before true) line [] c → c.mode ≡ done u → Path sw limits 0 (before true) line [] (config [] (done u) (size u))
      ends c q m =
          let k = path_counted 0 (before true) q (omega arith, omega arith) in
          let s : c.stack ≡ [] = subst (Settled c.stack) m (settled q) in
          let w : c.nodes ≡ 0 + size u = k.0 ∙ (λ i. frames_size (s i) + mode_size (m i)) in
          let n : c.nodes ≡ size u = omega arith in
          subst (λ (d : Config). Path sw limits 0 (before true) line [] d) (λ i. config (s i) (m i) (n i)) q

-- ---- from another state, which takes the first token alike

module _ (sw : Switches) (limits : Limits) (from : ℕ) (c₀ c₁ : Config)
    (agree : (t : Token) (d : Config) → step sw limits c₀ t ≡ go d → step sw limits c₁ t ≡ go d) where
  -- where the path from c₀ is, the path from c₁ is too, but for the gaps before the first token
  data Again (pre z : List ℕ) (c : Config) : Type 0 where
    not_yet : c ≡ c₀ → Path sw limits from c₁ pre z c₁ → Again pre z c
    begun : Path sw limits from c₁ pre z c → Again pre z c

  again : {pre z : List ℕ} {c : Config} → Path sw limits from c₀ pre z c → Again pre z c
  again here = not_yet refl here
  again (past pre b x {z = z} {s = c} p e) = on (again p)
    where
      on : Again pre (b ∷ (x ++ z)) c → Again (pre ++ (b ∷ x)) z c
      on (not_yet q w) = not_yet q (past pre b x w e)
      on (begun w) = begun (past pre b x w e)
  again (took pre b x form {z = z} {s = c} {t = d} p e m) = on (again p)
    where
      on : Again pre (b ∷ (x ++ z)) c → Again (pre ++ (b ∷ x)) z d
      on (not_yet q w) =
          begun (took pre b x form w e
          (agree (cut_token form (from + length pre) (length x)) d
          (subst (λ (y : Config). step sw limits y (cut_token form (from + length pre) (length x)) ≡ go d) q m)))
      on (begun w) = begun (took pre b x form w e m)

-- ---- in an array

-- an open array, in which a value may come
abbrev pub in_array : Label → Forest → Slot → ℕ → Config
in_array lab kids slot n = config (frame Array lab kids [] ∷ []) (inside slot) n

-- a value may come there
unfoldable pub MayBegin : Slot → Type 0
MayBegin first = Unit {0}
MayBegin lone = ⊥
MayBegin after = ⊥
MayBegin more = Unit {0}

module _ (sw : Switches) (limits : Limits) (lab : Label) (kids : Forest) (n : ℕ) where
  -- a token that begins a value is taken as the first of one
  takes : (slot : Slot) → MayBegin slot → (t : Token) → Starts (begins (span_of t) t.form)
      → step sw limits (in_array lab kids slot n) t ≡ fresh_value limits (in_array lab kids slot n) true none t
  unfolding MayBegin Starts mark_begins child_step
  takes first y t st =
      child_step_law sw limits Array lab kids [] [] n t 0 (starts_not "]" (span_of t) t.form (λ h. h) st)
      (and_off (is_comma t.form) (empty_by_comma sw Array) (starts_not "," (span_of t) t.form (λ h. h) st))
  takes lone y t st = absurd y
  takes after y t st = absurd y
  takes more y t st = child_step_law sw limits Array lab kids [] [] n t 1 (starts_not "]" (span_of t) t.form (λ h. h) st) refl

  -- so it leads where it would where a value is due
  agrees : (slot : Slot) → MayBegin slot → (t : Token) (d : Config) → step sw limits (config (frame Array lab kids [] ∷ []) (value true none) n) t ≡ go d
      → step sw limits (in_array lab kids slot n) t ≡ go d
  unfolding step mode_step fresh_value Starts value_step
  agrees slot y t d h = on (begins (span_of t) t.form) refl
    where
      same : Starts (begins (span_of t) t.form) → step sw limits (in_array lab kids slot n) t ≡ go d
      same st =
          takes slot y t st
          ∙ mode_free limits (frame Array lab kids [] ∷ []) (inside slot) (value true none) n true true (label t.start none none) t (begins (span_of t) t.form)
          ∙ h

      on : (b : Begins) → begins (span_of t) t.form ≡ b → step sw limits (in_array lab kids slot n) t ≡ go d
      on (container k) e = same (subst Starts (sym e) tt)
      on (scalar s) e = same (subst Starts (sym e) tt)
      on identifier e = same (subst Starts (sym e) tt)
      on nothing e =
          let q : refuse 7 ≡ go d =
          ap (value_step limits (config (frame Array lab kids [] ∷ []) (value true none) n) true true (label t.start none none) t) (sym e) ∙ h in
          let z : ◌≡◌ {A = ℕ} 0 1 = cc in
          absurd (omega arith)

-- the line in the array: what it comes to by itself, moved, is the array's last child, and as many nodes have begun as it has by itself
module _ (sw : Switches) (limits limits' : Limits) (deeper : suc limits.depth ≤ limits'.depth) where
  pub line_in : (line : List ℕ) (u : Tree) → run sw limits (cut sw 0 0 line) (before false) ≡ taken u → (z : List ℕ) → heads goes_on z ≡ false
      → Seam not_newline [] z → (lab : Label) (kids : Forest) (slot : Slot) → MayBegin slot → (n at : ℕ) → size u + n ≤ limits'.nodes
      → run sw limits' (cut sw 0 at (line ++ z)) (in_array lab kids slot n)
      ≡ run sw limits' (cut sw 0 (at + length line) z) (in_array lab (snoc kids (moved at u)) after (size u + n))
  unfolding before map_config map_stack map_mode map_some over finished
  line_in line u h z g k lab kids slot y n at room = by (again sw limits' at start (in_array lab kids slot n) (agrees sw limits' lab kids n slot y) lifted)
    where
      start : Config
      start = config (frame Array lab kids [] ∷ []) (value true none) n

      own : Path sw limits 0 (before true) line [] (config [] (done u) (size u))
      own = alone sw limits line u (root_value sw limits (cut sw 0 0 line) u h)

      there : Path sw limits at (before true) line z (config [] (done (moved at u)) (size u))
      there =
          subst (λ (t : Tree). Path sw limits at (before true) line z (config [] (done t) (size u))) (sym (moved_shift at u))
          (path_shift sw limits at
          (walk_before sw (Moves sw limits) 0 (before true) own z (follows_when sw (Moves sw limits) 0 (before true) own z g k)))

      lifted : Path sw limits' at start line z (in_array lab (snoc kids (moved at u)) after (size u + n))
      lifted =
          let e : 0 + n ≡ n = omega arith in
          subst (λ (m : ℕ). Path sw limits' at (config (frame Array lab kids [] ∷ []) (value true none) m) line z (in_array lab (snoc kids (moved at u)) after (size u + n))) e
          (path_lifts sw limits limits' (frame Array lab kids []) n (size u) deeper room at (before true) there (omega arith))

      by : Again sw limits' at start (in_array lab kids slot n) (agrees sw limits' lab kids n slot y) line z (in_array lab (snoc kids (moved at u)) after (size u + n))
          → run sw limits' (cut sw 0 at (line ++ z)) (in_array lab kids slot n)
          ≡ run sw limits' (cut sw 0 (at + length line) z) (in_array lab (snoc kids (moved at u)) after (size u + n))
      by (not_yet e w) =
          let q : inside after ≡ value true none = ap (λ (c : Config). c.mode) e in
          let z : ◌≡◌ {A = ℕ} 0 1 = cc in
          absurd (omega arith)
      by (begun w) = path_run sw limits' at (in_array lab kids slot n) w
