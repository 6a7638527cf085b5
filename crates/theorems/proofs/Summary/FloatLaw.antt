-- The three heights as numbers: one of the measured ones and none below it or above it; as floats still whole; and the mean between them.
-- Assumes nothing.
use Rattle.std.specs.declared.option.Option as Rust
use Rattle.summary.specs.declared.summary.Summary.{Summary}
use Rattle.text.specs.Refusal.{Refusal}
use Rattle.std.specs.declared.result.Result.{Result}
use Rattle.std.specs.Prelude.{Some, None, Ok}
use mathlib.Core.Path.{◌≡◌, refl, sym, ap, ◌∙◌, subst}
use Prim.Native.Nat.{ℕ, suc, ◌+◌, ◌*◌, ◌≤◌, ◌<◌, min, max}
use native.Mathlib.Nat.{mul_assoc, mul_comm, mul_left_comm, mul-one, mul-pos}
use native.Mathlib.Decide.{dec_lt}
use native.Mathlib.Omega.{arith}
use mathlib.Core.Bool.{true, false, cond, true≢false}
use mathlib.Core.Logic.{◌⊎◌, inl, inr}
use mathlib.Core.List.{List, [], ◌∷◌}
use lib.Dec.{T, eqb}
use lib.ListN.{length}
use lib.IntN.{ℤ, pos, negsuc}
use lib.Pow.{pow_pos}
use lib.Ieee.{Float, nan, inf, fin, binary64, up, down, round, div, of_int, le}
use lib.Ieee.Back.{round_whole}
use lib.Ieee.Order.{round_mono}
use lib.Ieee.Positive.{first_pos}
use lib.Ieee.Scale.{round_same}
use borrow.Author.Tests.{ne_eqb}
use Rattle.text.proofs.Choice.{cond-false}
use Rattle.nodes.specs.Nodes.{children_of}
use Rattle.summary.specs.Summary.{record_heights, is_measured, counts_of, measured_heights, least, greatest, sum_of, as_float, mean, heights_of, summary_of, of_heights, summary}
use Rattle.summary.specs.declared.heights.Height.{Height}
use Rattle.summary.specs.declared.heights.Height.TheVariants as H
use Rattle.summary.specs.declared.summary.Counts.{Counts}
use Rattle.summary.specs.declared.summary.Heights.{Heights}
use Rattle.summary.proofs.SummaryLaws.{Low, heights_low, measured_length}
use Rattle.summary.proofs.AnswerLaws.{few_records}
use Rattle.theorems.specs.Summary.{refused_at, Holds, ExtremesHeld, Is, Floats, HeightsHeld, MissingApart}
use Rattle.theorems.proofs.Summary.ShapeLaw.{of_array}

-- ---- the least and the greatest

min_case : (u v : ℕ) → (min u v ≡ u) ⊎ (min u v ≡ v)
min_case u v = elim (dec_lt u v) [ yes h ↦ inl (omega arith) | no h ↦ inr (omega arith) ]

max_case : (u v : ℕ) → (max u v ≡ u) ⊎ (max u v ≡ v)
max_case u v = elim (dec_lt u v) [ yes h ↦ inr (omega arith) | no h ↦ inl (omega arith) ]

-- what one of two and a list holds, both and the list hold
either_held : (x u v w : ℕ) (l : List ℕ) → (w ≡ u) ⊎ (w ≡ v) → Holds x (w ∷ l) → Holds x (u ∷ v ∷ l)
unfolding Holds
either_held x u v w l (inl e) (inl q) = inl (q ∙ e)
either_held x u v w l (inr e) (inl q) = inr (inl (q ∙ e))
either_held x u v w l (inl e) (inr h) = inr (inr h)
either_held x u v w l (inr e) (inr h) = inr (inr h)

-- one of two that is taken on and on, as min and max are: what comes out is one of all
module _ (F : ℕ → List ℕ → ℕ) (f : ℕ → ℕ → ℕ) (base : (u : ℕ) → F u [] ≡ u) (step : (u v : ℕ) (l : List ℕ) → F u (v ∷ l) ≡ F (f u v) l) where
  taken_held : ((u v : ℕ) → (f u v ≡ u) ⊎ (f u v ≡ v)) → (u : ℕ) (l : List ℕ) → Holds (F u l) (u ∷ l)
  unfolding Holds
  taken_held one u [] = inl (base u)
  taken_held one u (v ∷ l) =
      subst (λ (x : ℕ). Holds x (u ∷ v ∷ l)) (sym (step u v l)) (either_held (F (f u v) l) u v (f u v) l (one u v) (taken_held one (f u v) l))

  -- and is to all as it is to two
  taken_all : (R : ℕ → ℕ → Type 0) → ((x : ℕ) → R x x) → ((x y z : ℕ) → R x y → R y z → R x z) → ((u v : ℕ) → R (f u v) u × R (f u v) v)
      → (u : ℕ) (l : List ℕ) (v : ℕ) → Holds v (u ∷ l) → R (F u l) v
  unfolding Holds
  taken_all R same on both u [] v (inl e) = subst (λ (x : ℕ). R x v) (sym (base u)) (subst (R u) (sym e) (same u))
  taken_all R same on both u [] v (inr h) = absurd h
  taken_all R same on both u (w ∷ l) v (inl e) =
      subst (λ (x : ℕ). R x v) (sym (step u w l))
      (on (F (f u w) l) (f u w) v (taken_all R same on both (f u w) l (f u w) (inl refl)) (subst (R (f u w)) (sym e) (both u w).0))
  taken_all R same on both u (w ∷ l) v (inr (inl e)) =
      subst (λ (x : ℕ). R x v) (sym (step u w l))
      (on (F (f u w) l) (f u w) v (taken_all R same on both (f u w) l (f u w) (inl refl)) (subst (R (f u w)) (sym e) (both u w).1))
  taken_all R same on both u (w ∷ l) v (inr (inr h)) = subst (λ (x : ℕ). R x v) (sym (step u w l)) (taken_all R same on both (f u w) l v (inr h))

least_held : (u : ℕ) (l : List ℕ) → Holds (least u l) (u ∷ l)
unfolding least
least_held = taken_held least min (λ u. refl) (λ u v l. refl) min_case

greatest_held : (u : ℕ) (l : List ℕ) → Holds (greatest u l) (u ∷ l)
unfolding greatest
greatest_held = taken_held greatest max (λ u. refl) (λ u v l. refl) max_case

least_all : (u : ℕ) (l : List ℕ) (v : ℕ) → Holds v (u ∷ l) → least u l ≤ v
unfolding least
least_all =
    taken_all least min (λ u. refl) (λ u v l. refl) (λ x y. x ≤ y) (λ x. omega arith) (λ x y z p q. omega arith) (λ u v. (omega arith, omega arith))

greatest_all : (u : ℕ) (l : List ℕ) (v : ℕ) → Holds v (u ∷ l) → v ≤ greatest u l
unfolding greatest
greatest_all =
    taken_all greatest max (λ u. refl) (λ u v l. refl) (λ x y. y ≤ x) (λ x. omega arith) (λ x y z p q. omega arith) (λ u v. (omega arith, omega arith))

pub extremes_held : ExtremesHeld
unfolding ExtremesHeld
extremes_held u l =
    record {
      least_held = least_held u l;
      least_all = λ v h. least_all u l v h;
      greatest_held = greatest_held u l;
      greatest_all = λ v h. greatest_all u l v h;
    }

-- ---- the sum

times_suc : (x n : ℕ) → x * suc n ≡ x + x * n
times_suc x n = omega arith

-- between the least that it can be and the greatest
sum_between : (x y : ℕ) (l : List ℕ) → ((v : ℕ) → Holds v l → (x ≤ v) × (v ≤ y)) → (x * length l ≤ sum_of l) × (sum_of l ≤ y * length l)
unfolding sum_of Holds
sum_between x y [] h = (omega arith, omega arith)
sum_between x y (u ∷ l) h =
    let a = h u (inl refl) in
    let b = sum_between x y l (λ v q. h v (inr q)) in
    let d = times_suc x (length l) in
    let e = times_suc y (length l) in
    (omega arith, omega arith)

low_held : (l : List ℕ) → Low l → (v : ℕ) → Holds v l → v ≤ 10000000
unfolding Low Holds
low_held [] w v h = absurd h
low_held (u ∷ l) w v (inl e) = let q = w.0 in omega arith
low_held (u ∷ l) w v (inr h) = low_held l w.1 v h

-- ---- floats

whole : (n : ℕ) → n ≤ 9007199254740992 → Is (as_float n) n
unfolding of_int
whole n h = round_whole binary64 false n h

down_pos : (e : ℤ) → 0 < down e
down_pos (pos k) = omega arith
down_pos (negsuc k) = pow_pos (suc k)

-- a / 1 divided by b / 1
cross : (A D B E a b : ℕ) → A * 1 ≡ a * D → B * 1 ≡ b * E → A * E * b ≡ a * (B * D)
cross A D B E a b p q =
    let x : A ≡ a * D = sym (mul-one A) ∙ p in
    let y : b * E ≡ B = sym q ∙ mul-one B in
    let z : a * D * E * b ≡ a * (b * E * D) = simp (mul_assoc, mul_comm, mul_left_comm) in
    (λ i. x i * E * b) ∙ z ∙ (λ i. a * (y i * D))

-- whole numbers as floats, divided: their exact quotient, rounded once
div_whole : (x y : Float) (a b : ℕ) → Is x a → Is y b → 0 < b → div binary64 x y ≡ round binary64 false a b
unfolding div
div_whole nan y a b p q h = absurd p
div_whole (inf s) y a b p q h = absurd p
div_whole (fin s m e) nan a b p q h = absurd q
div_whole (fin s m e) (inf t) a b p q h = absurd q
div_whole (fin true m e) (fin t n d) a b p q h = absurd (true≢false p.0)
div_whole (fin false m e) (fin true n d) a b p q h = absurd (true≢false q.0)
div_whole (fin false m e) (fin false n d) a b p q h =
    let w = mul-pos h (down_pos d) in
    let k = q.1 in
    let u : 0 < n * up d = omega arith in
    let z = first_pos n (up d) u in
    cond-false (eqb n 0) (cond (eqb m 0) nan (inf false)) (round binary64 false (m * up e * down d) (n * up d * down e)) (ne_eqb n 0 (λ f. omega arith))
    ∙ round_same binary64 false (m * up e * down d) (n * up d * down e) a b (mul-pos u (down_pos e)) h
    (cross (m * up e) (down e) (n * up d) (down d) a b p.1 q.1)

rounded_up : (x a b : ℕ) → 0 < b → x * b ≤ a * 1 → T (le (as_float x) (round binary64 false a b))
unfolding of_int
rounded_up x a b h l = round_mono binary64 x 1 a b (omega arith) h l

rounded_down : (x a b : ℕ) → 0 < b → a * 1 ≤ x * b → T (le (round binary64 false a b) (as_float x))
unfolding of_int
rounded_down x a b h l = round_mono binary64 a b x 1 h (omega arith) l

-- the heights of a list whose sum a float holds
floats_of : (u : ℕ) (l : List ℕ) → Low (u ∷ l) → length (u ∷ l) ≤ 4096 → Floats (heights_of u l) u l
unfolding heights_of mean
floats_of u l w h =
    let a = low_held (u ∷ l) w (least u l) (least_held u l) in
    let b = low_held (u ∷ l) w (greatest u l) (greatest_held u l) in
    let s = (sum_between 0 10000000 (u ∷ l) (λ v q. (omega arith, low_held (u ∷ l) w v q))).1 in
    let t = sum_between (least u l) (greatest u l) (u ∷ l) (λ v q. (least_all u l v q, greatest_all u l v q)) in
    let lower : least u l * length (u ∷ l) ≤ sum_of (u ∷ l) * 1 = let q = t.0 in omega arith in
    let upper : sum_of (u ∷ l) * 1 ≤ greatest u l * length (u ∷ l) = let q = t.1 in omega arith in
    let m = div_whole (as_float (sum_of (u ∷ l))) (as_float (length (u ∷ l))) (sum_of (u ∷ l)) (length (u ∷ l)) (whole (sum_of (u ∷ l)) (omega arith))
    (whole (length (u ∷ l)) (omega arith)) (omega arith) in
    record {
      least_is = whole (least u l) (omega arith);
      greatest_is = whole (greatest u l) (omega arith);
      mean_is = m;
      not_below = subst (λ (x : Float). T (le (as_float (least u l)) x)) (sym m) (rounded_up (least u l) (sum_of (u ∷ l)) (length (u ∷ l)) (omega arith) lower);
      not_above = subst (λ (x : Float). T (le x (as_float (greatest u l)))) (sym m) (rounded_down (greatest u l) (sum_of (u ∷ l)) (length (u ∷ l)) (omega arith) upper);
    }

-- ---- an answer

-- what a summary of records holds, by their measured heights
held_by : (hs : List Height) (c : Counts) (h : Heights) (l : List ℕ) → measured_heights hs ≡ l → ◌≡◌ {A = Result Summary Refusal} (Ok (summary_of (counts_of hs) l)) (Ok (record { counts = c; heights = Some h }))
    → (u : ℕ) × (k : List ℕ) × (measured_heights hs ≡ u ∷ k) × (c ≡ counts_of hs) × (h ≡ heights_of u k)
unfolding summary_of
held_by hs c h [] e q =
    let s : ◌≡◌ {A = Summary} (summary_of (counts_of hs) []) (record { counts = c; heights = Some h }) = cc in
    let t : ◌≡◌ {A = Rust.Option Heights} None (Some h) = ap (λ (x : Summary). x.heights) s in
    let v : ◌≡◌ {A = ℕ} 0 1 = cc in
    absurd (omega arith)
held_by hs c h (u ∷ k) e q =
    let s : ◌≡◌ {A = Summary} (summary_of (counts_of hs) (u ∷ k)) (record { counts = c; heights = Some h }) = cc in
    let t : ◌≡◌ {A = Rust.Option Heights} (Some (heights_of u k)) (Some h) = ap (λ (x : Summary). x.heights) s in
    (u, k, e, sym (ap (λ (x : Summary). x.counts) s), cc)

none_by : (hs : List Height) (c : Counts) (l : List ℕ) → measured_heights hs ≡ l → ◌≡◌ {A = Result Summary Refusal} (Ok (summary_of (counts_of hs) l)) (Ok (record { counts = c; heights = None }))
    → (measured_heights hs ≡ []) × (c ≡ counts_of hs)
unfolding summary_of
none_by hs c [] e q =
    let s : ◌≡◌ {A = Summary} (summary_of (counts_of hs) []) (record { counts = c; heights = None }) = cc in
    (e, sym (ap (λ (x : Summary). x.counts) s))
none_by hs c (u ∷ k) e q =
    let s : ◌≡◌ {A = Summary} (summary_of (counts_of hs) (u ∷ k)) (record { counts = c; heights = None }) = cc in
    let t : ◌≡◌ {A = Rust.Option Heights} (Some (heights_of u k)) None = ap (λ (x : Summary). x.heights) s in
    let v : ◌≡◌ {A = ℕ} 0 1 = cc in
    absurd (omega arith)

-- neither kind of summary is a refusal
with_is : (c : Counts) (h : Heights) (number place : ℕ) → refused_at number place ≡ Ok (record { counts = c; heights = Some h }) → ⊥
with_is c h number place e = let v : ◌≡◌ {A = ℕ} 0 1 = cc in omega arith

without_is : (c : Counts) (number place : ℕ) → refused_at number place ≡ Ok (record { counts = c; heights = None }) → ⊥
without_is c number place e = let v : ◌≡◌ {A = ℕ} 0 1 = cc in omega arith

pub heights_held : HeightsHeld
unfolding HeightsHeld summary of_heights counts_of
heights_held sw words text =
    record {
      some_measured = λ c h tree e r.
          let hs = record_heights sw text (children_of tree) in
          let g = held_by hs c h (measured_heights hs) refl (of_array sw text (Ok (record { counts = c; heights = Some h })) (with_is c h) tree (sym (ap (summary sw text) r) ∙ e)).1 in
          let n : c.measured ≡ length (g.0 ∷ g.1) = ap (λ (x : Counts). x.measured) g.3 ∙ measured_length hs ∙ ap (λ (x : List ℕ). length x) g.2 in
          let few = few_records sw words text (record { counts = c; heights = Some h }) (sym e) in (
            g.0,
            g.1,
            g.2,
            n,
            subst (λ (x : Heights). Floats x g.0 g.1) (sym g.4)
                (floats_of g.0 g.1 (subst Low g.2 (heights_low sw text (children_of tree))) (omega arith)),
          );
      none_measured = λ c tree e r.
          let hs = record_heights sw text (children_of tree) in
          let g = none_by hs c (measured_heights hs) refl (of_array sw text (Ok (record { counts = c; heights = None })) (without_is c) tree (sym (ap (summary sw text) r) ∙ e)).1 in
          (g.0, ap (λ (x : Counts). x.measured) g.1 ∙ measured_length hs ∙ ap (λ (x : List ℕ). length x) g.0);
    }

-- ---- missing heights

missing_first : (h : Height) (ks : List Height) → is_measured h ≡ false → measured_heights (h ∷ ks) ≡ measured_heights ks
unfolding is_measured measured_heights
missing_first (H.Measured u) ks e = absurd (true≢false e)
missing_first H.Null ks e = refl
missing_first H.Absent ks e = refl
missing_first H.Unfit ks e = refl

pub missing_apart : MissingApart
unfolding MissingApart measured_heights
missing_apart [] ks h e = missing_first h ks e
missing_apart (H.Measured u ∷ hs) ks h e = ap (λ (l : List ℕ). u ∷ l) (missing_apart hs ks h e)
missing_apart (H.Null ∷ hs) ks h e = missing_apart hs ks h e
missing_apart (H.Absent ∷ hs) ks h e = missing_apart hs ks h e
missing_apart (H.Unfit ∷ hs) ks h e = missing_apart hs ks h e
