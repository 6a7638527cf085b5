-- The walk over few keys: contents side by side, one more of them, the search among them, and each way on and out.
-- Assumes nothing.
use Rattle.std.specs.Prelude.{Some, None}
use mathlib.Core.Path.{◌≡◌, refl, sym, ap, ◌∙◌, subst}
use Prim.Native.Nat.{ℕ, zero, suc, ◌+◌, ◌-◌, ◌<◌, ◌≤◌}
use native.Mathlib.Omega.{arith}
use mathlib.Core.Bool.{Bool, true, false, ◌||◌}
use mathlib.Core.List.{List, [], ◌∷◌, ◌++◌}
use Rattle.std.proofs.lemmas.List.{get_or-take}
use lib.ListN.{length, get_or, set, take, drop, length-append, length-set}
use lib.Seq.{take-take, take-nil, take_at, drop_at, take-append-le, take-append-add, length-take-le, get_or-set_same, get_or-set_other}
use Rattle.text.specs.declared.switches.Switches.{Switches}
use Rattle.text.specs.Bytes.{same_bytes}
use Rattle.literals.specs.InternalContent.{CopiedAs}
use Rattle.reader.specs.Reading.{word_of}
use Rattle.reader.specs.Syntax.{holds}
use Rattle.reader.specs.Internal.Keys.{key_unique}
use Rattle.reader.specs.declared.duplicates.KeptKeys.{KeptKeys}
use Rattle.reader.specs.Internal.Values.{bytes_at, KeyAt, KeyHere, HaveKeys, FoundKey, DuplicateAt}
use Rattle.reader.specs.Internal.Few.{Walked, KeptAt, KeptFrom, Kept, HaveKept, IsKept, KeptIn, KeepIs, Keeps}
use Rattle.reader.proofs.DuplicateLaws.{Past, past_start, past_key, past_on, past_hit, past_end}

-- ---- parts of a list

-- a part, by its end or by its length
part_is : (l : List ℕ) (f e : ℕ) → f ≤ e → take (e - f) (drop f l) ≡ drop f (take e l)
part_is l zero e h = let m : e - 0 ≡ e = omega arith in ap (λ (k : ℕ). take k l) m
part_is [] (suc f) e h = take-nil (e - suc f) ∙ sym (ap (drop (suc f)) (take-nil e))
part_is (x ∷ l) (suc f) zero h = let z : ⊥ = omega arith in absurd z
part_is (x ∷ l) (suc f) (suc e) h = let m : suc e - suc f ≡ e - f = omega arith in ap (λ (k : ℕ). take k (drop f l)) m ∙ part_is l f e (omega arith)

-- a content that was written behind the first `at` bytes, which are as they were, ends at r
pub record Written (w : List ℕ) (at : ℕ) (bytes out : List ℕ) (r : ℕ) : Type 0 where
  pub before : take at out ≡ take at bytes
  pub copied : CopiedAs w at out (Some r)

pub written : (w : List ℕ) (at : ℕ) (out ys tail : List ℕ) {r : ℕ} → at ≤ length out → CopiedAs w 0 ys (Some r) → Written w at out (take at out ++ (ys ++ tail)) (at + r)
written w at out ys tail {r} h C =
    let c = C.is in
    let l = length-take-le at out h in
    record {
      before = take_at (take at out) (ys ++ tail) at l;
      copied = record { is = (omega (arith, c.0), simp length-append (omega (arith, l, c.1)), behind ∙ c.2) };
    }
  where
    behind : drop at (take (at + r) (take at out ++ (ys ++ tail))) ≡ take r ys
    behind =
        let l = length-take-le at out h in
        ap (λ (n : ℕ). drop at (take (n + r) (take at out ++ (ys ++ tail)))) (sym l)
        ∙ ap (drop at) (take-append-add (take at out) (ys ++ tail) r)
        ∙ drop_at (take at out) (take r (ys ++ tail)) at l
        ∙ take-append-le r ys tail C.is.1

-- ---- contents side by side

-- other bytes that are the same up to their end
from_over : (bytes out ends : List ℕ) (n to : ℕ) → take to out ≡ take to bytes → (from i : ℕ) (ks : List (List ℕ)) → KeptFrom bytes ends from i n to ks → KeptFrom out ends from i n to ks
from_over bytes out ends n to e from i [] C = C
from_over bytes out ends n to e from i (w ∷ ks) C =
    let K = C.0 in
    let f = front (get_or ends i 0) K.inside in (
      record { before = K.before; forward = K.forward; inside = K.inside; is = ap (drop from) f ∙ K.is },
      from_over bytes out ends n to e (get_or ends i 0) (i + 1) ks C.1,
    )
  where
    front : (j : ℕ) → j ≤ to → take j out ≡ take j bytes
    front j h = sym (take-take j to out h) ∙ ap (take j) e ∙ take-take j to bytes h

-- one more behind them
from_more : (bytes ends : List ℕ) (n to r : ℕ) (w : List ℕ) → to ≤ r → n < length ends → drop to (take r bytes) ≡ w → (from i : ℕ) (ks : List (List ℕ)) → KeptFrom bytes ends from i n to ks
    → KeptFrom bytes (set ends n r) from i (n + 1) r (ks ++ (w ∷ []))
from_more bytes ends n to r w h k d from i [] C =
    let p = C.0 in
    let q = C.1 in
    let g : get_or (set ends n r) i 0 ≡ r = ap (λ (j : ℕ). get_or (set ends n r) j 0) p ∙ get_or-set_same ends n r 0 k in (
      record { before = omega (arith, p); forward = omega (arith, g, q, h); inside = omega (arith, g); is = (λ z. drop (q z) (take (g z) bytes)) ∙ d },
      (omega (arith, p), g),
    )
from_more bytes ends n to r w h k d from i (v ∷ ks) C =
    let K = C.0 in
    let b = K.before in
    let f = K.forward in
    let o = K.inside in
    let g : get_or (set ends n r) i 0 ≡ get_or ends i 0 = get_or-set_other ends n i r 0 (λ e. omega arith) in (
      record { before = omega (arith, b); forward = omega (arith, g, f); inside = omega (arith, g, o, h); is = ap (λ (j : ℕ). drop from (take j bytes)) g ∙ K.is },
      subst (λ (j : ℕ). KeptFrom bytes (set ends n r) j (i + 1) (n + 1) r (ks ++ (w ∷ []))) (sym g) (from_more bytes ends n to r w h k d (get_or ends i 0) (i + 1) ks C.1),
    )

from_unique : (bytes ends : List ℕ) (n to from i : ℕ) (ks js : List (List ℕ)) → KeptFrom bytes ends from i n to ks → KeptFrom bytes ends from i n to js → ks ≡ js
from_unique bytes ends n to from i [] [] C E = refl
from_unique bytes ends n to from i [] (v ∷ js) C E = let p = C.0 in let b = E.0.before in let z : ⊥ = omega arith in absurd z
from_unique bytes ends n to from i (w ∷ ks) [] C E = let p = E.0 in let b = C.0.before in let z : ⊥ = omega arith in absurd z
from_unique bytes ends n to from i (w ∷ ks) (v ∷ js) C E =
    let p = sym C.0.is ∙ E.0.is in
    let q = from_unique bytes ends n to (get_or ends i 0) (i + 1) ks js C.1 E.1 in
    λ z. p z ∷ q z

-- ---- the search among them

-- the search for `own`, the content from `at` to `end`, has come to content i, which begins at `from`
pub record Search (bytes ends : List ℕ) (from i n at end : ℕ) (own : List ℕ) : Type 0 where
  pub rest : List (List ℕ)
  pub kept : KeptFrom bytes ends from i n at rest
  pub same_as : (ks : List (List ℕ)) → Kept bytes ends n at ks → holds ks (bytes_at bytes at end) ≡ holds rest own

pub search_start : {bytes ends : List ℕ} {n at end : ℕ} → HaveKept bytes ends n at → Search bytes ends 0 0 n at end (bytes_at bytes at end)
search_start {bytes} {ends} {n} {at} {end} H =
    record {
      rest = H.contents;
      kept = H.kept.all;
      same_as = λ ks K. ap (λ (l : List (List ℕ)). holds l (bytes_at bytes at end)) (from_unique bytes ends n at 0 0 ks H.contents K.all H.kept.all);
    }

module _ {bytes ends : List ℕ} {from i n at end : ℕ} {own : List ℕ} (S : Search bytes ends from i n at end own) where
  pub search_row : i < n → (v : List ℕ) × KeptAt bytes ends from i n at v
  search_row h = by S.rest S.kept
    where
      by : (ks : List (List ℕ)) → KeptFrom bytes ends from i n at ks → (v : List ℕ) × KeptAt bytes ends from i n at v
      by [] C = let p = C.0 in let z : ⊥ = omega arith in absurd z
      by (v ∷ ks) C = (v, C.0)

  on : {r : Bool} → i < n → r ≡ same_bytes (bytes_at bytes from (get_or ends i 0)) own → r ≡ false → Search bytes ends (get_or ends i 0) (i + 1) n at end own
  unfolding holds
  on {r} h e t = by S.rest S.kept S.same_as
    where
      by : (ks : List (List ℕ)) → KeptFrom bytes ends from i n at ks → ((js : List (List ℕ)) → Kept bytes ends n at js → holds js (bytes_at bytes at end) ≡ holds ks own)
          → Search bytes ends (get_or ends i 0) (i + 1) n at end own
      by [] C f = let p = C.0 in let z : ⊥ = omega arith in absurd z
      by (v ∷ ks) C f =
          let p = part_is bytes from (get_or ends i 0) C.0.forward ∙ C.0.is in
          record {
            rest = ks;
            kept = C.1;
            same_as = λ js K. f js K ∙ ap (λ (b : Bool). b || holds ks own) (ap (λ (x : List ℕ). same_bytes x own) (sym p) ∙ sym e ∙ t);
          }

  hit : {r : Bool} → i < n → r ≡ same_bytes (bytes_at bytes from (get_or ends i 0)) own → r ≡ true → IsKept bytes ends n at end true
  unfolding holds
  hit {r} h e t = record { is = λ js K. sym (S.same_as js K ∙ by S.rest S.kept) }
    where
      by : (ks : List (List ℕ)) → KeptFrom bytes ends from i n at ks → holds ks own ≡ true
      by [] C = let p = C.0 in let z : ⊥ = omega arith in absurd z
      by (v ∷ ks) C =
          let p = part_is bytes from (get_or ends i 0) C.0.forward ∙ C.0.is in
          ap (λ (b : Bool). b || holds ks own) (ap (λ (x : List ℕ). same_bytes x own) (sym p) ∙ sym e ∙ t)

  -- by the first n ends alone
  to_is : i < n → get_or (take n ends) i 0 ≡ get_or ends i 0
  to_is h = get_or-take n ends i 0 h

  pub search_span : i < n → (from ≤ get_or (take n ends) i 0) × (get_or (take n ends) i 0 ≤ at)
  search_span h = let K = (search_row h).1 in let e = to_is h in (omega (arith, K.forward, e), omega (arith, K.inside, e))

  pub search_on : {r : Bool} → i < n → r ≡ same_bytes (bytes_at bytes from (get_or (take n ends) i 0)) own → r ≡ false → Search bytes ends (get_or (take n ends) i 0) (i + 1) n at end own
  search_on h e t =
      subst (λ (to : ℕ). Search bytes ends to (i + 1) n at end own) (sym (to_is h)) (on h (e ∙ ap (λ (to : ℕ). same_bytes (bytes_at bytes from to) own) (to_is h)) t)

  pub search_hit : {r : Bool} → i < n → r ≡ same_bytes (bytes_at bytes from (get_or (take n ends) i 0)) own → r ≡ true → IsKept bytes ends n at end true
  search_hit h e t = hit h (e ∙ ap (λ (to : ℕ). same_bytes (bytes_at bytes from to) own) (to_is h)) t

  pub search_end : n ≤ i → IsKept bytes ends n at end false
  unfolding holds
  search_end h = record { is = λ js K. sym (S.same_as js K ∙ by S.rest S.kept) }
    where
      by : (ks : List (List ℕ)) → KeptFrom bytes ends from i n at ks → holds ks own ≡ false
      by [] C = refl
      by (v ∷ ks) C = let b = C.0.before in let z : ⊥ = omega arith in absurd z

-- ---- one content more

pub keep_forward : {w bytes out : List ℕ} {at r : ℕ} → Written w at bytes out r → at ≤ r
keep_forward W = let c = W.copied.is in omega (arith, c.0)

pub keep_inside : {w bytes out : List ℕ} {at r : ℕ} → Written w at bytes out r → r ≤ length out
keep_inside W = W.copied.is.1

module _ {w bytes out ends : List ℕ} {n at r : ℕ} (W : Written w at bytes out r) where
  over : (ks : List (List ℕ)) → Kept bytes ends n at ks → Kept out ends n at ks
  over ks K = record { all = from_over bytes out ends n at W.before 0 0 ks K.all; room = K.room; inside = omega (arith, keep_forward W, keep_inside W) }

  pub keep_kept : HaveKept bytes ends n at → HaveKept out ends n at
  keep_kept H = record { contents = H.contents; kept = over H.contents H.kept }

  module _ {sw : Switches} {s : List ℕ} {a e : ℕ} (k : KeyAt sw s a e w) {b : Bool} (I : IsKept out ends n at r b) where
    pub keep_found : (ks : List (List ℕ)) → Kept bytes ends n at ks → (v : List ℕ) → KeyAt sw s a e v → holds ks v ≡ b
    keep_found ks K v q = ap (holds ks) (key_unique sw s a e v w q k ∙ sym (part_is out at r (keep_forward W) ∙ W.copied.is.2)) ∙ sym (I.is ks (over ks K))

    pub keep_on : n < length ends → b ≡ false → (ks : List (List ℕ)) → Kept bytes ends n at ks → (v : List ℕ) → KeyAt sw s a e v
        → (holds ks v ≡ false) × Kept out (set ends n r) (n + 1) r (ks ++ (v ∷ []))
    keep_on h f ks K v q = (
      keep_found ks K v q ∙ f,
      record {
        all = from_more out ends n at r v (keep_forward W) h (W.copied.is.2 ∙ key_unique sw s a e w v k q) 0 0 ks (over ks K).all;
        room = let l = length-set ends n r in omega (arith, l, h);
        inside = keep_inside W;
      },
    )

-- ---- the walk

-- the walk has come to x, no key so far is a duplicate, and their contents are kept
pub record Few (sw : Switches) (s tab : List ℕ) (k : KeptKeys) (first x m : ℕ) : Type 0 where
  pub seen : List (List ℕ)
  pub past : Past sw s tab first x m seen
  pub kept : KeptIn k seen

pub few_start : {sw : Switches} {s tab : List ℕ} (bytes ends : List ℕ) {first m : ℕ} → HaveKeys sw s tab first m
    → Few sw s tab (record { bytes = bytes; ends = ends; count = 0; at = 0 }) first first m
few_start {sw} {s} {tab} bytes ends {first} {m} H =
    record { seen = []; past = past_start sw s tab first m H; kept = record { all = (refl, refl); room = omega arith; inside = omega arith } }

pub past_of : {sw : Switches} {s tab : List ℕ} {first x m : ℕ} (T : Walked sw s tab first x m) → Past sw s tab first x m T.seen
past_of T = record { rest = T.rest; past = T.past; siblings = T.siblings; same_as = T.same_as }

module _ {sw : Switches} {s tab : List ℕ} {first z m : ℕ} (F : Walked sw s tab first z m) where
  pub walked_rest : HaveKeys sw s tab z m
  walked_rest = record { keys = F.rest; siblings = F.siblings }

  pub walked_end : m ≤ z → DuplicateAt sw s tab first m None
  walked_end h = past_end sw s tab first m z F.seen (past_of F) h

  -- the child at x
  module _ {x : ℕ} (at : z ≡ x) (here : x < m) where
    W : Walked sw s tab first x m
    W = subst (λ (y : ℕ). Walked sw s tab first y m) at F

    pub walked_keys : HaveKeys sw s tab first x
    walked_keys = record { keys = W.seen; siblings = W.past }

    module _ {a e : ℕ} (p : a ≡ word_of tab x 4) (q : e ≡ word_of tab x 5) where
      pub walked_key : KeyHere sw s a e
      walked_key = past_key sw s tab first m x a e W.seen (past_of W) here p q

      module _ {r : Bool} (D : FoundKey sw s tab first x a e r) where
        told_by : r ≡ holds W.seen walked_key.content
        told_by = D.is walked_key.content walked_key.key W.seen W.past

        pub walked_hit : r ≡ true → DuplicateAt sw s tab first m (Some a)
        walked_hit h = past_hit sw s tab first m x a e W.seen (past_of W) here p q walked_key.content walked_key.key (sym told_by ∙ h)

        pub walked_on : {y : ℕ} → y ≡ word_of tab x 8 → r ≡ false → Walked sw s tab first y m
        walked_on {y} v h =
            let T = past_on sw s tab first m x a e y W.seen (past_of W) here p q v walked_key.content walked_key.key (sym told_by ∙ h) in
            record { seen = W.seen ++ (walked_key.content ∷ []); rest = T.rest; past = T.past; siblings = T.siblings; same_as = T.same_as }

module _ {sw : Switches} {s tab : List ℕ} {k : KeptKeys} {first z m : ℕ} (F : Few sw s tab k first z m) where
  pub few_kept : HaveKept k.bytes k.ends k.count k.at
  few_kept = record { contents = F.seen; kept = F.kept }

  pub few_end : m ≤ z → DuplicateAt sw s tab first m None
  few_end h = past_end sw s tab first m z F.seen F.past h

  -- the child at x
  module _ {x : ℕ} (at : z ≡ x) (here : x < m) where
    G : Few sw s tab k first x m
    G = subst (λ (y : ℕ). Few sw s tab k first y m) at F

    pub few_walked : Walked sw s tab first x m
    few_walked = let T = G.past in record { seen = G.seen; rest = T.rest; past = T.past; siblings = T.siblings; same_as = T.same_as }

    module _ {a e : ℕ} (p : a ≡ word_of tab x 4) (q : e ≡ word_of tab x 5) where
      pub few_key : KeyHere sw s a e
      few_key = past_key sw s tab first m x a e G.seen G.past here p q

      module _ {next : KeptKeys} {b : Bool} (K : Keeps sw s a e k next (Some b)) where
        told : {t : Bool} → b ≡ t → KeepIs sw s a e k next (Some t)
        told h = (subst (λ (t : Bool). Keeps sw s a e k next (Some t)) h K).is

        pub few_hit : b ≡ false → DuplicateAt sw s tab first m (Some a)
        few_hit h = past_hit sw s tab first m x a e G.seen G.past here p q few_key.content few_key.key (told h G.seen G.kept few_key.content few_key.key)

        pub few_on : {y : ℕ} → b ≡ true → y ≡ word_of tab x 8 → Few sw s tab next first y m
        few_on {y} h v =
            let r = told h G.seen G.kept few_key.content few_key.key in
            record {
              seen = G.seen ++ (few_key.content ∷ []);
              past = past_on sw s tab first m x a e y G.seen G.past here p q v few_key.content few_key.key r.0;
              kept = r.1;
            }
