-- The walk over an object's keys by the index: what it keeps, and each way on and out.
-- Assumes nothing.
use Rattle.std.specs.Prelude.{Some, None}
use mathlib.Core.Path.{◌≡◌, refl, sym, ◌∙◌, subst}
use Prim.Native.Nat.{ℕ, zero, suc, ◌<◌, ◌≤◌}
use native.Mathlib.Omega.{arith}
use mathlib.Core.Bool.{Bool, true, false}
use mathlib.Core.List.{List, [], ◌∷◌, ◌++◌}
use lib.ListN.{get_or, set, take, replicate, length-replicate}
use Rattle.text.specs.declared.switches.Switches.{Switches}
use Rattle.std.specs.declared.option.Option as Rust
use Rattle.reader.specs.declared.index.Place.{Place}
use Rattle.reader.specs.Reading.{max_nodes, word_of}
use Rattle.reader.specs.Syntax.{holds}
use Rattle.reader.specs.Internal.Values.{KeyAt, KeyHere, SiblingKeys, HaveKeys, FoundKey, DuplicateAt}
use Rattle.reader.specs.Internal.Index.{key_bytes, IsPrefixed, ContentIn, KeyWritten, cells, Vacant, Indexed, HasIndex, PlaceIs, LookedUp}
use Rattle.reader.proofs.DuplicateLaws.{Past, past_start, past_row, past_key, past_have_keys, past_on, past_hit, past_end}
use Rattle.reader.proofs.IndexLaws.{index_start, index_later, index_long, comes_before, index_more}

-- the walk has come to x, no key so far is a duplicate, and the index has them all
pub record Grown (sw : Switches) (s tab links tests : List ℕ) (first x m : ℕ) : Type 0 where
  pub seen : List (List ℕ)
  pub past : Past sw s tab first x m seen
  pub index : Indexed sw s tab links tests x seen

keys_forward : (sw : Switches) (s tab : List ℕ) (x m : ℕ) (ks : List (List ℕ)) → SiblingKeys sw s tab x m ks → x ≤ m
keys_forward sw s tab x m [] e = omega arith
keys_forward sw s tab x m (w ∷ ks) C = let L = C.0 in omega arith

key_by : (sw : Switches) (s w : List ℕ) (a e b f : ℕ) → a ≡ b → e ≡ f → KeyAt sw s a e w → KeyAt sw s b f w
key_by sw s w a e b f p q k = subst (λ (z : ℕ). KeyAt sw s b z w) q (subst (λ (z : ℕ). KeyAt sw s z e w) p k)

zeros : (n i : ℕ) → get_or {A = ℕ} (replicate n 0) i 0 ≡ 0
zeros zero i = refl
zeros (suc n) zero = refl
zeros (suc n) (suc i) = zeros n i

pub vacant : Vacant (replicate cells 0) (replicate max_nodes 0)
vacant = record { all_cells = length-replicate {A = ℕ} cells 0; all_tests = length-replicate {A = ℕ} max_nodes 0; empty = zeros cells }

pub grown_start : {sw : Switches} {s tab links tests : List ℕ} {first m : ℕ} → HaveKeys sw s tab first m → 0 < first → m ≤ max_nodes → Vacant links tests
    → Grown sw s tab links tests first first m
grown_start {sw} {s} {tab} {links} {tests} {first} {m} H h k E =
    let f = keys_forward sw s tab first m H.keys H.siblings in
    record { seen = []; past = past_start sw s tab first m H; index = index_start sw s tab links tests first E h (omega arith) }

module _ {sw : Switches} {s tab links tests : List ℕ} {first z m : ℕ} (F : Grown sw s tab links tests first z m) where
  pub grown_index : HasIndex sw s tab links tests
  grown_index = record { before = z; keys = F.seen; index = F.index }

  pub grown_end : m ≤ z → DuplicateAt sw s tab first m None
  grown_end h = past_end sw s tab first m z F.seen F.past h

  -- the child at x
  module _ {x : ℕ} (at : z ≡ x) (here : x < m) where
    G : Grown sw s tab links tests first x m
    G = subst (λ (y : ℕ). Grown sw s tab links tests first y m) at F

    pub grown_keys : HaveKeys sw s tab first x
    grown_keys = past_have_keys sw s tab first m x G.seen G.past

    pub grown_next : {y : ℕ} → y ≡ word_of tab x 8 → (x < y) × (y ≤ m)
    grown_next e = let L = (past_row sw s tab first m x G.seen G.past here).1 in (omega (arith, L.later), omega (arith, L.below))

    module _ {a e : ℕ} (p : a ≡ word_of tab x 4) (q : e ≡ word_of tab x 5) where
      pub grown_key : KeyHere sw s a e
      grown_key = past_key sw s tab first m x a e G.seen G.past here p q

      -- this key is among those before it
      hit : (w : List ℕ) → KeyAt sw s a e w → holds G.seen w ≡ true → DuplicateAt sw s tab first m (Some a)
      hit w k h = past_hit sw s tab first m x a e G.seen G.past here p q w k h

      on : {y : ℕ} → y ≡ word_of tab x 8 → (w : List ℕ) → KeyAt sw s a e w → holds G.seen w ≡ false → Past sw s tab first y m (G.seen ++ (w ∷ []))
      on {y} r w k h = past_on sw s tab first m x a e y G.seen G.past here p q r w k h

      found : {r : Bool} → FoundKey sw s tab first x a e r → r ≡ holds G.seen grown_key.content
      found F = F.is grown_key.content grown_key.key G.seen G.past.past

      -- one that is too long
      pub long_hit : {r : Bool} → FoundKey sw s tab first x a e r → r ≡ true → DuplicateAt sw s tab first m (Some a)
      long_hit F t = hit grown_key.content grown_key.key (sym (found F) ∙ t)

      pub long_on : {out : List ℕ} {y : ℕ} {r : Bool} → KeyWritten sw s a e out None → m ≤ max_nodes → y ≡ word_of tab x 8 → FoundKey sw s tab first x a e r → r ≡ false
          → Grown sw s tab links tests first y m
      long_on {out} {y} W few r F t =
          let N = grown_next r in
          record {
            seen = G.seen ++ (grown_key.content ∷ []);
            past = on r grown_key.content grown_key.key (sym (found F) ∙ t);
            index = index_later (index_long G.index grown_key.content (W.is grown_key.content grown_key.key).is) y (omega (arith, N.0)) (omega (arith, N.1, few));
          }

      -- a short one
      module _ {out : List ℕ} {n : ℕ} (W : KeyWritten sw s a e out (Some n)) where
        written : ContentIn grown_key.content out (Some n)
        written = W.is grown_key.content grown_key.key

        pub short_within : n ≤ key_bytes
        short_within = written.is.1

        pub short_key : IsPrefixed (take n out)
        short_key = record { content = grown_key.content; short = written.is.0; is = written.is.2 }

        asked : {r : Rust.Option Place} → LookedUp sw s tab links tests (take n out) r → PlaceIs sw s tab links tests G.seen grown_key.content r
        asked U = U.is x G.seen G.index grown_key.content written.is.0 written.is.2

        pub short_hit : LookedUp sw s tab links tests (take n out) None → DuplicateAt sw s tab first m (Some a)
        short_hit U = hit grown_key.content grown_key.key (asked U)

        pub short_cell : {p : Place} → LookedUp sw s tab links tests (take n out) (Some p) → p.cell < cells
        short_cell {p} U =
            let F = (asked U).1 in
            let b = comes_before G.index _ F.at p.cell F.route in
            let f = G.index.few in
            omega arith

        pub short_on : {y : ℕ} {place : Place} → m ≤ max_nodes → y ≡ word_of tab x 8 → LookedUp sw s tab links tests (take n out) (Some place)
            → Grown sw s tab (set links place.cell x) (set tests x place.test) first y m
        short_on {y} {place} few v U =
            let N = grown_next v in
            let A = asked U in
            record {
              seen = G.seen ++ (grown_key.content ∷ []);
              past = on v grown_key.content grown_key.key A.0;
              index =
                  index_later
                  (index_more G.index (omega (arith, few)) grown_key.content written.is.0 (record { some = G.index.some; key = key_by sw s grown_key.content a e (word_of tab x 4) (word_of tab x 5) p q grown_key.key }) A.1) y (omega (arith, N.0))
                  (omega (arith, N.1, few));
            }
