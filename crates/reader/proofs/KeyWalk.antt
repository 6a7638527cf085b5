-- The walk over the keys of an object's children: what it has passed, and one child more.
-- Assumes nothing.
use mathlib.Core.Path.{◌≡◌, refl, sym, ap, ◌∙◌, subst}
use Prim.Native.Nat.{ℕ, ◌+◌, ◌*◌, ◌<◌, ◌≤◌}
use native.Mathlib.Omega.{arith}
use mathlib.Core.Bool.{Bool, true, false, ◌||◌}
use mathlib.Core.Option.{some}
use mathlib.Core.List.{List, [], ◌∷◌, ◌++◌}
use lib.ListN.{length, get_or}
use Rattle.text.specs.declared.switches.Switches.{Switches}
use Rattle.text.specs.Bytes.{same_bytes}
use Rattle.literals.specs.declared.decoder.Body.{Body}
use Rattle.literals.specs.Content.{content, same_content}
use Rattle.lexer.specs.declared.token.Part.{Part}
use Rattle.lexer.specs.Opening.{part_of}
use Rattle.lexer.proofs.PartLaws.{PartIs, part_is}
use Rattle.lexer.specs.Token.{token_content}
use Rattle.lexer.specs.Internal.{Keyed}
use Rattle.reader.specs.Tree.{node_words}
use Rattle.reader.specs.Syntax.{holds}
pub use Rattle.reader.specs.Internal.Keys.{key_unique, chain_unique}
use Rattle.reader.specs.Internal.Values.{bytes_at, KeyAt, KeyHere, Link, SiblingKeys, HaveKeys, FoundKey}

-- the walk for the key w has come to x
pub record Walk (sw : Switches) (s tab : List ℕ) (from x m : ℕ) (w : List ℕ) : Type 0 where
  pub keys : List (List ℕ)
  pub siblings : SiblingKeys sw s tab x m keys
  pub same_as : (ks : List (List ℕ)) → SiblingKeys sw s tab from m ks → holds ks w ≡ holds keys w

module _ (sw : Switches) (s tab : List ℕ) (from m : ℕ) (w : List ℕ) where
  pub walk_start : HaveKeys sw s tab from m → Walk sw s tab from from m w
  walk_start C = record { keys = C.keys; siblings = C.siblings; same_as = λ ks D. ap (λ (js : List (List ℕ)). holds js w) (chain_unique sw s tab from m ks C.keys D C.siblings) }

  link_at : (x : ℕ) (ks : List (List ℕ)) → SiblingKeys sw s tab x m ks → x < m → (v : List ℕ) × Link sw s tab x m v
  link_at x [] C h = let z : ⊥ = omega arith in absurd z
  link_at x (v ∷ ks) C h = (v, C.0)

  pub walk_row : (x : ℕ) → Walk sw s tab from x m w → x < m → (v : List ℕ) × Link sw s tab x m v
  walk_row x A h = link_at x A.keys A.siblings h

  -- the span of the child at x, as words that were read
  pub walk_key : (x b f : ℕ) → Walk sw s tab from x m w → x < m → b ≡ get_or tab (node_words * x + 4) 0 → f ≡ get_or tab (node_words * x + 5) 0 → (v : List ℕ) × KeyAt sw s b f v
  walk_key x b f A h p q = let r = walk_row x A h in (r.0, rw (p, q) r.1.key)

  -- the next child, where this one's key is another
  on_is : (x : ℕ) (ks : List (List ℕ)) → SiblingKeys sw s tab x m ks → ((js : List (List ℕ)) → SiblingKeys sw s tab from m js → holds js w ≡ holds ks w) → x < m → (v : List ℕ)
      → KeyAt sw s (get_or tab (node_words * x + 4) 0) (get_or tab (node_words * x + 5) 0) v → same_bytes v w ≡ false → Walk sw s tab from (get_or tab (node_words * x + 8) 0) m w
  unfolding holds
  on_is x [] C f h v k e = let z : ⊥ = omega arith in absurd z
  on_is x (u ∷ ks) C f h v k e =
      record {
        keys = ks;
        siblings = C.1;
        same_as =
            λ js D.
            f js D
            ∙ ap (λ (b : Bool). b || holds ks w)
            (ap (λ (y : List ℕ). same_bytes y w) (key_unique sw s (get_or tab (node_words * x + 4) 0) (get_or tab (node_words * x + 5) 0) u v C.0.key k) ∙ e);
      }

  pub walk_on : (x b f y : ℕ) → Walk sw s tab from x m w → x < m → b ≡ get_or tab (node_words * x + 4) 0 → f ≡ get_or tab (node_words * x + 5) 0 → y ≡ get_or tab (node_words * x + 8) 0
      → (v : List ℕ) → KeyAt sw s b f v → same_bytes v w ≡ false → Walk sw s tab from y m w
  walk_on x b f y A h p q r v k e = rw r (on_is x A.keys A.siblings A.same_as h v (rw (p, q) at k) e)

  hit_is : (x : ℕ) (ks : List (List ℕ)) → SiblingKeys sw s tab x m ks → x < m → (v : List ℕ) → KeyAt sw s (get_or tab (node_words * x + 4) 0) (get_or tab (node_words * x + 5) 0) v → same_bytes v w ≡ true
      → holds ks w ≡ true
  unfolding holds
  hit_is x [] C h v k e = let z : ⊥ = omega arith in absurd z
  hit_is x (u ∷ ks) C h v k e =
      ap (λ (b : Bool). b || holds ks w) (ap (λ (y : List ℕ). same_bytes y w) (key_unique sw s (get_or tab (node_words * x + 4) 0) (get_or tab (node_words * x + 5) 0) u v C.0.key k) ∙ e)

  end_is : (x : ℕ) (ks : List (List ℕ)) → SiblingKeys sw s tab x m ks → m ≤ x → holds ks w ≡ false
  unfolding holds
  end_is x [] C h = refl
  end_is x (u ∷ ks) C h = let L = C.0 in let z : ⊥ = omega arith in absurd z

  module _ (a e : ℕ) (K : KeyAt sw s a e w) where
    pub walk_hit : (x b f : ℕ) → Walk sw s tab from x m w → x < m → b ≡ get_or tab (node_words * x + 4) 0 → f ≡ get_or tab (node_words * x + 5) 0 → (v : List ℕ) → KeyAt sw s b f v
        → same_bytes v w ≡ true → FoundKey sw s tab from m a e true
    walk_hit x b f A h p q v k r =
        record {
          is =
              λ u U ks C.
              sym (ap (holds ks) (key_unique sw s a e u w U K) ∙ A.same_as ks C ∙ hit_is x A.keys A.siblings h v (rw (p, q) at k) r);
        }

    pub walk_end : (x : ℕ) → Walk sw s tab from x m w → m ≤ x → FoundKey sw s tab from m a e false
    walk_end x A h = record { is = λ u U ks C. sym (ap (holds ks) (key_unique sw s a e u w U K) ∙ A.same_as ks C ∙ end_is x A.keys A.siblings h) }

-- what `content_is` answered of one key and the body of another
pub same_by : (sw : Switches) (s : List ℕ) (a e : ℕ) (v : List ℕ) (body : Body) (t w : List ℕ) (r : Bool) → KeyAt sw s a e v → content sw body t ≡ some w
    → r ≡ same_content (token_content sw (bytes_at s a e)) (content sw body t) → r ≡ same_bytes v w
unfolding same_content
same_by sw s a e v body t w r p q h = h ∙ (λ i. same_content (p.holds i) (q i))

-- where the content of a key stands
pub key_part : (sw : Switches) (s : List ℕ) (a e : ℕ) (w : List ℕ) → KeyAt sw s a e w → (p : Part) → p ≡ part_of sw (bytes_at s a e) → PartIs sw (bytes_at s a e) p
key_part sw s a e w k p q = part_is sw (bytes_at s a e) p (record { content = w; is = k.holds }) q

pub keyed : (sw : Switches) (s : List ℕ) (a e : ℕ) (w : List ℕ) → KeyAt sw s a e w → Keyed sw (bytes_at s a e)
keyed sw s a e w k = record { content = w; is = k.holds }

-- ---- the search for a key, as the loop knows it

-- the search for the key from a to e, whose own content stands in `own`, has come to x
pub record Seeks (sw : Switches) (s tab : List ℕ) (from m a e : ℕ) (body : Body) (own : List ℕ) (x : ℕ) : Type 0 where
  pub here : KeyHere sw s a e
  pub own_is : content sw body own ≡ some here.content
  pub walk : Walk sw s tab from x m here.content

module _ {sw : Switches} {s tab : List ℕ} {from m a e : ℕ} {body : Body} {own : List ℕ} where
  pub seek_start : (K : KeyHere sw s a e) → content sw body own ≡ some K.content → HaveKeys sw s tab from m → Seeks sw s tab from m a e body own from
  seek_start K o H = record { here = K; own_is = o; walk = walk_start sw s tab from m K.content H }

  pub seek_end : {x : ℕ} → Seeks sw s tab from m a e body own x → m ≤ x → FoundKey sw s tab from m a e false
  seek_end {x} F h = walk_end sw s tab from m F.here.content a e F.here.key x F.walk h

  -- the child at x, by words that were read
  module _ {z x b f : ℕ} (F : Seeks sw s tab from m a e body own z) (at : z ≡ x) (h : x < m) (p : b ≡ get_or tab (node_words * x + 4) 0) (q : f ≡ get_or tab (node_words * x + 5) 0) where
    there : Walk sw s tab from x m F.here.content
    there = subst (λ (y : ℕ). Walk sw s tab from y m F.here.content) at F.walk

    pub seek_key : (v : List ℕ) × KeyAt sw s b f v
    seek_key = walk_key sw s tab from m F.here.content x b f there h p q

    module _ {r : Bool} (t : r ≡ same_content (token_content sw (bytes_at s b f)) (content sw body own)) where
      told : r ≡ same_bytes seek_key.0 F.here.content
      told = same_by sw s b f seek_key.0 body own F.here.content r seek_key.1 F.own_is t

      pub seek_hit : r ≡ true → FoundKey sw s tab from m a e true
      seek_hit y = walk_hit sw s tab from m F.here.content a e F.here.key x b f there h p q seek_key.0 seek_key.1 (sym told ∙ y)

      pub seek_on : {y : ℕ} → y ≡ get_or tab (node_words * x + 8) 0 → r ≡ false → Seeks sw s tab from m a e body own y
      seek_on {y} n g =
          record {
            here = F.here;
            own_is = F.own_is;
            walk = walk_on sw s tab from m F.here.content x b f y there h p q n seek_key.0 seek_key.1 (sym told ∙ g);
          }

-- ---- one child more

-- the words of a row that the walk reads
pub record RowSays (tab : List ℕ) (x next a b : ℕ) : Type 0 where
  pub next_is : get_or tab (node_words * x + 8) 0 ≡ next
  pub start_is : get_or tab (node_words * x + 4) 0 ≡ a
  pub end_is : get_or tab (node_words * x + 5) 0 ≡ b

-- one more child: the walk over the rows goes on, and its contents have one more
module _ (sw : Switches) (s tab out : List ℕ) (m next a b : ℕ) (w : List ℕ) (kept : (i : ℕ) → i < node_words * m → get_or out i 0 ≡ get_or tab i 0) (long : length out ≡ length tab)
    (R : RowSays out m next a b) (h : node_words * m + node_words ≤ length tab) (up : m < next) (G : KeyAt sw s a b w) where
  pub siblings_more : (x : ℕ) (ks : List (List ℕ)) → SiblingKeys sw s tab x m ks → SiblingKeys sw s out x next (ks ++ (w ∷ []))
  siblings_more x [] e = rw e (last, R.next_is)
    where
      last : Link sw s out m next w
      last =
          record {
            row = omega arith;
            later = rw R.next_is up;
            below = rw R.next_is (omega arith);
            key = rw (R.start_is, R.end_is) G;
          }
  siblings_more x (v ∷ ks) C = (
    record {
      row = omega arith;
      later = rw same8 C.0.later;
      below = rw same8 (omega arith);
      key = rw (same4, same5) C.0.key;
    },
    subst (λ (y : ℕ). SiblingKeys sw s out y next (ks ++ (w ∷ []))) (sym same8) (siblings_more (get_or tab (node_words * x + 8) 0) ks C.1),
  )
    where
      same8 : get_or out (node_words * x + 8) 0 ≡ get_or tab (node_words * x + 8) 0
      same8 = let L = C.0 in kept (node_words * x + 8) (omega arith)

      same4 : get_or out (node_words * x + 4) 0 ≡ get_or tab (node_words * x + 4) 0
      same4 = let L = C.0 in kept (node_words * x + 4) (omega arith)

      same5 : get_or out (node_words * x + 5) 0 ≡ get_or tab (node_words * x + 5) 0
      same5 = let L = C.0 in kept (node_words * x + 5) (omega arith)
