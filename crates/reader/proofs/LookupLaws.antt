-- What a lookup in the index answers.
-- Assumes nothing.
use Rattle.std.specs.Prelude.{Some, None, IsSome, ◌≢◌}
use mathlib.Core.Path.{◌≡◌, refl, sym, ap, ◌∙◌, subst}
use Prim.Native.Nat.{ℕ, ◌+◌, ◌<◌, ◌≤◌}
use native.Mathlib.Omega.{arith}
use mathlib.Core.Bool.{Bool, true, false, true≢false}
use mathlib.Core.List.{List, []}
use lib.ListN.{length, get_or, take}
use borrow.Author.Tests.{leb-true}
use Rattle.text.specs.declared.switches.Switches.{Switches}
use Rattle.std.specs.declared.option.Option as Rust
use Rattle.reader.specs.Reading.{word_of}
use Rattle.reader.specs.Syntax.{holds}
use Rattle.reader.specs.Internal.Values.{KeyHere}
use Rattle.reader.specs.Internal.Index.{key_bytes, is_short, prefixed, IsPrefixed, KeyWritten, ContentIn, agreed, passes, Tells, TellsBy, Route, KeyNode, Indexed, HasIndex, HasKey, NodeWritten, NewAt, LookedUp}
use Rattle.reader.proofs.PrefixLaws.{prefixed_same, prefixed_first, prefixed_length, agreed_differ}
use Rattle.reader.proofs.RouteLaws.{positive, route_same}
use Rattle.reader.proofs.IndexLaws.{comes_entry}

-- ---- what is found

module _ {sw : Switches} {s tab links tests : List ℕ} {x : ℕ} {ks : List (List ℕ)} (X : Indexed sw s tab links tests x ks) (w : List ℕ) (r e : ℕ) (R : Route links tests (prefixed w) 0 0 r e) where
  -- a content that another node has than the one that it would come to is not held
  not_held : is_short w ≡ true → (KeyNode sw s tab r w → ⊥) → holds ks w ≡ false
  not_held short n = by (holds ks w) refl
    where
      by : (b : Bool) → holds ks w ≡ b → b ≡ false
      by true b =
          let H = X.reached w b short in
          absurd (n (subst (λ (k : ℕ). KeyNode sw s tab k w) (route_same links tests (prefixed w) 0 0 H.at H.cell r e H.route R) H.node))
      by false b = refl

  -- it comes to no node
  pub none_is : (test : ℕ) → is_short w ≡ true → r ≡ 0 → passes test (prefixed w) ≡ true → (holds ks w ≡ false) × NewAt sw s tab links tests w e test
  none_is test short z p = (
    not_held short (λ K. let h = K.some in omega arith),
    record {
      at = r;
      route = R;
      own = p;
      apart = λ v K h. let g = K.some in let u : ⊥ = omega arith in absurd u;
    },
  )

  -- it comes to a node
  module _ (out : List ℕ) (n : ℕ) (N : NodeWritten sw s tab r out n) (h : 0 < r) where
    other_is : (v : List ℕ) → KeyNode sw s tab r v → is_short v ≡ true → take n out ≡ prefixed v
    other_is v K q = (N.is v K).is.2

    pub other_short : n ≤ key_bytes
    other_short = let E = comes_entry X (prefixed w) r e R h in (N.is E.content E.node).is.1

    pub known_is : agreed (prefixed w) (take n out) ≡ length (prefixed w) → holds ks w ≡ true
    known_is a =
        let E = comes_entry X (prefixed w) r e R h in
        ap (holds ks) (prefixed_same w E.content (ap (agreed (prefixed w)) (sym (other_is E.content E.node E.short)) ∙ a)) ∙ E.held

    pub new_is : (test : ℕ) → is_short w ≡ true → Tells test (prefixed w) (take n out) → (holds ks w ≡ false) × NewAt sw s tab links tests w e test
    new_is test short T = (
      not_held short (λ K. true≢false (sym T.own ∙ ap (passes test) (sym (other_is w K short)) ∙ T.apart)),
      record {
        at = r;
        route = R;
        own = T.own;
        apart = λ v K q. ap (passes test) (sym (other_is v K q)) ∙ T.apart;
      },
    )

-- ---- the key of a node, by words that were read

module _ {sw : Switches} {s tab : List ℕ} {y a e : ℕ} where
  pub node_here : HasKey sw s tab y → a ≡ word_of tab y 4 → e ≡ word_of tab y 5 → KeyHere sw s a e
  node_here H p q = record { content = H.content; key = rw (p, q) H.node.key }

  module _ {out : List ℕ} {r : Rust.Option ℕ} (p : a ≡ word_of tab y 4) (q : e ≡ word_of tab y 5) (K : KeyWritten sw s a e out r) where
    node_is : (w : List ℕ) → KeyNode sw s tab y w → ContentIn w out r
    node_is w N = K.is w (rw (p, q) N.key)

    -- it has room
    pub node_some : HasKey sw s tab y → IsSome r
    node_some H = by r (node_is H.content H.node)
      where
        by : (r : Rust.Option ℕ) → ContentIn H.content out r → IsSome r
        by (Some n) C = refl
        by None C = absurd (true≢false (sym H.short ∙ C.is))

    pub node_written : {n : ℕ} → r ≡ Some n → NodeWritten sw s tab y out n
    node_written {n} h = record { is = λ w N. subst (ContentIn w out) h (node_is w N) }

-- ---- what `look_up` answers

-- a byte of a key
pub look_place : {bytes : List ℕ} {i : ℕ} → IsPrefixed bytes → i < length bytes → i < key_bytes
look_place {bytes} {i} K h =
    let n = ap (length {A = ℕ}) K.is ∙ prefixed_length K.content in
    let q = leb-true (length K.content + 2) key_bytes K.short in
    omega arith

-- its first is not 0
pub look_first : {bytes : List ℕ} {b : ℕ} → IsPrefixed bytes → b ≡ get_or bytes 0 0 → b ≢ 0
look_first {bytes} K p z = prefixed_first K.content (ap (λ (l : List ℕ). get_or l 0 0) (sym K.is) ∙ sym p ∙ z)

-- the first in which two keys differ
pub look_differ : (bytes l : List ℕ) {i own other : ℕ} → i ≡ agreed bytes l → i < length bytes → own ≡ get_or bytes i 0 → other ≡ get_or l i 0 → own ≢ other
look_differ bytes l {i} p h a b z =
    agreed_differ bytes l (subst (λ (j : ℕ). j < length bytes) p h)
    (ap (λ (j : ℕ). get_or bytes j 0) (sym p) ∙ sym a ∙ z ∙ b ∙ ap (λ (j : ℕ). get_or l j 0) p)

route_by : {links tests bytes : List ℕ} {r e : ℕ} → Route links tests bytes 0 0 r e → (w : List ℕ) → bytes ≡ prefixed w → Route links tests (prefixed w) 0 0 r e
route_by {links} {tests} {bytes} {r} {e} R w q = subst (λ (l : List ℕ). Route links tests l 0 0 r e) q R

module _ {sw : Switches} {s tab links tests : List ℕ} {bytes : List ℕ} {r e : ℕ} (R : Route links tests bytes 0 0 r e) where
  pub look_none : {own test : ℕ} → r ≡ 0 → own ≡ get_or bytes 0 0 → TellsBy 0 own 0 test → LookedUp sw s tab links tests bytes (Some (record { cell = e; test = test }))
  look_none {own} {test} z p T =
      record {
        is =
            λ x ks X w short q.
            none_is X w r e (route_by R w q) test short z (T.is (prefixed w) [] (ap (λ (l : List ℕ). get_or l 0 0) (sym q) ∙ sym p) refl).own;
      }

  -- the key that it comes to
  pub look_key : HasIndex sw s tab links tests → (r ≡ 0 → ⊥) → HasKey sw s tab r
  look_key H n = let E = comes_entry H.index bytes r e R (positive r n) in record { content = E.content; node = E.node; short = E.short }

  module _ {out : List ℕ} {n : ℕ} (N : NodeWritten sw s tab r out n) (some : r ≡ 0 → ⊥) where
    pub look_short : HasIndex sw s tab links tests → IsPrefixed bytes → n ≤ key_bytes
    look_short H K = other_short H.index K.content r e (route_by R K.content K.is) out n N (positive r some)

    pub look_known : agreed bytes (take n out) ≡ length bytes → LookedUp sw s tab links tests bytes None
    look_known d =
        record {
          is =
              λ x ks X w short q.
              known_is X w r e (route_by R w q) out n N (positive r some) (ap (λ (l : List ℕ). agreed l (take n out)) (sym q) ∙ d ∙ ap (length {A = ℕ}) q);
        }

    pub look_fresh : {i own other test : ℕ} → own ≡ get_or bytes i 0 → other ≡ get_or (take n out) i 0 → TellsBy i own other test
        → LookedUp sw s tab links tests bytes (Some (record { cell = e; test = test }))
    look_fresh {i} {own} {other} {test} a b T =
        let t = T.is bytes (take n out) (sym a) (sym b) in
        record {
          is =
              λ x ks X w short q.
              new_is X w r e (route_by R w q) out n N (positive r some) test short (subst (λ (l : List ℕ). Tells test l (take n out)) q t);
        }
