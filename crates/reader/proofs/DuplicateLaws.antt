-- Duplicate keys: the walk that looks for them, one child more, and what they come before.
-- Assumes nothing.
use Rattle.std.specs.Prelude.{Some, None}
use mathlib.Core.Path.{◌≡◌, refl, sym, ap, ◌∙◌, subst}
use Prim.Native.Nat.{ℕ, ◌+◌, ◌*◌, ◌<◌, ◌≤◌}
use native.Mathlib.Omega.{arith}
use mathlib.Core.Bool.{Bool, true, false, cond}
use mathlib.Core.Option.{Option, none, some}
use mathlib.Core.List.{List, [], ◌∷◌, ◌++◌, append_assoc, append-nil}
use lib.ListN.{length, get_or}
use Rattle.text.specs.declared.switches.Switches.{Switches}
use Rattle.text.specs.Refusal.{Refusal}
use Rattle.text.specs.declared.span.Span as CS
use Rattle.reader.specs.declared.tree.Kind.{Kind}
use Rattle.reader.specs.declared.tree.Kind.TheVariants.{Object, Array, Tuple}
use Rattle.reader.specs.declared.tree.Children.{Children}
use Rattle.std.specs.declared.option.Option as Rust
use Rattle.reader.specs.Tree.{node_words}
use Rattle.reader.specs.Reading.{word_of}
use Rattle.reader.specs.Syntax.{Outcome, refused, is_object, holds}
use Rattle.reader.specs.Internal.Values.{KeyAt, KeyHere, Link, SiblingKeys, HaveKeys, FoundKey, duplicate, duplicate_in, key_duplicate, unless_duplicate, place_of, DuplicateAt, KeyRefused, FirstDuplicate, RefusedLate, RefusedLateAfter}
use Rattle.reader.proofs.KeyWalk.{RowSays, key_unique, chain_unique, siblings_more}

-- ---- the walk over an object's keys

-- the walk has come to x, and no key so far is a duplicate; `seen` are their contents
pub record Past (sw : Switches) (s tab : List ℕ) (from x m : ℕ) (seen : List (List ℕ)) : Type 0 where
  pub rest : List (List ℕ)
  pub past : SiblingKeys sw s tab from x seen
  pub siblings : SiblingKeys sw s tab x m rest
  pub same_as : (ks : List (List ℕ)) → SiblingKeys sw s tab from m ks → duplicate tab from [] ks ≡ duplicate tab x seen rest

module _ (sw : Switches) (s tab : List ℕ) (from m : ℕ) where
  pub past_start : HaveKeys sw s tab from m → Past sw s tab from from m []
  past_start C =
      record {
        rest = C.keys;
        past = refl;
        siblings = C.siblings;
        same_as = λ ks D. ap (duplicate tab from []) (chain_unique sw s tab from m ks C.keys D C.siblings);
      }

  link_here : (x : ℕ) (ks : List (List ℕ)) → SiblingKeys sw s tab x m ks → x < m → (v : List ℕ) × Link sw s tab x m v
  link_here x [] C h = let z : ⊥ = omega arith in absurd z
  link_here x (v ∷ ks) C h = (v, C.0)

  pub past_row : (x : ℕ) (seen : List (List ℕ)) → Past sw s tab from x m seen → x < m → (v : List ℕ) × Link sw s tab x m v
  past_row x seen T h = link_here x T.rest T.siblings h

  -- the key there, by words that were read
  pub past_key : (x a e : ℕ) (seen : List (List ℕ)) → Past sw s tab from x m seen → x < m → a ≡ word_of tab x 4 → e ≡ word_of tab x 5 → KeyHere sw s a e
  past_key x a e seen T h p q = let r = past_row x seen T h in record { content = r.0; key = rw (p, q) r.1.key }

  pub past_have_keys : (x : ℕ) (seen : List (List ℕ)) → Past sw s tab from x m seen → HaveKeys sw s tab from x
  past_have_keys x seen T = record { keys = seen; siblings = T.past }

  on_is : (x : ℕ) (seen rest : List (List ℕ)) → SiblingKeys sw s tab from x seen → SiblingKeys sw s tab x m rest
      → ((ks : List (List ℕ)) → SiblingKeys sw s tab from m ks → duplicate tab from [] ks ≡ duplicate tab x seen rest) → x < m → (w : List ℕ)
      → KeyAt sw s (word_of tab x 4) (word_of tab x 5) w → holds seen w ≡ false → Past sw s tab from (word_of tab x 8) m (seen ++ (w ∷ []))
  unfolding duplicate
  on_is x seen [] P C f h w k e = let z : ⊥ = omega arith in absurd z
  on_is x seen (v ∷ rest) P C f h w k e =
      let L = C.0 in
      let r = L.row in
      let u = L.later in
      let d = key_unique sw s (word_of tab x 4) (word_of tab x 5) v w L.key k in
      let g : holds seen v ≡ false = ap (holds seen) d ∙ e in
      subst (λ (q : List ℕ). Past sw s tab from (word_of tab x 8) m (seen ++ (q ∷ []))) d
      (record {
        rest = rest;
        past =
            siblings_more sw s tab tab x (word_of tab x 8) (word_of tab x 4) (word_of tab x 5) v (λ i lt. refl) refl
            (record { next_is = refl; start_is = refl; end_is = refl }) r u L.key from seen P;
        siblings = C.1;
        same_as = λ ks D. f ks D ∙ ap (λ (t : Bool). cond t (some (word_of tab x 4)) (duplicate tab (word_of tab x 8) (seen ++ (v ∷ [])) rest)) g;
      })

  hit_is : (x : ℕ) (seen rest : List (List ℕ)) → SiblingKeys sw s tab x m rest → x < m → (w : List ℕ) → KeyAt sw s (word_of tab x 4) (word_of tab x 5) w → holds seen w ≡ true
      → duplicate tab x seen rest ≡ some (word_of tab x 4)
  unfolding duplicate
  hit_is x seen [] C h w k e = let z : ⊥ = omega arith in absurd z
  hit_is x seen (v ∷ rest) C h w k e =
      let L = C.0 in
      ap (λ (t : Bool). cond t (some (word_of tab x 4)) (duplicate tab (word_of tab x 8) (seen ++ (v ∷ [])) rest))
      (ap (holds seen) (key_unique sw s (word_of tab x 4) (word_of tab x 5) v w L.key k) ∙ e)

  end_is : (x : ℕ) (seen rest : List (List ℕ)) → SiblingKeys sw s tab x m rest → m ≤ x → duplicate tab x seen rest ≡ none
  unfolding duplicate
  end_is x seen [] C h = refl
  end_is x seen (v ∷ rest) C h = let L = C.0 in let z : ⊥ = omega arith in absurd z

  -- the next key, where this one is new
  pub past_on : (x a e y : ℕ) (seen : List (List ℕ)) (T : Past sw s tab from x m seen) → x < m → a ≡ word_of tab x 4 → e ≡ word_of tab x 5 → y ≡ word_of tab x 8
      → (w : List ℕ) → KeyAt sw s a e w → holds seen w ≡ false → Past sw s tab from y m (seen ++ (w ∷ []))
  past_on x a e y seen T h p q r w k g = rw r (on_is x seen T.rest T.past T.siblings T.same_as h w (rw (p, q) at k) g)

  pub past_hit : (x a e : ℕ) (seen : List (List ℕ)) (T : Past sw s tab from x m seen) → x < m → a ≡ word_of tab x 4 → e ≡ word_of tab x 5
      → (w : List ℕ) → KeyAt sw s a e w → holds seen w ≡ true → DuplicateAt sw s tab from m (Some a)
  unfolding place_of
  past_hit x a e seen T h p q w k g =
      record { is = λ ks C. sym (T.same_as ks C ∙ hit_is x seen T.rest T.siblings h w (rw (p, q) at k) g ∙ ap some (sym p)) }

  pub past_end : (x : ℕ) (seen : List (List ℕ)) → Past sw s tab from x m seen → m ≤ x → DuplicateAt sw s tab from m None
  unfolding place_of
  past_end x seen T h = record { is = λ ks C. sym (T.same_as ks C ∙ end_is x seen T.rest T.siblings h) }

-- ---- one child more

-- the first of two places, if there is one
unfoldable pub sooner : Option ℕ → Option ℕ → Option ℕ
sooner none q = q
sooner (some a) q = some a

pub unless_sooner : (p q : Option ℕ) (o : Outcome) → unless_duplicate (sooner p q) o ≡ unless_duplicate p (unless_duplicate q o)
unfolding sooner unless_duplicate
unless_sooner none q o = refl
unless_sooner (some a) q o = refl

cond_sooner : (b : Bool) (a : ℕ) (p q : Option ℕ) → cond b (some a) (sooner p q) ≡ sooner (cond b (some a) p) q
unfolding sooner
cond_sooner true a p q = refl
cond_sooner false a p q = refl

module _ (sw : Switches) (s tab out : List ℕ) (m next a b : ℕ) (w : List ℕ) (kept : (i : ℕ) → i < node_words * m → get_or out i 0 ≡ get_or tab i 0) (R : RowSays out m next a b) where
  duplicate_more : (x : ℕ) (seen ks : List (List ℕ)) → SiblingKeys sw s tab x m ks
      → duplicate out x seen (ks ++ (w ∷ [])) ≡ sooner (duplicate tab x seen ks) (cond (holds (seen ++ ks) w) (some a) none)
  unfolding duplicate sooner
  duplicate_more x seen [] e =
      ap (λ (y : ℕ). cond (holds seen w) (some (word_of out y 4)) none) e
      ∙ ap (λ (y : ℕ). cond (holds seen w) (some y) none) R.start_is
      ∙ ap (λ (l : List (List ℕ)). cond (holds l w) (some a) none) (sym (append-nil seen))
  duplicate_more x seen (v ∷ ks) C =
      (λ i. cond (holds seen v) (some (same4 i)) (duplicate out (same8 i) (seen ++ (v ∷ [])) (ks ++ (w ∷ []))))
      ∙ ap (λ (o : Option ℕ). cond (holds seen v) (some (word_of tab x 4)) o)
      (duplicate_more (word_of tab x 8) (seen ++ (v ∷ [])) ks C.1
      ∙ ap (λ (l : List (List ℕ)). sooner (duplicate tab (word_of tab x 8) (seen ++ (v ∷ [])) ks) (cond (holds l w) (some a) none)) (append_assoc seen (v ∷ []) ks))
      ∙ cond_sooner (holds seen v) (word_of tab x 4) (duplicate tab (word_of tab x 8) (seen ++ (v ∷ [])) ks) (cond (holds (seen ++ (v ∷ ks)) w) (some a) none)
    where
      same8 : word_of out x 8 ≡ word_of tab x 8
      same8 = let L = C.0 in kept (node_words * x + 8) (omega arith)

      same4 : word_of out x 4 ≡ word_of tab x 4
      same4 = let L = C.0 in kept (node_words * x + 4) (omega arith)

  -- of a container's children; `js` are their contents with the new one's
  pub duplicate_in_more : (kind : Kind) (x : ℕ) (ks js : List (List ℕ)) → (is_object kind ≡ true → SiblingKeys sw s tab x m ks) → (is_object kind ≡ true → js ≡ ks ++ (w ∷ []))
      → duplicate_in kind out x js ≡ sooner (duplicate_in kind tab x ks) (key_duplicate kind a ks w)
  unfolding duplicate_in key_duplicate sooner
  duplicate_in_more Object x ks js C e = ap (duplicate out x []) (e refl) ∙ duplicate_more x [] ks (C refl)
  duplicate_in_more Array x ks js C e = refl
  duplicate_in_more Tuple x ks js C e = refl

-- no child yet
pub duplicate_in_none : (kind : Kind) (tab : List ℕ) (x : ℕ) → duplicate_in kind tab x [] ≡ none
unfolding duplicate_in duplicate
duplicate_in_none Object tab x = refl
duplicate_in_none Array tab x = refl
duplicate_in_none Tuple tab x = refl

-- ---- words before m that are as they were

module _ (sw : Switches) (s tab out : List ℕ) (m : ℕ) (kept : (i : ℕ) → i < node_words * m → get_or out i 0 ≡ get_or tab i 0) (long : length out ≡ length tab) where
  pub siblings_kept : (x : ℕ) (ks : List (List ℕ)) → SiblingKeys sw s tab x m ks → SiblingKeys sw s out x m ks
  siblings_kept x [] e = e
  siblings_kept x (v ∷ ks) C = (
    record {
      row = let L = C.0 in omega arith;
      later = rw same8 C.0.later;
      below = rw same8 C.0.below;
      key = rw (same4, same5) C.0.key;
    },
    subst (λ (y : ℕ). SiblingKeys sw s out y m ks) (sym same8) (siblings_kept (word_of tab x 8) ks C.1),
  )
    where
      same8 : word_of out x 8 ≡ word_of tab x 8
      same8 = let L = C.0 in kept (node_words * x + 8) (omega arith)

      same4 : word_of out x 4 ≡ word_of tab x 4
      same4 = let L = C.0 in kept (node_words * x + 4) (omega arith)

      same5 : word_of out x 5 ≡ word_of tab x 5
      same5 = let L = C.0 in kept (node_words * x + 5) (omega arith)

  duplicate_kept : (x : ℕ) (seen ks : List (List ℕ)) → SiblingKeys sw s tab x m ks → duplicate out x seen ks ≡ duplicate tab x seen ks
  unfolding duplicate
  duplicate_kept x seen [] e = refl
  duplicate_kept x seen (v ∷ ks) C =
      (λ i. cond (holds seen v) (some (same4 i)) (duplicate out (same8 i) (seen ++ (v ∷ [])) ks))
      ∙ ap (λ (o : Option ℕ). cond (holds seen v) (some (word_of tab x 4)) o) (duplicate_kept (word_of tab x 8) (seen ++ (v ∷ [])) ks C.1)
    where
      same8 : word_of out x 8 ≡ word_of tab x 8
      same8 = let L = C.0 in kept (node_words * x + 8) (omega arith)

      same4 : word_of out x 4 ≡ word_of tab x 4
      same4 = let L = C.0 in kept (node_words * x + 4) (omega arith)

  pub duplicate_in_kept : (kind : Kind) (x : ℕ) (ks : List (List ℕ)) → (is_object kind ≡ true → SiblingKeys sw s tab x m ks) → duplicate_in kind out x ks ≡ duplicate_in kind tab x ks
  unfolding duplicate_in
  duplicate_in_kept Object x ks C = duplicate_kept x [] ks (C refl)
  duplicate_in_kept Array x ks C = refl
  duplicate_in_kept Tuple x ks C = refl

-- ---- refusals after a key

module _ {sw : Switches} {s tab : List ℕ} {x m a e : ℕ} {f : Refusal} {r : Bool} where
  pub key_found : r ≡ true → FoundKey sw s tab x m a e r → KeyRefused sw s tab x m a e f (record { number = 8; place = a })
  unfolding unless_duplicate key_duplicate
  key_found h F = record { is = λ w k ks C. ap (λ (b : Bool). unless_duplicate (cond b (some a) none) (refused f.number f.place)) (sym h ∙ F.is w k ks C) }

  pub key_new : r ≡ false → FoundKey sw s tab x m a e r → KeyRefused sw s tab x m a e f f
  unfolding unless_duplicate key_duplicate
  key_new h F = record { is = λ w k ks C. ap (λ (b : Bool). unless_duplicate (cond b (some a) none) (refused f.number f.place)) (sym h ∙ F.is w k ks C) }

-- ---- refusals in a container

module _ {sw : Switches} {s : List ℕ} {kind : Kind} {tab : List ℕ} {c : Children} where
  pub first_object : {r : Rust.Option ℕ} → kind ≡ Object → DuplicateAt sw s tab c.first c.next r → FirstDuplicate sw s kind tab c r
  unfolding duplicate_in
  first_object {r} e F = rw e (record { is = λ ks K. F.is ks (K.siblings refl) })

  pub first_other : is_object kind ≡ false → FirstDuplicate sw s kind tab c None
  unfolding duplicate_in place_of
  first_other e = record { is = λ ks K. rw e refl }

  module _ {r : Rust.Option ℕ} (F : FirstDuplicate sw s kind tab c r) where
    pub first_as : {q : Rust.Option ℕ} → r ≡ q → FirstDuplicate sw s kind tab c q
    first_as e = subst (FirstDuplicate sw s kind tab c) e F

    pub late_at : {f : Refusal} {place : ℕ} → r ≡ Some place → RefusedLate sw s kind tab c f (record { number = 8; place = place })
    unfolding unless_duplicate place_of
    late_at {f} {place} e = record { is = λ ks K. ap (λ (o : Option ℕ). unless_duplicate o (refused f.number f.place)) (ap place_of (sym e) ∙ F.is ks K) }

    pub late_not : {f : Refusal} → r ≡ None → RefusedLate sw s kind tab c f f
    unfolding unless_duplicate place_of
    late_not {f} e = record { is = λ ks K. ap (λ (o : Option ℕ). unless_duplicate o (refused f.number f.place)) (ap place_of (sym e) ∙ F.is ks K) }

    pub late_after_at : {key : CS.Span} {f : Refusal} {place : ℕ} → r ≡ Some place → RefusedLateAfter sw s kind tab c key f (record { number = 8; place = place })
    unfolding unless_duplicate place_of
    late_after_at {key} {f} {place} e =
        record {
          is =
              λ ks K w k.
              ap (λ (o : Option ℕ). unless_duplicate o (unless_duplicate (key_duplicate kind key.start ks w) (refused f.number f.place))) (ap place_of (sym e) ∙ F.is ks K);
        }

    -- the key itself is judged where it has none before it
    late_after_not : {key : CS.Span} {f q : Refusal} → r ≡ None
        → ((ks : List (List ℕ)) → (is_object kind ≡ true → SiblingKeys sw s tab c.first c.next ks) → (w : List ℕ) → (is_object kind ≡ true → KeyAt sw s key.start key.stop w)
        → refused q.number q.place ≡ unless_duplicate (key_duplicate kind key.start ks w) (refused f.number f.place))
        → RefusedLateAfter sw s kind tab c key f q
    unfolding unless_duplicate place_of
    late_after_not {key} {f} {q} e g =
        record {
          is =
              λ ks K w k.
              g ks K.siblings w k
              ∙ ap (λ (o : Option ℕ). unless_duplicate o (unless_duplicate (key_duplicate kind key.start ks w) (refused f.number f.place))) (ap place_of (sym e) ∙ F.is ks K);
        }

    pub late_after_key : {key : CS.Span} {f q : Refusal} → r ≡ None → kind ≡ Object → KeyRefused sw s tab c.first c.next key.start key.stop f q → RefusedLateAfter sw s kind tab c key f q
    late_after_key {key} {f} {q} e o H =
        let y = ap is_object o in
        late_after_not {key = key} {f = f} {q = q} e
        (λ ks C w k. H.is w (k y) ks (C y) ∙ ap (λ (j : Kind). unless_duplicate (key_duplicate j key.start ks w) (refused f.number f.place)) (sym o))

    pub late_after_other : {key : CS.Span} {f : Refusal} → r ≡ None → is_object kind ≡ false → RefusedLateAfter sw s kind tab c key f f
    unfolding unless_duplicate key_duplicate
    late_after_other {key} {f} e o = late_after_not {key = key} {f = f} {q = f} e (λ ks C w k. rw o refl)
