-- Two contents compared by cursors: what the loops of `next_byte` and `same_content` know.
-- Assumes nothing.
use mathlib.Core.Path.{◌≡◌, refl, sym, ap, ◌∙◌, subst}
use Prim.Native.Nat.{ℕ, ◌+◌, ◌<◌, ◌≤◌}
use native.Mathlib.Omega.{arith}
use mathlib.Core.Bool.{Bool, true, false, cond}
use mathlib.Core.Option.{Option, none, some}
use mathlib.Core.List.{List, [], ◌∷◌}
use lib.ListN.{length, drop, get_or}
use Rattle.text.specs.declared.switches.Switches.{Switches}
use Rattle.text.specs.declared.few.Few.{Few}
use Rattle.text.specs.declared.few.Few.TheVariants.{Zero}
use Rattle.text.specs.Bytes.{same_bytes}
use Rattle.text.specs.Utf8.{listed}
use Rattle.literals.specs.declared.decoder.Body.{Body}
use Rattle.literals.specs.declared.decoder.Decoder.{Decoder}
use Rattle.literals.specs.declared.decoder.Decoded.{Decoded}
use Rattle.literals.specs.declared.compare.Cursor.{Cursor}
use Rattle.literals.specs.declared.compare.Piece.{Piece}
use Rattle.literals.specs.declared.compare.Piece.TheVariants as P
use Rattle.literals.specs.Content.{decode_step, may_end, prepend, decoded, start_of, content, same_content}
use Rattle.literals.specs.InternalContent.{Sound, cursor_at, rest, weight, Step, PieceIs, Pieced}
use Rattle.text.proofs.FewLaws.{few_short}
use Rattle.literals.proofs.StepLaws.{good_next, decoded_turn, decoded_end}
use Rattle.literals.proofs.PairLaws.{same_none, end_byte, byte_end, byte_differ, byte_same}
use Rattle.literals.proofs.TallyLaws.{start_sound}
use Rattle.literals.proofs.FillLaws.{prepend_both, prepend_none}

-- ---- the next byte

-- from the cursor c the loop has come to k, and given nothing yet
pub record Walked (sw : Switches) (s : List ℕ) (c k : Cursor) : Type 0 where
  pub sound : Sound k.state
  pub less : weight s k ≤ weight s c
  pub same : rest sw s c ≡ rest sw s k

pub walk_start : (sw : Switches) (s : List ℕ) (c : Cursor) → Sound c.state → Walked sw s c c
walk_start sw s c h = record { sound = h; less = omega arith; same = refl }

module _ {sw : Switches} {s : List ℕ} {c : Cursor} {i : ℕ} {st : Decoder} {f : Few} (A : Walked sw s c (cursor_at i st f)) where
  -- the first of some bytes
  pub walk_byte : (b : ℕ) (g : Few) (k : Cursor) → k ≡ cursor_at i st g → listed f ≡ b ∷ listed g → Step sw s c b k
  unfolding rest weight
  walk_byte b g k p e =
      let w = A.less in
      let l = ap (length {A = ℕ}) e in
      rw p
      (record {
        is =
            A.same ∙ ap (λ (t : List ℕ). prepend t (decoded sw st (drop i s))) e
            ∙ sym (prepend_both (b ∷ []) (listed g) (decoded sw st (drop i s)));
        sound = A.sound;
        less = omega arith;
      })

  module _ (z : listed f ≡ []) where
    empty : rest sw s c ≡ decoded sw st (drop i s)
    unfolding rest
    empty = A.same ∙ rw z (sym (prepend_none (decoded sw st (drop i s))))

    pub walk_turn : (d : Decoded) → i < length s → d ≡ decode_step sw st (get_or s i 0) → Walked sw s c (cursor_at (i + 1) d.state d.out)
    unfolding rest weight
    walk_turn d h e =
        let g = good_next sw st (get_or s i 0) d A.sound e in
        let w = A.less in
        let n = few_short d.out in
        record { sound = g.0; less = omega arith; same = empty ∙ decoded_turn sw st d s i h e }

    pub walk_end : length s ≤ i → (b : Bool) → may_end st ≡ b → rest sw s c ≡ cond b (some []) none
    walk_end h b e = empty ∙ decoded_end sw st s i h ∙ ap (λ (x : Bool). cond x (some []) none) e

-- ---- what a piece says

module _ {sw : Switches} {s : List ℕ} {c : Cursor} {r : Piece} where
  pub end_is : r ≡ P.End → Pieced sw s c r → rest sw s c ≡ some []
  end_is e h = subst (λ (x : Piece). PieceIs sw s c x) e h.is

  pub bad_is : r ≡ P.Bad → Pieced sw s c r → rest sw s c ≡ none
  bad_is e h = subst (λ (x : Piece). PieceIs sw s c x) e h.is

  pub byte_is : {b : ℕ} {k : Cursor} → r ≡ P.Byte b k → Pieced sw s c r → Step sw s c b k
  byte_is e h = subst (λ (x : Piece). PieceIs sw s c x) e h.is

-- ---- both sides

-- from the cursors m, n at the starts to x, y
pub record Both (sw : Switches) (a b : List ℕ) (m n x y : Cursor) : Type 0 where
  pub one : Sound x.state
  pub two : Sound y.state
  pub same : same_content (rest sw a m) (rest sw b n) ≡ same_content (rest sw a x) (rest sw b y)

start_cursor : (body : Body) (st : Decoder) (x : Cursor) → st ≡ start_of body → x ≡ cursor_at 0 st Zero → Sound x.state
start_cursor body st x e p = rw (p, e) (start_sound body).0

start_rest : (sw : Switches) (body : Body) (s : List ℕ) (st : Decoder) (x : Cursor) → st ≡ start_of body → x ≡ cursor_at 0 st Zero → rest sw s x ≡ content sw body s
unfolding rest content listed
start_rest sw body s st x e p = rw (p, e) (sym (prepend_none (decoded sw (start_of body) s)))

module _ {sw : Switches} {a b : List ℕ} {k l : Decoder} {m n : Cursor} (e : m ≡ cursor_at 0 k Zero) (f : n ≡ cursor_at 0 l Zero) (abody bbody : Body)
    (g : k ≡ start_of abody) (h : l ≡ start_of bbody) where
  pub both_start : Both sw a b m n m n
  both_start = record { one = start_cursor abody k m g e; two = start_cursor bbody l n h f; same = refl }

  module _ {x y : Cursor} (A : Both sw a b m n x y) where
    goal : {t : Bool} → same_content (rest sw a x) (rest sw b y) ≡ t → t ≡ same_content (content sw abody a) (content sw bbody b)
    goal p = sym (sym (λ i. same_content (start_rest sw abody a k m g e i) (start_rest sw bbody b l n h f i)) ∙ A.same ∙ p)

    pub both_bad : rest sw a x ≡ none → false ≡ same_content (content sw abody a) (content sw bbody b)
    unfolding same_content
    both_bad p = goal (ap (λ (o : Option (List ℕ)). same_content o (rest sw b y)) p)

    pub both_bad_2 : rest sw b y ≡ none → false ≡ same_content (content sw abody a) (content sw bbody b)
    both_bad_2 q = goal (ap (same_content (rest sw a x)) q ∙ same_none (rest sw a x))

    pub both_end : rest sw a x ≡ some [] → rest sw b y ≡ some [] → true ≡ same_content (content sw abody a) (content sw bbody b)
    unfolding same_content same_bytes
    both_end p q = goal (λ i. same_content (p i) (q i))

    pub both_short : {v : ℕ} {j : Cursor} → rest sw a x ≡ some [] → Step sw b y v j → false ≡ same_content (content sw abody a) (content sw bbody b)
    both_short {v} {j} p q = goal ((λ i. same_content (p i) (q.is i)) ∙ end_byte v (rest sw b j))

    pub both_long : {u : ℕ} {i : Cursor} → Step sw a x u i → rest sw b y ≡ some [] → false ≡ same_content (content sw abody a) (content sw bbody b)
    both_long {u} {i} p q = goal ((λ z. same_content (p.is z) (q z)) ∙ byte_end u (rest sw a i))

    pub both_differ : {u v : ℕ} {i j : Cursor} → Step sw a x u i → Step sw b y v j → (u ≡ v → ⊥) → false ≡ same_content (content sw abody a) (content sw bbody b)
    both_differ {u} {v} {i} {j} p q d = goal ((λ z. same_content (p.is z) (q.is z)) ∙ byte_differ u v (rest sw a i) (rest sw b j) d)

    -- the other side's next byte is not this side's, or it has none
    pub both_byte : {u : ℕ} {i : Cursor} → Step sw a x u i → (r : Piece) → Pieced sw b y r → ((v : ℕ) (j : Cursor) → r ≡ P.Byte v j → ⊥)
        → false ≡ same_content (content sw abody a) (content sw bbody b)
    both_byte p (P.Byte v j) q n = absurd (n v j refl)
    both_byte p P.End q n = both_long p q.is
    both_byte p P.Bad q n = both_bad_2 q.is

    -- the other side is not at its end
    pub both_last : rest sw a x ≡ some [] → (r : Piece) → Pieced sw b y r → (r ≡ P.End → ⊥) → false ≡ same_content (content sw abody a) (content sw bbody b)
    both_last p (P.Byte v j) q n = both_short p q.is
    both_last p P.End q n = absurd (n refl)
    both_last p P.Bad q n = both_bad_2 q.is

pub both_on : {sw : Switches} {a b : List ℕ} {m n x y i j : Cursor} {u v : ℕ} → Both sw a b m n x y → Step sw a x u i → Step sw b y v j → u ≡ v
    → Both sw a b m n i j
both_on {sw} {a} {b} {m} {n} {x} {y} {i} {j} {u} {v} A p q e =
    record {
      one = p.sound;
      two = q.sound;
      same = A.same ∙ (λ z. same_content (p.is z) (q.is z)) ∙ byte_same u v (rest sw a i) (rest sw b j) e;
    }
