-- The law by which the readers above go on: the tokens from a place are the next token and the tokens from its end.
-- With it what one answer of `item_by` says of the tokens from its place, for the loop of `next_token`.
-- Assumes nothing.
use Rattle.std.specs.Prelude.{Ok, Err, Result}
use mathlib.Core.Path.{◌≡◌, refl, sym, ap, ◌∙◌, subst}
use Prim.Native.Nat.{ℕ, zero, suc, ◌+◌, ◌-◌, ◌≤◌, ◌<◌}
use native.Mathlib.Nat.{suc-add, add-suc, le_refl}
use native.Mathlib.Omega.{arith}
use mathlib.Core.Bool.{Bool, true, false, cond}
use mathlib.Core.List.{List, [], ◌∷◌}
use lib.Dec.{ltb}
use lib.ListN.{length, drop, get_or, length-drop, drop_of_length-le}
use lib.Seq.{drop-drop, get_or-drop}
use borrow.Author.Tests.{ltb-true, ltb-false}
use Rattle.text.specs.declared.switches.Switches.{Switches}
use Rattle.lexer.specs.declared.item.TokenKind.{TokenKind}
use Rattle.text.specs.Refusal.{Refusal}
use Rattle.lexer.specs.declared.item.Token.{Token}
use Rattle.lexer.specs.declared.item.Found.{Found}
use Rattle.lexer.specs.declared.item.Found.TheVariants as F
use Rattle.lexer.specs.declared.item.Next.TheVariants as X
use Rattle.lexer.specs.Token.{Form, Item, gap, token, fault, item, Tokens, next, end, after_item, cut, item_at, tokens_from}
use Rattle.lexer.specs.Answer.{kind_of, found, found_at, token_next, refused_next, first_of}
use Rattle.lexer.proofs.TokenLaws.{EndsBy, item_ends, item_at_ends, cut_left, cut_end, cut_within, from_gap, from_token, from_fault, Within}

-- ---- what an answer of `item_by` says

module _ (at e : ℕ) where
  found_gap : (i : Item) → found at i ≡ Ok (F.Gap e) → (more : ℕ) × (i ≡ gap more) × (e ≡ at + suc more)
  unfolding found
  found_gap (gap more) q = (more, refl, (cc))
  found_gap (token form more) q = let z : ◌≡◌ {A = ℕ} 0 1 = cc in absurd (omega arith)
  found_gap (fault number) q = let z : ◌≡◌ {A = ℕ} 0 1 = cc in absurd (omega arith)

  pub found_token : (k : TokenKind) (i : Item) → found at i ≡ Ok (F.Token k e) → (form : Form) × (more : ℕ) × (i ≡ token form more) × (kind_of form ≡ k) × (e ≡ at + suc more)
  unfolding found
  found_token k (gap more) q = let z : ◌≡◌ {A = ℕ} 0 1 = cc in absurd (omega arith)
  found_token k (token form more) q = (form, more, refl, (cc), (cc))
  found_token k (fault number) q = let z : ◌≡◌ {A = ℕ} 0 1 = cc in absurd (omega arith)

  found_fault : (i : Item) → found at i ≡ Err e → i ≡ fault e
  unfolding found
  found_fault (gap more) q = cc
  found_fault (token form more) q = cc
  found_fault (fault number) q = cc

found_something : (at : ℕ) (i : Item) → found at i ≡ (Ok F.Nothing) → ⊥
unfolding found
found_something at (gap more) q = let z : ◌≡◌ {A = ℕ} 0 1 = cc in omega arith
found_something at (token form more) q = let z : ◌≡◌ {A = ℕ} 0 1 = cc in omega arith
found_something at (fault number) q = let z : ◌≡◌ {A = ℕ} 0 1 = cc in omega arith

-- an answer other than `Nothing` is one about an item within the text
chosen : (t : Bool) (f r : Result Found ℕ) → cond t f (Ok F.Nothing) ≡ r → (r ≡ (Ok F.Nothing) → ⊥) → (t ≡ true) × (f ≡ r)
chosen true f r q n = (refl, q)
chosen false f r q n = absurd (n (sym q))

module _ (sw : Switches) (s : List ℕ) (at : ℕ) where
  pub item_there : (r : Result Found ℕ) → found_at sw s at ≡ r → (r ≡ (Ok F.Nothing) → ⊥) → (at < length s) × (found at (item_at sw s at) ≡ r)
  unfolding found_at
  item_there r q n =
      let c = chosen (ltb at (length s)) (found at (item_at sw s at)) r q n in
      (ltb-true at (length s) c.0, c.1)

  gap_within : (more : ℕ) → at < length s → item_at sw s at ≡ gap more → at + suc more ≤ length s
  unfolding EndsBy
  gap_within more h q = let w = subst (EndsBy (length s - suc at)) q (item_at_ends sw s at h) in omega arith

  pub after_gap : (e : ℕ) → found_at sw s at ≡ Ok (F.Gap e) → (tokens_from sw s at ≡ tokens_from sw s e) × (at < e) × (e ≤ length s)
  after_gap e q =
      let h = item_there (Ok (F.Gap e)) q (λ n. let z : ◌≡◌ {A = ℕ} 0 1 = cc in omega arith) in
      let g = found_gap at e (item_at sw s at) h.1 in
      let w = gap_within g.0 h.0 g.1 in
      let m = g.2 in
      (from_gap sw s at h.0 g.0 g.1 ∙ ap (tokens_from sw s) (sym m), omega arith, omega arith)

  pub at_token : (k : TokenKind) (e : ℕ) → found_at sw s at ≡ Ok (F.Token k e) → first_of (tokens_from sw s at) ≡ token_next k at e
  unfolding first_of
  at_token k e q =
      let h = item_there (Ok (F.Token k e)) q (λ n. let z : ◌≡◌ {A = ℕ} 0 1 = cc in omega arith) in
      let g = found_token at e k (item_at sw s at) h.1 in
      ap first_of (from_token sw s at h.0 g.0 g.1 g.2) ∙ (λ i. token_next (g.3 i) at (sym g.4 i))

  pub at_fault : (n : ℕ) → found_at sw s at ≡ Err n → first_of (tokens_from sw s at) ≡ refused_next n at
  unfolding first_of
  at_fault n q =
      let h = item_there (Err n) q (λ m. let z : ◌≡◌ {A = ℕ} 0 1 = cc in omega arith) in
      ap first_of (from_fault sw s at h.0 n (found_fault at n (item_at sw s at) h.1))

  past_end : (t : Bool) → ltb at (length s) ≡ t → cond t (found at (item_at sw s at)) (Ok F.Nothing) ≡ (Ok F.Nothing) → length s ≤ at
  past_end true p q = absurd (found_something at (item_at sw s at) q)
  past_end false p q = ltb-false at (length s) p

  pub at_end_law : found_at sw s at ≡ (Ok F.Nothing) → first_of (tokens_from sw s at) ≡ Ok (X.End at)
  unfolding found_at first_of tokens_from
  at_end_law q =
      let h = past_end (ltb at (length s)) refl q in
      ap (λ (l : List ℕ). first_of (cut sw 0 at l)) (drop_of_length-le s h) ∙ ap first_of (cut_end sw at)

-- ---- the next token, and the tokens from its end

-- of the bytes s from the place `at` on, a first token is the item at its start, and the tokens from its end follow it
unfoldable Follows : Switches → (at : ℕ) (s : List ℕ) → Tokens → Type 0
Follows sw at s (next t ts) =
    (at < t.stop) × (ts ≡ cut sw 0 t.stop (drop (t.stop - at) s)) × (at ≤ t.start)
    × (item sw (get_or s (t.start - at) 0) (drop (suc (t.start - at)) s) ≡ token t.form (t.stop - suc t.start))
Follows sw at s (end place) = Unit {0}
Follows sw at s (Tokens.fault number place) = Unit {0}

module _ (sw : Switches) where
  -- one byte more in front
  follows_on : (at b : ℕ) (s : List ℕ) (ts : Tokens) → Follows sw (suc at) s ts → Follows sw at (b ∷ s) ts
  unfolding Follows
  follows_on at b s (next t ts) f =
      let e : t.stop - at ≡ suc (t.stop - suc at) = omega arith in
      let o : t.start - at ≡ suc (t.start - suc at) = omega arith in (
        omega arith,
        f.1 ∙ ap (λ (n : ℕ). cut sw 0 t.stop (drop n (b ∷ s))) (sym e),
        omega arith,
        ap (λ (n : ℕ). item sw (get_or (b ∷ s) n 0) (drop (suc n) (b ∷ s))) o ∙ f.3,
      )
  follows_on at b s (end place) f = tt
  follows_on at b s (Tokens.fault number place) f = tt

  item_follows : (at b : ℕ) (s : List ℕ) (i : Item) → item sw b s ≡ i → EndsBy (length s) i
      → ((more : ℕ) → more ≤ length s → Follows sw (suc at) s (cut sw more (suc at) s))
      → Follows sw at (b ∷ s) (after_item at i (λ more. cut sw more (suc at) s))
  unfolding Follows EndsBy after_item
  item_follows at b s (gap more) q h k = follows_on at b s (cut sw more (suc at) s) (k more h)
  item_follows at b s (token form more) q h k =
      let e : at + suc more - at ≡ suc more = omega arith in
      let o : at - at ≡ 0 = omega arith in
      let m : more ≡ at + suc more - suc at = omega arith in (
        omega arith,
        cut_left sw more (suc at) s h ∙ ap (λ (n : ℕ). cut sw 0 n (drop more s)) (suc-add at more ∙ sym (add-suc at more))
            ∙ ap (λ (n : ℕ). cut sw 0 (at + suc more) (drop n (b ∷ s))) (sym e),
        le_refl at,
        ap (λ (n : ℕ). item sw (get_or (b ∷ s) n 0) (drop (suc n) (b ∷ s))) o ∙ q ∙ ap (token form) m,
      )
  item_follows at b s (fault number) q h k = tt

  cut_follows : (left at : ℕ) (s : List ℕ) → left ≤ length s → Follows sw at s (cut sw left at s)
  unfolding cut Follows
  cut_follows left at [] h = tt
  cut_follows (suc left) at (b ∷ s) h = follows_on at b s (cut sw left (suc at) s) (cut_follows left (suc at) s (omega arith))
  cut_follows zero at (b ∷ s) h = item_follows at b s (item sw b s) refl (item_ends sw b s) (λ more k. cut_follows more (suc at) s k)

-- what a reader knows once the next token from `at` is a token of the kind k from `start` to `stop`
pub record Ahead (sw : Switches) (s : List ℕ) (at : ℕ) (k : TokenKind) (start stop : ℕ) : Type 0 where
  pub form : Form
  pub kind : kind_of form ≡ k
  pub after : at ≤ start
  pub some : start < stop
  pub inside : stop ≤ length s
  pub item : item_at sw s start ≡ token form (stop - suc start)
  pub go_on : tokens_from sw s at ≡ next (record { form = form; start = start; stop = stop }) (tokens_from sw s stop)

-- an answer's parts
token_same : (k l : TokenKind) (a b c d : ℕ) → token_next k a c ≡ token_next l b d → (k ≡ l) × (a ≡ b) × (c ≡ d)
token_same k l a b c d p =
    let q : token_of k a c ≡ token_of l b d = cc in
    (ap (λ (t : Token). t.kind) q, ap (λ (t : Token). t.span.start) q, ap (λ (t : Token). t.span.stop) q)
  where
    token_of : TokenKind → ℕ → ℕ → Token
    token_of k a c = record { kind = k; span = record { start = a; stop = c } }

refused_same : (n m a b : ℕ) → refused_next n a ≡ refused_next m b → (n ≡ m) × (a ≡ b)
refused_same n m a b p =
    let q : refusal_of n a ≡ refusal_of m b = cc in
    (ap (λ (r : Refusal). r.number) q, ap (λ (r : Refusal). r.place) q)
  where
    refusal_of : ℕ → ℕ → Refusal
    refusal_of n a = record { number = n; place = a }

module _ (sw : Switches) (s : List ℕ) (at : ℕ) where
  token_ahead : (n : ℕ) (ts : Tokens) (k : TokenKind) (start stop : ℕ) → n ≡ length s → tokens_from sw s at ≡ ts → Within n at ts
      → Follows sw at (drop at s) ts → first_of ts ≡ token_next k start stop → Ahead sw s at k start stop
  unfolding Within Follows first_of tokens_from item_at
  token_ahead n (next t ts) k start stop e q w f p =
      let same = token_same (kind_of t.form) k t.start start t.stop stop p in
      let start_is = same.1 in
      let stop_is = same.2 in
      let d : at + (t.stop - at) ≡ t.stop = omega arith in
      let o : at + (t.start - at) ≡ t.start = omega arith in
      let u : at + suc (t.start - at) ≡ suc t.start = omega arith in
      record {
        form = t.form;
        kind = same.0;
        after = omega arith;
        some = omega arith;
        inside = omega arith;
        item =
            (λ i. item sw (get_or s (sym start_is i) 0) (drop (suc (sym start_is i)) s))
            ∙ (λ i. item sw (get_or s (sym o i) 0) (drop (sym u i) s))
            ∙ (λ i. item sw (sym (get_or-drop at s (t.start - at) 0) i) (sym (drop-drop (suc (t.start - at)) at s) i)) ∙ f.3
            ∙ (λ i. token t.form (stop_is i - suc (start_is i)));
        go_on =
            q ∙ ap (next t) (f.1 ∙ ap (cut sw 0 t.stop) (drop-drop (t.stop - at) at s ∙ ap (λ (j : ℕ). drop j s) d))
            ∙ (λ i. next (record { form = t.form; start = start_is i; stop = stop_is i }) (cut sw 0 (stop_is i) (drop (stop_is i) s)));
      }
  token_ahead n (end place) k start stop e q w f p = let z : ◌≡◌ {A = ℕ} 0 1 = cc in absurd (omega arith)
  token_ahead n (Tokens.fault number place) k start stop e q w f p = let z : ◌≡◌ {A = ℕ} 0 1 = cc in absurd (omega arith)

  -- "the tokens from a place are the next token and the tokens from its end"
  pub next_ahead : (k : TokenKind) (start stop : ℕ) → at ≤ length s → first_of (tokens_from sw s at) ≡ token_next k start stop
      → Ahead sw s at k start stop
  unfolding tokens_from
  next_ahead k start stop h p =
      let l = length-drop at s in
      let e : at + length (drop at s) ≡ length s = omega arith in
      let z : at + 0 ≡ at = omega arith in
      token_ahead (at + length (drop at s)) (cut sw 0 at (drop at s)) k start stop e refl
      (subst (λ (n : ℕ). Within (at + length (drop at s)) n (cut sw 0 at (drop at s))) z (cut_within sw 0 at (drop at s) (omega arith)))
      (cut_follows sw 0 at (drop at s) (omega arith)) p

  -- the end and a fault are all that is left
  pub next_end : (place : ℕ) → first_of (tokens_from sw s at) ≡ Ok (X.End place) → tokens_from sw s at ≡ end place
  unfolding first_of
  next_end place p = is_end (tokens_from sw s at) p
    where
      is_end : (ts : Tokens) → first_of ts ≡ Ok (X.End place) → ts ≡ end place
      is_end (next t ts) q = cc
      is_end (end p') q = cc
      is_end (Tokens.fault number p') q = cc

  pub next_fault : (number place : ℕ) → first_of (tokens_from sw s at) ≡ refused_next number place → tokens_from sw s at ≡ Tokens.fault number place
  unfolding first_of
  next_fault number place p = is_fault (tokens_from sw s at) p
    where
      is_fault : (ts : Tokens) → first_of ts ≡ refused_next number place → ts ≡ Tokens.fault number place
      is_fault (next t ts) q = cc
      is_fault (end p') q = cc
      is_fault (Tokens.fault n p') q = let same = refused_same n number p' place q in (λ i. Tokens.fault (same.0 i) (same.1 i))
