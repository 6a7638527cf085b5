-- The equation of `cut`: the tokens from a place are the first token there and the tokens from its end.
-- With it the bounds that it needs: an item ends within the text.
-- Assumes nothing.
use mathlib.Core.Path.{◌≡◌, refl, sym, ap, ◌∙◌, subst}
use Prim.Native.Nat.{ℕ, zero, suc, ◌+◌, ◌-◌, ◌≤◌, ◌<◌, zero-le}
use native.Mathlib.Nat.{add-zero, suc-add, add-suc, le_refl, le_trans}
use native.Mathlib.Omega.{arith}
use mathlib.Core.List.{List, [], ◌∷◌}
use lib.ListN.{length, drop, get_or, length-drop}
use lib.Seq.{drop-cons, drop-drop, drop-length}
use Rattle.text.specs.declared.switches.Switches.{Switches}
use Rattle.text.specs.Bytes.{is_word_byte, is_number_byte}
use Rattle.literals.specs.Number.{number}
use Rattle.lexer.proofs.ItemCases.{front_le, item_case}
use Rattle.lexer.specs.Token.{Form, Item, gap, token, fault, item, Tokens, next, end, after_item, cut, tokens, item_at, tokens_from}

-- ---- an item ends within the bytes that follow its first

unfoldable pub EndsBy : (n : ℕ) → Item → Type 0
EndsBy n (gap more) = more ≤ n
EndsBy n (token form more) = more ≤ n
EndsBy n (fault number) = Unit {0}

pub item_ends : (sw : Switches) (b : ℕ) (s : List ℕ) → EndsBy (length s) (item sw b s)
unfolding EndsBy
item_ends sw b s =
    item_case sw b s (EndsBy (length s)) (record {
      of_gap = λ more h y. h;
      of_mark = λ y. zero-le;
      of_word = front_le is_word_byte s;
      of_string = λ isText body head k m c q h e. h;
      of_integer = λ z e. front_le is_number_byte s;
      of_decimal = λ minus m p e. front_le is_number_byte s;
      of_fault = λ n h. tt;
    })

-- ---- the equation

module _ (sw : Switches) where
  -- bytes of an item already cut are passed over
  pub cut_left : (left at : ℕ) (s : List ℕ) → left ≤ length s → cut sw left at s ≡ cut sw 0 (at + left) (drop left s)
  unfolding cut
  cut_left zero at [] h = ap end (sym (add-zero at))
  cut_left (suc left) at [] h = absurd (omega arith)
  cut_left zero at (b ∷ s) h = ap (λ (n : ℕ). cut sw 0 n (b ∷ s)) (sym (add-zero at))
  cut_left (suc left) at (b ∷ s) h =
      cut_left left (suc at) s (omega arith) ∙ ap (λ (n : ℕ). cut sw 0 n (drop left s)) (suc-add at left ∙ sym (add-suc at left))

  -- "the tokens from a place": nothing, or the item there and the tokens from its end
  unfoldable pub from_item : (at : ℕ) (s : List ℕ) → Item → Tokens
  from_item at s (gap more) = cut sw 0 (at + suc more) (drop more s)
  from_item at s (token form more) = next (record { form = form; start = at; stop = at + suc more }) (cut sw 0 (at + suc more) (drop more s))
  from_item at s (fault number) = Tokens.fault number at

  from_item_law : (at : ℕ) (s : List ℕ) (i : Item) → EndsBy (length s) i → after_item at i (λ more. cut sw more (suc at) s) ≡ from_item at s i
  unfolding after_item from_item EndsBy
  from_item_law at s (gap more) h =
      cut_left more (suc at) s h ∙ ap (λ (n : ℕ). cut sw 0 n (drop more s)) (suc-add at more ∙ sym (add-suc at more))
  from_item_law at s (token form more) h =
      ap (next (record { form = form; start = at; stop = at + suc more }))
      (cut_left more (suc at) s h ∙ ap (λ (n : ℕ). cut sw 0 n (drop more s)) (suc-add at more ∙ sym (add-suc at more)))
  from_item_law at s (fault number) h = refl

  pub cut_end : (at : ℕ) → cut sw 0 at [] ≡ end at
  unfolding cut
  cut_end at = refl

  pub cut_item : (at b : ℕ) (s : List ℕ) → cut sw 0 at (b ∷ s) ≡ from_item at s (item sw b s)
  unfolding cut
  cut_item at b s = from_item_law at s (item sw b s) (item_ends sw b s)

  -- the same by places of a text: what a loop over tokens goes by
  module _ (s : List ℕ) (at : ℕ) (inside-text : at < length s) where
    drop_more : (more : ℕ) → drop more (drop (suc at) s) ≡ drop (at + suc more) s
    drop_more more = drop-drop more (suc at) s ∙ ap (λ (n : ℕ). drop n s) (suc-add at more ∙ sym (add-suc at more))

    from_here : (i : Item) → item_at sw s at ≡ i → tokens_from sw s at ≡ from_item at (drop (suc at) s) i
    unfolding item_at tokens_from
    from_here i e = ap (cut sw 0 at) (drop-cons s at 0 inside-text) ∙ cut_item at (get_or s at 0) (drop (suc at) s) ∙ ap (from_item at (drop (suc at) s)) e

    pub from_gap : (more : ℕ) → item_at sw s at ≡ gap more → tokens_from sw s at ≡ tokens_from sw s (at + suc more)
    unfolding from_item tokens_from
    from_gap more e = from_here (gap more) e ∙ ap (cut sw 0 (at + suc more)) (drop_more more)

    pub from_token : (form : Form) (more : ℕ) → item_at sw s at ≡ token form more
        → tokens_from sw s at ≡ next (record { form = form; start = at; stop = at + suc more }) (tokens_from sw s (at + suc more))
    unfolding from_item tokens_from
    from_token form more e =
        from_here (token form more) e
        ∙ ap (λ (l : List ℕ). next (record { form = form; start = at; stop = at + suc more }) (cut sw 0 (at + suc more) l)) (drop_more more)

    pub from_fault : (number : ℕ) → item_at sw s at ≡ fault number → tokens_from sw s at ≡ Tokens.fault number at
    unfolding from_item
    from_fault number e = from_here (fault number) e

    -- the item at a place ends within the text
    pub item_at_ends : EndsBy (length s - suc at) (item_at sw s at)
    unfolding item_at
    item_at_ends = subst (λ (n : ℕ). EndsBy n (item sw (get_or s at 0) (drop (suc at) s))) (length-drop (suc at) s) (item_ends sw (get_or s at 0) (drop (suc at) s))

  pub from_end : (s : List ℕ) → tokens_from sw s (length s) ≡ end (length s)
  unfolding tokens_from
  from_end s = ap (cut sw 0 (length s)) (drop-length s) ∙ cut_end (length s)

-- ---- tokens stand one after the other within the text

-- from `at` on, and to before `n`
unfoldable pub Within : (n at : ℕ) → Tokens → Type 0
Within n at (next t ts) = (at ≤ t.start) × (t.start < t.stop) × (t.stop ≤ n) × Within n t.stop ts
Within n at (end place) = place ≡ n
Within n at (Tokens.fault number place) = place < n

within_from : (n at at' : ℕ) (ts : Tokens) → at' ≤ at → Within n at ts → Within n at' ts
unfolding Within
within_from n at at' (next t ts) h w = (le_trans h w.0, w.1, w.2, w.3)
within_from n at at' (end place) h w = w
within_from n at at' (Tokens.fault number place) h w = w

item_within : (n at : ℕ) (i : Item) (rest : ℕ → Tokens) → EndsBy n i
    → ((more : ℕ) → more ≤ n → Within (suc at + n) (suc at + more) (rest more)) → Within (suc at + n) at (after_item at i rest)
unfolding Within EndsBy after_item
item_within n at (gap more) rest h k = within_from (suc at + n) (suc at + more) at (rest more) (omega arith) (k more h)
item_within n at (token form more) rest h k =
    (le_refl at, omega arith, omega arith, within_from (suc at + n) (suc at + more) (at + suc more) (rest more) (omega arith) (k more h))
item_within n at (fault number) rest h k = omega arith

module _ (sw : Switches) where
  pub cut_within : (left at : ℕ) (s : List ℕ) → left ≤ length s → Within (at + length s) (at + left) (cut sw left at s)
  unfolding cut Within
  cut_within left at [] h = omega arith
  cut_within (suc left) at (b ∷ s) h =
      let e : suc at + length s ≡ at + suc (length s) = omega arith in
      let f : suc at + left ≡ at + suc left = omega arith in
      subst (λ (n : ℕ). Within (at + suc (length s)) n (cut sw left (suc at) s)) f
      (subst (λ (n : ℕ). Within n (suc at + left) (cut sw left (suc at) s)) e (cut_within left (suc at) s (omega arith)))
  cut_within zero at (b ∷ s) h =
      let e : suc at + length s ≡ at + suc (length s) = omega arith in
      let f : at ≡ at + 0 = omega arith in
      subst (λ (n : ℕ). Within (at + suc (length s)) n (after_item at (item sw b s) (λ more. cut sw more (suc at) s))) f
      (subst (λ (n : ℕ). Within n at (after_item at (item sw b s) (λ more. cut sw more (suc at) s))) e
      (item_within (length s) at (item sw b s) (λ more. cut sw more (suc at) s) (item_ends sw b s) (λ more k. cut_within more (suc at) s k)))

  pub tokens_within : (s : List ℕ) → Within (length s) 0 (tokens sw s)
  unfolding tokens
  tokens_within s =
      let e : 0 + length s ≡ length s = omega arith in
      subst (λ (n : ℕ). Within n 0 (cut sw 0 0 s)) e (cut_within 0 0 s zero-le)
