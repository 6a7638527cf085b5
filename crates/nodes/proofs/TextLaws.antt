-- Each token of a text is the item at its place, and the content of a string or key is that of its span: so it can be asked of the text by
-- the span alone.
-- Assumes nothing.
use mathlib.Core.Path.{◌≡◌, refl, sym, ap, ◌∙◌, subst}
use Prim.Native.Nat.{ℕ, zero, suc, ◌+◌, ◌-◌, ◌≤◌, ◌<◌}
use native.Mathlib.Decide.{dec_lt}
use native.Mathlib.Omega.{arith}
use mathlib.Core.Bool.{Bool, true, cond}
use mathlib.Core.Option.{none, some}
use mathlib.Core.List.{List, [], ◌∷◌}
use lib.ListN.{length, get_or, take, drop, length-drop, drop_of_length-le, take-append-drop}
use lib.Seq.{drop-cons, take-suc}
use borrow.Author.Tests.{le-leb}
use Rattle.text.specs.declared.switches.Switches.{Switches}
use Rattle.text.specs.Bytes.{feed}
use Rattle.text.specs.Utf8.{lead, utf8_step, utf8, is_whole, is_utf8}
use Rattle.text.proofs.Utf8Join.{AsciiHead, utf8_front, utf8_append}
use Rattle.lexer.specs.Token as L
use Rattle.lexer.specs.Token.{Item, Token, Tokens, item, item_at, after_item, cut, key_content, token_content}
use Rattle.lexer.proofs.Seams.{EndsAt}
use Rattle.lexer.proofs.FirstLaws.{item_ascii}
use Rattle.lexer.proofs.LastLaws.{LowLast, item_low}
use Rattle.lexer.proofs.AloneLaws.{token_within, token_alone}
use Rattle.reader.specs.Reading.{max_text}
use Rattle.reader.specs.Content.{is_span, content_alone, span_content}

module _ (sw : Switches) (s : List ℕ) where
  -- ---- each token is the item at its place

  pub record TokenIn (t : Token) : Type 0 where
    pub rest : ℕ
    pub inside : t.start < length s
    pub item_is : item_at sw s t.start ≡ L.token t.form rest
    pub stop_is : t.stop ≡ t.start + suc rest

  unfoldable pub TokensIn : Tokens → Type 0
  TokensIn (L.next t ts) = TokenIn t × TokensIn ts
  TokensIn (L.end place) = Unit {0}
  TokensIn (Tokens.fault number place) = Unit {0}

  record Split (at b : ℕ) (l : List ℕ) : Type 0 where
    inside : at < length s
    first : get_or s at 0 ≡ b
    others : drop (suc at) s ≡ l

  split : (at b : ℕ) (l : List ℕ) → drop at s ≡ b ∷ l → Split at b l
  split at b l q =
      elim (dec_lt at (length s)) [
        | yes h ↦ let e : get_or s at 0 ∷ drop (suc at) s ≡ b ∷ l = sym (drop-cons s at 0 h) ∙ q in record { inside = h; first = cc; others = cc }
        | no h ↦
            let g : length s ≤ at = omega arith in
            let e : [] ≡ b ∷ l = sym (drop_of_length-le s g) ∙ q in
            let v : ◌≡◌ {A = ℕ} 0 1 = cc in
            absurd (omega arith)
      ]

  item_in : (at b : ℕ) (l : List ℕ) → drop at s ≡ b ∷ l → (i : Item) → item sw b l ≡ i → (rest : ℕ → Tokens) → ((n : ℕ) → TokensIn (rest n))
      → TokensIn (after_item at i rest)
  unfolding after_item TokensIn item_at
  item_in at b l q (L.gap n) e rest k = k n
  item_in at b l q (L.token form n) e rest k =
      let p = split at b l q in
      (record { rest = n; inside = p.inside; item_is = (λ i. item sw (p.first i) (p.others i)) ∙ e; stop_is = refl }, k n)
  item_in at b l q (L.fault n) e rest k = tt

  pub cut_in : (left at : ℕ) (l : List ℕ) → drop at s ≡ l → TokensIn (cut sw left at l)
  unfolding cut TokensIn
  cut_in left at [] q = tt
  cut_in (suc left) at (b ∷ l) q = cut_in left (suc at) l (split at b l q).others
  cut_in zero at (b ∷ l) q = item_in at b l q (item sw b l) refl (λ n. cut sw n (suc at) l) (λ n. cut_in n (suc at) l (split at b l q).others)

  -- ---- a token's bytes are UTF-8

  one_low : (l : ℕ) → l ≤ 127 → is_whole (utf8 (l ∷ [])) ≡ true
  unfolding utf8 feed utf8_step lead is_whole
  one_low l h = rw (le-leb l 127 h)

  module _ (whole : is_whole (utf8 s) ≡ true) (short : length s ≤ max_text) (t : Token) (I : TokenIn t) where
    -- what stands from the token on
    abbrev here : List ℕ
    here = drop t.start s

    opened : here ≡ get_or s t.start 0 ∷ drop (suc t.start) s
    opened = drop-cons s t.start 0 I.inside

    low_first : AsciiHead here
    unfolding AsciiHead EndsAt item_at
    low_first =
        subst AsciiHead (sym opened) (item_ascii sw I.rest (get_or s t.start 0) (drop (suc t.start) s) (subst (EndsAt I.rest) (sym I.item_is) refl))

    whole_here : is_whole (utf8 here) ≡ true
    whole_here =
        let w = ap (λ (l : List ℕ). is_whole (utf8 l)) (take-append-drop t.start s) ∙ whole in
        sym (utf8_append (take t.start s) here (utf8_front (take t.start s) here low_first w)) ∙ w

    within_here : I.rest < length here
    within_here =
        let w = token_within sw s t.start I.rest t.form I.inside I.item_is in
        let d = length-drop t.start s in
        omega arith

    low_last : get_or here I.rest 0 ≤ 127
    unfolding LowLast item_at
    low_last =
        subst (λ (l : List ℕ). get_or l I.rest 0 ≤ 127) (sym opened)
        (subst (LowLast (get_or s t.start 0 ∷ drop (suc t.start) s)) I.item_is (item_low sw (get_or s t.start 0) (drop (suc t.start) s)))

    whole_token : is_whole (utf8 (take (suc I.rest) here)) ≡ true
    unfolding AsciiHead
    whole_token =
        let w = ap (λ (l : List ℕ). is_whole (utf8 l)) (take-append-drop I.rest here) ∙ whole_here in
        let h = subst AsciiHead (sym (drop-cons here I.rest 0 within_here)) low_last in
        ap (λ (l : List ℕ). is_whole (utf8 l)) (take-suc here I.rest 0 within_here)
        ∙ utf8_append (take I.rest here) (get_or here I.rest 0 ∷ []) (utf8_front (take I.rest here) (drop I.rest here) h w)
        ∙ one_low (get_or here I.rest 0) low_last

    -- the content of the token's span is that of its form
    pub span_content_law : (c : List ℕ) → key_content t.form ≡ some c → span_content sw t.start t.stop s ≡ some c
    unfolding span_content content_alone is_span is_utf8
    span_content_law c e =
        let w = token_within sw s t.start I.rest t.form I.inside I.item_is in
        let q = I.stop_is in
        let a : t.start ≤ t.stop = omega arith in
        let b : t.stop ≤ length s = omega arith in
        let d : t.stop - t.start ≤ max_text = omega arith in
        let n : t.stop - t.start ≡ suc I.rest = omega arith in
        ap (λ (x : Bool). cond x (cond (is_whole (utf8 (take (t.stop - t.start) here))) (token_content sw (take (t.stop - t.start) here)) none) none) span_true
        ∙ ap (λ (k : ℕ). cond (is_whole (utf8 (take k here))) (token_content sw (take k here)) none) n
        ∙ ap (λ (x : Bool). cond x (token_content sw (take (suc I.rest) here)) none) whole_token
        ∙ token_alone sw s t.start I.rest t.form I.inside I.item_is
        ∙ e
      where
        span_true : is_span t.start t.stop s ≡ true
        span_true =
            let w = token_within sw s t.start I.rest t.form I.inside I.item_is in
            let q = I.stop_is in
            let a : t.start ≤ t.stop = omega arith in
            let b : t.stop ≤ length s = omega arith in
            let d : t.stop - t.start ≤ max_text = omega arith in
            rw (le-leb t.start t.stop a, le-leb t.stop (length s) b, le-leb (t.stop - t.start) max_text d)
