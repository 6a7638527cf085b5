-- A text up to the end of some of its first tokens: with other bytes behind it that no word or number goes on with, it has the same tokens first,
-- and it is UTF-8 if the text is.
-- Assumes nothing.
use mathlib.Core.Path.{◌≡◌, refl, sym, ap, ◌∙◌, subst}
use Prim.Native.Nat.{ℕ, suc, ◌+◌, ◌≤◌}
use native.Mathlib.Omega.{arith}
use mathlib.Core.Bool.{true, false}
use mathlib.Core.List.{List, [], ◌∷◌, ◌++◌, append_assoc}
use lib.ListN.{length, length-append, take, drop, get_or, take-append-drop}
use lib.Seq.{take_at, drop_at, take-suc, drop-cons, get_or-drop}
use borrow.Author.Tests.{le-leb}
use Rattle.text.specs.declared.switches.Switches.{Switches}
use Rattle.text.specs.Bytes.{feed}
use Rattle.text.specs.Utf8.{lead, utf8_step, utf8, is_whole}
use Rattle.text.proofs.Utf8Join.{AsciiHead, utf8_front, utf8_append}
use Rattle.lexer.specs.Token.{Form, token, item, Token, Tokens, cut, tokens}
use Rattle.lexer.proofs.Seams.{heads, goes_on, form_ends}
use Rattle.lexer.proofs.LastLaws.{LowLast, item_low}
use Rattle.lexer.proofs.SeamLaws.{cut_token}
use Rattle.lexer.proofs.WalkLaws.{here, past, took, Follows, walk_before, place_on}
use Rattle.lexer.proofs.ItemLaws.{Adds, Items, leads, items_cut, cut_behind}

-- ---- UTF-8 behind an ASCII byte

utf8_one : (c : ℕ) → c ≤ 127 → is_whole (utf8 (c ∷ [])) ≡ true
unfolding utf8 feed utf8_step lead is_whole
utf8_one c h = rw (le-leb c 0x7F h) refl

utf8_last : (a z : List ℕ) (n : ℕ) → length a ≡ suc n → get_or (a ++ z) n 0 ≤ 127 → is_whole (utf8 (a ++ z)) ≡ true → is_whole (utf8 a) ≡ true
unfolding AsciiHead
utf8_last a z n e h w =
    let l = a ++ z in
    let m = length-append a z in
    let split : take n l ++ (get_or l n 0 ∷ drop (suc n) l) ≡ l =
    ap (λ (y : List ℕ). take n l ++ y) (sym (drop-cons l n 0 (omega arith))) ∙ take-append-drop n l in
    let f = utf8_front (take n l) (get_or l n 0 ∷ drop (suc n) l) h (ap (λ (y : List ℕ). is_whole (utf8 y)) split ∙ w) in
    ap (λ (y : List ℕ). is_whole (utf8 y)) (sym (take_at a z (suc n) e) ∙ take-suc l n 0 (omega arith))
    ∙ utf8_append (take n l) (get_or l n 0 ∷ []) f ∙ utf8_one (get_or l n 0) h

-- ---- up to the end of tokens

-- where the last of the tokens ends, or `from` if there is none
unfoldable pub end_of : (from : ℕ) → List Token → ℕ
end_of from [] = from
end_of from (t ∷ ts) = end_of t.stop ts

pub end_last : (from : ℕ) (ts : List Token) (u : Token) → end_of from (ts ++ (u ∷ [])) ≡ u.stop
unfolding end_of
end_last from [] u = refl
end_last from (t ∷ ts) u = end_last t.stop ts u

-- the bytes of s, which stands at `from`, up to the end of the tokens ts
record UpTo (sw : Switches) (from : ℕ) (s : List ℕ) (ts : List Token) : Type 0 where
  pre : List ℕ
  rest : List ℕ
  joined : pre ++ rest ≡ s
  place : from + length pre ≡ end_of from ts
  same : (y : List ℕ) → heads goes_on y ≡ false → Items sw from pre y ts
  whole : is_whole (utf8 (pre ++ rest)) ≡ true → is_whole (utf8 pre) ≡ true

took_whole : (sw : Switches) (pre : List ℕ) (b : ℕ) (x z : List ℕ) (form : Form) → item sw b (x ++ z) ≡ token form (length x)
    → is_whole (utf8 ((pre ++ (b ∷ x)) ++ z)) ≡ true → is_whole (utf8 (pre ++ (b ∷ x))) ≡ true
unfolding LowLast
took_whole sw pre b x z form e w =
    let all = (pre ++ (b ∷ x)) ++ z in
    let m = length-append pre (b ∷ x) in
    let low : get_or (b ∷ (x ++ z)) (length x) 0 ≤ 127 = subst (LowLast (b ∷ (x ++ z))) e (item_low sw b (x ++ z)) in
    let behind : drop (length pre) all ≡ b ∷ (x ++ z) =
    ap (drop (length pre)) (append_assoc pre (b ∷ x) z) ∙ drop_at pre (b ∷ (x ++ z)) (length pre) refl in
    let same : get_or (b ∷ (x ++ z)) (length x) 0 ≡ get_or all (length pre + length x) 0 =
    ap (λ (y : List ℕ). get_or y (length x) 0) (sym behind) ∙ get_or-drop (length pre) all (length x) 0 in
    utf8_last (pre ++ (b ∷ x)) z (length pre + length x) (omega arith) (subst (λ (c : ℕ). c ≤ 127) same low) w

up_to : (sw : Switches) (from : ℕ) {pre z : List ℕ} {ts : List Token} → Items sw from pre z ts → UpTo sw from (pre ++ z) ts
unfolding end_of Follows utf8 feed is_whole
up_to sw from (here {z = z}) = record { pre = []; rest = z; joined = refl; place = omega arith; same = λ y h. here; whole = λ _. refl }
up_to sw from (past pre b x {z = z} {s = ts} p e) =
    subst (λ (l : List ℕ). UpTo sw from l ts) (sym (append_assoc pre (b ∷ x) z)) (up_to sw from p)
up_to sw from (took pre b x form {z = z} {s = ts} p e m) =
    record {
      pre = pre ++ (b ∷ x);
      rest = z;
      joined = refl;
      place = sym (place_on sw Adds from [] pre b x) ∙ sym (ap (end_of from) m ∙ end_last from ts (cut_token form (from + length pre) (length x)));
      same = λ y h. walk_before sw Adds from [] (took pre b x form p e m) y (form_ends form z y h);
      whole = took_whole sw pre b x z form e;
    }

module _ (sw : Switches) (s : List ℕ) (ts : List Token) (r : Tokens) (e : tokens sw s ≡ leads ts r) where
  front_of : UpTo sw 0 s ts
  unfolding tokens
  front_of = let w = cut_behind sw 0 s ts r e in subst (λ (l : List ℕ). UpTo sw 0 l ts) w.joined (up_to sw 0 w.items)

  front_is : take (end_of 0 ts) s ≡ front_of.pre
  front_is =
      let w = front_of in
      let q = w.place in
      ap (take (end_of 0 ts)) (sym w.joined) ∙ take_at w.pre w.rest (end_of 0 ts) (omega arith)

  -- the same tokens first, before other bytes
  pub front_tokens : (y : List ℕ) → heads goes_on y ≡ false → tokens sw (take (end_of 0 ts) s ++ y) ≡ leads ts (cut sw 0 (end_of 0 ts) y)
  unfolding tokens
  front_tokens y h =
      ap (λ (l : List ℕ). cut sw 0 0 (l ++ y)) front_is ∙ items_cut sw 0 (front_of.same y h)
      ∙ ap (λ (n : ℕ). leads ts (cut sw 0 n y)) front_of.place

  pub front_whole : is_whole (utf8 s) ≡ true → is_whole (utf8 (take (end_of 0 ts) s)) ≡ true
  front_whole h =
      let w = front_of in
      ap (λ (l : List ℕ). is_whole (utf8 l)) front_is ∙ w.whole (ap (λ (l : List ℕ). is_whole (utf8 l)) w.joined ∙ h)
