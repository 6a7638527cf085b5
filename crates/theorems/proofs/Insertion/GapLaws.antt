-- What is inserted is passed over by the cutting into tokens, whatever follows it; it is UTF-8; and no word or number goes on with it.
-- Assumes nothing.
use mathlib.Core.Path.{◌≡◌, refl, sym, ap, ◌∙◌, subst}
use Prim.Native.Nat.{ℕ, suc, ◌+◌}
use native.Mathlib.Omega.{arith}
use mathlib.Core.Bool.{Bool, true, false, not, cond, ◌&&◌, ◌||◌}
use mathlib.Core.List.{List, [], ◌∷◌, ◌++◌, append_assoc}
use lib.Dec.{T}
use lib.ListN.{length, length-append}
use borrow.Author.Tests.{not-true}
use Rattle.text.specs.declared.switches.Switches.{Switches}
use Rattle.text.specs.Bytes.{feed, front, starts_with, one_of, is, is_space, ascii, class_of, is_number_byte, is_word_byte, is_letter_or_digit}
use Rattle.text.specs.Utf8.{lead, utf8_step, utf8, is_whole, is_utf8}
use Rattle.text.proofs.Choice.{cond-true, cond-false, and_left, and_right, or_left, or_right}
use Rattle.text.proofs.ClassLaws.{space_of}
use Rattle.text.proofs.FeedLaws.{feed_stays}
use Rattle.text.proofs.Utf8Join.{utf8_append}
use Rattle.lexer.specs.declared.closing.Block.{Block}
use Rattle.lexer.specs.declared.closing.Block.TheVariants as B
use Rattle.lexer.specs.Closing.{block_step, block, not_newline}
use Rattle.lexer.specs.Token as L
use Rattle.lexer.specs.Token.{Form, block_item, comment, item_of, item, cut}
use Rattle.lexer.proofs.Seams.{heads, Seam, goes_on, FormSeam, ItemSeam, form_ends, all_seam}
use Rattle.lexer.proofs.SeamLaws.{cut_past}
use Rattle.theorems.specs.Insertion as I
use Rattle.theorems.specs.Insertion.{Gap, line_feed, gap_bytes, every, holds_end, is_gap}

-- ---- one space or comment

space_item : (sw : Switches) (b : ℕ) (s : List ℕ) → T (is_space b) → item sw b s ≡ L.gap 0
unfolding item item_of class_of
space_item sw b s t = space_of (λ (c : ℕ). item sw c s ≡ L.gap 0) b t refl refl refl refl

front_every : (body : List ℕ) (c : ℕ) (z : List ℕ) → every not_newline body ≡ true → not_newline c ≡ false
    → front not_newline (body ++ (c ∷ z)) ≡ length body
unfolding front every
front_every [] c z e f = cond-false (not_newline c) (suc (front not_newline z)) 0 f
front_every (b ∷ s) c z e f =
    cond-true (not_newline b) (suc (front not_newline (s ++ (c ∷ z)))) 0 (and_left (not_newline b) (every not_newline s) e)
    ∙ ap suc (front_every s c z (and_right (not_newline b) (every not_newline s) e) f)

and_one : (t : Bool) → t && true ≡ false → t ≡ false
and_one true e = e
and_one false e = refl

-- a block comment ends at its own `*/`; `star`: the byte before was a star
block_on : (star : Bool) (n : ℕ) (body z : List ℕ) → (star && starts_with (ascii "/") body) || holds_end body ≡ false
    → feed block_step (cond star (B.Starred n) (B.Inside n)) (body ++ (42 ∷ 47 ∷ z)) ≡ B.Closed (n + length body + 2)
unfolding feed block_step holds_end starts_with
block_on true n [] z e = let q : suc (suc n) ≡ n + 0 + 2 = omega arith in feed_stays block_step (B.Closed (suc (suc n))) (λ b. refl) z ∙ ap B.Closed q
block_on false n [] z e = let q : suc (suc n) ≡ n + 0 + 2 = omega arith in feed_stays block_step (B.Closed (suc (suc n))) (λ b. refl) z ∙ ap B.Closed q
block_on true n (b ∷ s) z e =
    let q : suc n + length s + 2 ≡ n + suc (length s) + 2 = omega arith in
    let h = or_right (is "/" b && true) ((is "*" b && starts_with (ascii "/") s) || holds_end s) e in
    ap (λ (st : Block). feed block_step st (s ++ (42 ∷ 47 ∷ z)))
    (cond-false (is "/" b) (B.Closed (suc n)) (cond (is "*" b) (B.Starred (suc n)) (B.Inside (suc n)))
    (and_one (is "/" b) (or_left (is "/" b && true) ((is "*" b && starts_with (ascii "/") s) || holds_end s) e)))
    ∙ block_on (is "*" b) (suc n) s z h ∙ ap B.Closed q
block_on false n (b ∷ s) z e =
    let q : suc n + length s + 2 ≡ n + suc (length s) + 2 = omega arith in
    block_on (is "*" b) (suc n) s z e ∙ ap B.Closed q

block_item_law : (sw : Switches) (body z : List ℕ) → holds_end body ≡ false → item sw 47 (42 ∷ (body ++ (42 ∷ 47 ∷ z))) ≡ L.gap (suc (length body + 2))
unfolding item item_of class_of one_of comment block block_item
block_item_law sw body z e =
    let q : 0 + length body + 2 ≡ length body + 2 = omega arith in
    ap block_item (block_on false 0 body z e) ∙ ap (λ (n : ℕ). L.gap (suc n)) q

line_item : (sw : Switches) (body : List ℕ) (c : ℕ) (z : List ℕ) → every not_newline body ≡ true → not_newline c ≡ false
    → item sw 47 (47 ∷ (body ++ (c ∷ z))) ≡ L.gap (suc (length body))
unfolding item item_of class_of one_of comment
line_item sw body c z e f = ap (λ (n : ℕ). L.gap (suc n)) (front_every body c z e f)

-- ---- what is inserted

-- bytes that may stand anywhere between tokens
pub record Blank (l : List ℕ) : Type 0 where
  pub pass : (sw : Switches) (at : ℕ) (z : List ℕ) → cut sw 0 at (l ++ z) ≡ cut sw 0 (at + length l) z
  pub whole : is_whole (utf8 l) ≡ true
  pub seam : (form : Form) (z y : List ℕ) → ((p : ℕ → Bool) → Seam p z y) → FormSeam form z (l ++ y)

pub blank_none : Blank []
unfolding utf8 feed is_whole ItemSeam
blank_none =
    record {
      pass = λ sw at z. let e : at ≡ at + 0 = omega arith in ap (λ (n : ℕ). cut sw 0 n z) e;
      whole = refl;
      seam = λ form z y h. all_seam [] (L.token form 0) z y h;
    }

-- such bytes, and others behind them
blank_more : (c : ℕ) (l m : List ℕ) → ((sw : Switches) (at : ℕ) (z : List ℕ) → cut sw 0 at (c ∷ (l ++ z)) ≡ cut sw 0 (at + suc (length l)) z)
    → is_whole (utf8 (c ∷ l)) ≡ true → goes_on c ≡ false → Blank m → Blank ((c ∷ l) ++ m)
unfolding heads
blank_more c l m p w h b =
    let q = length-append (c ∷ l) m in
    record {
      pass =
          λ sw at z.
          let e : at + suc (length l) + length m ≡ at + length ((c ∷ l) ++ m) = omega arith in
          ap (cut sw 0 at) (append_assoc (c ∷ l) m z) ∙ p sw at (m ++ z) ∙ b.pass sw (at + suc (length l)) z ∙ ap (λ (n : ℕ). cut sw 0 n z) e;
      whole = utf8_append (c ∷ l) m w ∙ b.whole;
      seam = λ form z y k. form_ends form z (((c ∷ l) ++ m) ++ y) h;
    }

space_blank : (b : ℕ) (m : List ℕ) → T (is_space b) → Blank m → Blank ((b ∷ []) ++ m)
unfolding goes_on is_number_byte is_word_byte is_letter_or_digit utf8 feed utf8_step lead is_whole
space_blank b m t k =
    blank_more b [] m (λ sw at z. cut_past sw at b [] z (space_item sw b z t))
    (space_of (λ (c : ℕ). is_whole (utf8 (c ∷ [])) ≡ true) b t refl refl refl refl)
    (space_of (λ (c : ℕ). goes_on c ≡ false) b t refl refl refl refl) k

-- UTF-8 between ASCII marks
framed : (a s z : List ℕ) → is_whole (utf8 a) ≡ true → is_whole (utf8 s) ≡ true → is_whole (utf8 z) ≡ true → is_whole (utf8 (a ++ (s ++ z))) ≡ true
framed a s z h k m = utf8_append a (s ++ z) h ∙ utf8_append s z k ∙ m

-- `//`, a body and what ends the line
line_on : (body : List ℕ) (c : ℕ) (r m : List ℕ) → is_utf8 body ≡ true → every not_newline body ≡ true → not_newline c ≡ false → is_whole (utf8 (c ∷ r)) ≡ true
    → ((sw : Switches) (at : ℕ) (z : List ℕ) → cut sw 0 at (c ∷ (r ++ z)) ≡ cut sw 0 (at + suc (length r)) z) → Blank m
    → Blank ((ascii "//" ++ (body ++ (c ∷ r))) ++ m)
unfolding goes_on is_number_byte is_word_byte is_letter_or_digit is_utf8 utf8 feed utf8_step lead is_whole
line_on body c r m u e f w p k =
    blank_more 47 (47 ∷ (body ++ (c ∷ r))) m
    (λ sw at z.
    let l = length-append body (c ∷ r) in
    let n : at + suc (length (47 ∷ body)) + suc (length r) ≡ at + suc (length (47 ∷ (body ++ (c ∷ r)))) = omega arith in
    ap (λ (y : List ℕ). cut sw 0 at (47 ∷ 47 ∷ y)) (append_assoc body (c ∷ r) z)
    ∙ cut_past sw at 47 (47 ∷ body) (c ∷ (r ++ z)) (line_item sw body c (r ++ z) e f)
    ∙ p sw (at + suc (length (47 ∷ body))) z ∙ ap (λ (i : ℕ). cut sw 0 i z) n)
    (framed (47 ∷ 47 ∷ []) body (c ∷ r) refl u w) refl k

line_blank : (return : Bool) (body m : List ℕ) → is_utf8 body ≡ true → every not_newline body ≡ true → Blank m
    → Blank (gap_bytes (I.line return body) ++ m)
unfolding gap_bytes line_feed not_newline utf8 feed utf8_step lead is_whole
line_blank false body m u e k = line_on body 10 [] m u e refl refl (λ sw at z. cut_past sw at 10 [] z (space_item sw 10 z tt)) k
line_blank true body m u e k =
    line_on body 13 (10 ∷ []) m u e refl refl
    (λ sw at z.
    let n : at + 1 + 1 ≡ at + 2 = omega arith in
    cut_past sw at 13 [] (10 ∷ z) (space_item sw 13 (10 ∷ z) tt) ∙ cut_past sw (at + 1) 10 [] z (space_item sw 10 z tt)
    ∙ ap (λ (i : ℕ). cut sw 0 i z) n) k

block_blank : (body m : List ℕ) → is_utf8 body ≡ true → holds_end body ≡ false → Blank m → Blank (gap_bytes (I.block body) ++ m)
unfolding goes_on is_number_byte is_word_byte is_letter_or_digit is_utf8 gap_bytes utf8 feed utf8_step lead is_whole
block_blank body m u e k =
    blank_more 47 (42 ∷ (body ++ (42 ∷ 47 ∷ []))) m
    (λ sw at z.
    let l = length-append body (42 ∷ 47 ∷ []) in
    let n : suc (length body + 2) ≡ length (42 ∷ (body ++ (42 ∷ 47 ∷ []))) = omega arith in
    cut_past sw at 47 (42 ∷ (body ++ (42 ∷ 47 ∷ []))) z
    (ap (λ (y : List ℕ). item sw 47 (42 ∷ y)) (append_assoc body (42 ∷ 47 ∷ []) z) ∙ block_item_law sw body z e ∙ ap L.gap n))
    (framed (47 ∷ 42 ∷ []) body (42 ∷ 47 ∷ []) refl u refl) refl k

pub gap_blank : (x : Gap) (m : List ℕ) → is_gap x ≡ true → Blank m → Blank (gap_bytes x ++ m)
unfolding is_gap gap_bytes
gap_blank (I.space b) m e k = space_blank b m (subst T (sym e) tt) k
gap_blank (I.line return body) m e k = line_blank return body m (and_left (is_utf8 body) (every not_newline body) e) (and_right (is_utf8 body) (every not_newline body) e) k
gap_blank (I.block body) m e k =
    block_blank body m (and_left (is_utf8 body) (not (holds_end body)) e) (not-true (holds_end body) (and_right (is_utf8 body) (not (holds_end body)) e)) k
