-- A string or key by itself: where its content stands, and what the item at its start says of it.
-- Assumes nothing.
use Rattle.std.specs.Prelude.{Ok, Err}
use mathlib.Core.Path.{◌≡◌, refl, sym, ap, ◌∙◌, subst}
use Prim.Native.Nat.{ℕ, suc, ◌+◌, ◌-◌, ◌≤◌, ◌<◌}
use native.Mathlib.Omega.{arith}
use mathlib.Core.Bool.{Bool, true, false, cond, ◌&&◌, false≢true}
use mathlib.Core.Option.{Option, none, some}
use mathlib.Core.List.{List, [], ◌∷◌}
use lib.Dec.{T, eqb, eqb→eq}
use lib.ListN.{length, take, drop, get_or, length-drop}
use lib.Seq.{take_all}
use borrow.Author.Tests.{eq-eqb, ne_eqb, eqb-true, eqb-false, lt-ltb}
use Rattle.text.specs.declared.switches.Switches.{Switches}
use Rattle.text.specs.Bytes.{front, is, Class, class_of, class_number, one_of, is_word_byte, is_number_byte}
use Rattle.text.specs.Utf8.{is_utf8}
use Rattle.literals.specs.declared.decoder.Body.{Body}
use Rattle.literals.specs.declared.decoder.Decoder.TheVariants as D
use Rattle.std.specs.declared.result.Result.TheVariants as W
use Rattle.literals.specs.declared.content.ContentError.TheVariants.{NoContent}
use Rattle.literals.specs.Content.{decoded, start_of, content, only_utf8, content_of, fitted, placed, same_content}
use Rattle.literals.proofs.PairLaws.{letters_own}
use Rattle.literals.specs.Number.{Meaning}
use Rattle.std.specs.declared.result.Result.TheVariants.{Ok, Err}
use Rattle.literals.specs.declared.number.NumberValue.TheVariants as N
use Rattle.literals.specs.declared.number.NumberError.TheVariants as E
use Rattle.literals.specs.Number.{number}
use Rattle.literals.specs.Word.{has_shape}
use Rattle.lexer.specs.declared.closing.Closing.{Closing}
use Rattle.lexer.specs.declared.closing.Closing.TheVariants as C
use Rattle.lexer.specs.declared.closing.Block.{Block}
use Rattle.lexer.specs.declared.closing.Block.TheVariants as B
use Rattle.lexer.specs.declared.item.TokenKind.{TokenKind}
use Rattle.lexer.specs.declared.item.Found.{Found}
use Rattle.lexer.specs.declared.item.Found.TheVariants as F
use Rattle.lexer.specs.declared.item.Token as CT
use Rattle.lexer.specs.declared.item.Next.{Next}
use Rattle.std.specs.declared.result.Result.{Result}
use Rattle.text.specs.Refusal.{Refusal}
use Rattle.lexer.specs.declared.item.Next.TheVariants as X
use Rattle.lexer.specs.declared.opening.StringHead.{StringHead}
use Rattle.lexer.specs.declared.opening.Opening.{Opening}
use Rattle.lexer.specs.declared.opening.Opening.TheVariants as O
use Rattle.lexer.specs.declared.token.Part.{Part}
use Rattle.lexer.specs.Closing.{closing, block, not_newline}
use Rattle.lexer.specs.Token.{Form, mark, word, text, bytes, integer, decimal, Item, gap, token, fault, block_item, comment, content_item, closed_item, has_escapes, string_item, string_form, word_item, meant_item, number_item, item_of, item, item_at, key_content, whole_item, tokens_from, token_content}
use Rattle.lexer.specs.Opening.{opening_of, opened_item, word_part, opened_part, part_of}
use Rattle.lexer.specs.Answer.{kind_of, found, found_at, token_next, refused_next, first_of}
use Rattle.lexer.specs.Internal.{holds_content, has_content, Keyed}
use Rattle.lexer.proofs.ClosingLaws.{closed_within}
use Rattle.lexer.proofs.OpeningLaws.{head_within, may_open, opening_item, opening_none}
use Rattle.lexer.proofs.NextLaws.{found_token, item_there, after_gap, at_token, at_fault, at_end_law, next_ahead}

-- ---- what the laws say

-- the bytes s are one string or key, and i is the item that they are
record KeyedAs (sw : Switches) (s : List ℕ) (i : Item) : Type 0 where
  pub content : List ℕ
  pub is : token_content sw s ≡ some content
  pub whole : whole_item (length s - 1) i ≡ some content

-- the content of a string or key is that of a part of it
pub record PartIs (sw : Switches) (s : List ℕ) (p : Part) : Type 0 where
  pub forward : p.span.start ≤ p.span.stop
  pub inside : p.span.stop ≤ length s
  pub holds : content_of sw p.is_text p.body (take (p.span.stop - p.span.start) (drop p.span.start s)) ≡ token_content sw s

-- ---- contents that are there

no_content : (c : List ℕ) → none ≡ some c → ⊥
no_content c e = let z : ◌≡◌ {A = ℕ} 0 1 = cc in omega arith

-- a choice between a content and none
chosen : (t : Bool) (x c : List ℕ) → cond t (some x) none ≡ some c → (t ≡ true) × (x ≡ c)
chosen true x c e = (refl, (cc))
chosen false x c e = absurd (no_content c e)

none_both : (t : Bool) (c : List ℕ) → cond t none none ≡ some c → ⊥
none_both true c e = no_content c e
none_both false c e = no_content c e

same_by : (m n : ℕ) → eqb m n ≡ true → m ≡ n
same_by m n e = eqb→eq m n (subst T (sym e) tt)

-- ---- strings

form_content : (isText : Bool) (x : List ℕ) → key_content (string_form isText x) ≡ some x
unfolding key_content
form_content true x = refl
form_content false x = refl

content_whole : (m : ℕ) (isText : Bool) (more : ℕ) (o : Option (List ℕ)) (c : List ℕ) → whole_item m (content_item isText more o) ≡ some c
    → (more ≡ m) × (o ≡ some c)
unfolding whole_item content_item
content_whole m isText more none c e = absurd (no_content c e)
content_whole m isText more (some x) c e =
    let f = chosen (eqb more m) x c (ap (λ (o : Option (List ℕ)). cond (eqb more m) o none) (sym (form_content isText x)) ∙ e) in
    (same_by more m f.0, ap some f.1)

module _ (sw : Switches) (isText : Bool) (body : Body) (head k m : ℕ) (l c : List ℕ) (m-is : m ≡ head + length l) where
  closed_whole : (x : Closing) → closing (has_escapes body) k l ≡ x → whole_item m (closed_item sw isText body head k l x) ≡ some c
      → (suc k ≤ length l) × (content_of sw isText body (take (length l - suc k) l) ≡ some c)
  unfolding closed_item whole_item
  closed_whole (C.Closed n) q e =
      let f = content_whole m isText (head + n) (content_of sw isText body (take (n - suc k) l)) c e in
      let w = closed_within (has_escapes body) k l n q in
      let g = f.0 in
      let j : n ≡ length l = omega arith in
      (omega arith, ap (λ (i : ℕ). content_of sw isText body (take (i - suc k) l)) (sym j) ∙ f.1)
  closed_whole (C.Inside n) q e = absurd (no_content c e)
  closed_whole (C.Escaped n) q e = absurd (no_content c e)
  closed_whole (C.Hashes j n) q e = absurd (no_content c e)

  -- a string that is all of a token has its content before the closing quote and its k hashes
  string_whole : whole_item m (string_item sw isText body head k l) ≡ some c
      → (suc k ≤ length l) × (content_of sw isText body (take (length l - suc k) l) ≡ some c)
  unfolding string_item
  string_whole e = closed_whole (closing (has_escapes body) k l) refl e

module _ (sw : Switches) (s : List ℕ) (h : StringHead) (some-before : 0 < h.before) (within : h.before ≤ length s) where
  -- such a string's part
  string_part : KeyedAs sw s (string_item sw h.is_text h.body (h.before - 1) h.hashes (drop h.before s))
      → PartIs sw s (opened_part (length s) (O.String h))
  unfolding opened_part
  string_part y =
      let d = length-drop h.before s in
      let w = string_whole sw h.is_text h.body (h.before - 1) h.hashes (length s - 1) (drop h.before s) y.content (omega arith) y.whole in
      let j : length s - 1 - h.hashes - h.before ≡ length (drop h.before s) - suc h.hashes = omega arith in
      record {
        forward = omega arith;
        inside = omega arith;
        holds = ap (λ (n : ℕ). content_of sw h.is_text h.body (take n (drop h.before s))) j ∙ w.1 ∙ sym y.is;
      }

-- ---- words

word_part_law : (sw : Switches) (s : List ℕ) → token_content sw s ≡ some s → PartIs sw s (word_part (length s))
unfolding content_of content start_of
word_part_law sw s e =
    record {
      forward = omega arith;
      inside = omega arith;
      holds = ap (decoded sw D.Letters) (take_all (length s - 0) s (omega arith)) ∙ letters_own sw s ∙ sym e;
    }

word_whole : (b : ℕ) (l c : List ℕ) → whole_item (length l) (word_item b l) ≡ some c → c ≡ b ∷ l
unfolding word_item whole_item key_content
word_whole b l c e = shaped (has_shape (b ∷ take (front is_word_byte l) l)) e
  where
    shaped : (t : Bool)
        → whole_item (length l) (cond t (token (word (b ∷ take (front is_word_byte l) l)) (front is_word_byte l)) (fault 3)) ≡ some c → c ≡ b ∷ l
    shaped true e =
        let f = chosen (eqb (front is_word_byte l) (length l)) (b ∷ take (front is_word_byte l) l) c e in
        let n = same_by (front is_word_byte l) (length l) f.0 in
        sym f.1 ∙ ap (b ∷◌) (ap (λ (n : ℕ). take n l) n ∙ take_all (length l) l (omega arith))
    shaped false e = absurd (no_content c e)

-- ---- what is no string and no word has no content

number_whole : (m more : ℕ) (x : Meaning) (c : List ℕ) → whole_item m (meant_item more x) ≡ some c → ⊥
unfolding meant_item whole_item key_content
number_whole m more (Ok (N.Integer z)) c e = none_both (eqb more m) c e
number_whole m more (Ok (N.Decimal minus d p)) c e = none_both (eqb more m) c e
number_whole m more (Err E.Malformed) c e = no_content c e
number_whole m more (Err E.TooWide) c e = no_content c e

block_whole : (m : ℕ) (x : Block) (c : List ℕ) → whole_item m (block_item x) ≡ some c → ⊥
unfolding block_item whole_item
block_whole m (B.Inside n) c e = no_content c e
block_whole m (B.Starred n) c e = no_content c e
block_whole m (B.Closed n) c e = no_content c e

comment_whole : (m : ℕ) (l c : List ℕ) → whole_item m (comment l) ≡ some c → ⊥
unfolding comment whole_item
comment_whole m [] c e = no_content c e
comment_whole m (b ∷ l) c e = opened (is "/" b) (is "*" b) e
  where
    opened : (t u : Bool) → whole_item m (cond t (gap (suc (front not_newline l))) (cond u (block_item (block l)) (fault 3))) ≡ some c → ⊥
    opened true u e = no_content c e
    opened false true e = block_whole m (block l) c e
    opened false false e = no_content c e

-- of the classes but the small letters and the quote only words have a content, and theirs is all of them
class_whole : (sw : Switches) (x : Class) (b : ℕ) (l c : List ℕ) → may_open (class_number x) ≡ false
    → whole_item (length l) (item_of sw x b l) ≡ some c → c ≡ b ∷ l
unfolding item_of may_open one_of class_number whole_item key_content number_item
class_whole sw Class.space b l c m e = absurd (no_content c e)
class_whole sw Class.digit b l c m e = absurd (number_whole (length l) (front is_number_byte l) (number (b ∷ take (front is_number_byte l) l)) c e)
class_whole sw Class.capital b l c m e = word_whole b l c e
class_whole sw Class.small b l c m e = absurd (false≢true (sym m))
class_whole sw Class.joiner b l c m e = joined (is "_" b) e
  where
    joined : (t : Bool) → whole_item (length l) (cond t (word_item b l) (number_item b l)) ≡ some c → c ≡ b ∷ l
    joined true e = word_whole b l c e
    joined false e = absurd (number_whole (length l) (front is_number_byte l) (number (b ∷ take (front is_number_byte l) l)) c e)
class_whole sw Class.quote b l c m e = absurd (false≢true (sym m))
class_whole sw Class.tick b l c m e = absurd (no_content c e)
class_whole sw Class.mark b l c m e = absurd (none_both (eqb 0 (length l)) c e)
class_whole sw Class.slash b l c m e = absurd (comment_whole (length l) l c e)
class_whole sw Class.plus b l c m e = absurd (number_whole (length l) (front is_number_byte l) (number (b ∷ take (front is_number_byte l) l)) c e)
class_whole sw Class.other b l c m e = absurd (no_content c e)

-- ---- the part of a string or key

-- its item is what opens there
opened_part_law : (sw : Switches) (s : List ℕ) (o : Opening) → opening_of sw s ≡ o → KeyedAs sw s (opened_item sw o s) → PartIs sw s (opened_part (length s) o)
unfolding opened_item opened_part whole_item token_content
opened_part_law sw s (O.String h) e y = let w = head_within sw s h e in string_part sw s h (omega arith) w.0 y
opened_part_law sw s O.Broken e y = absurd (no_content y.content y.whole)
opened_part_law sw s O.Nothing e y = word_part_law sw s (own s y)
  where
    own : (s : List ℕ) → KeyedAs sw s (word_item (get_or s 0 0) (drop 1 s)) → token_content sw s ≡ some s
    own [] y = absurd (no_content y.content y.is)
    own (b ∷ l) y =
        let j : length l ≡ suc (length l) - 1 = omega arith in
        y.is ∙ ap some (word_whole b l y.content (ap (λ (n : ℕ). whole_item n (word_item b l)) j ∙ y.whole))

-- the content of a string or key is that of its part
pub part_holds : (sw : Switches) (s : List ℕ) → Keyed sw s → PartIs sw s (part_of sw s)
unfolding token_content part_of opened_part item
part_holds sw [] y = absurd (no_content y.content y.is)
part_holds sw (b ∷ l) y = by (may_open (class_number (class_of b))) refl
  where
    by : (t : Bool) → may_open (class_number (class_of b)) ≡ t → PartIs sw (b ∷ l) (opened_part (suc (length l)) (opening_of sw (b ∷ l)))
    by true q =
        let j : suc (length l) - 1 ≡ length l = omega arith in
        opened_part_law sw (b ∷ l) (opening_of sw (b ∷ l)) refl
        (record {
          content = y.content;
          is = y.is;
          whole = (λ i. whole_item (j i) (sym (opening_item sw b l q) i)) ∙ y.is;
        })
    by false q =
        subst (λ (o : Opening). PartIs sw (b ∷ l) (opened_part (suc (length l)) o)) (sym (opening_none sw b l q))
        (word_part_law sw (b ∷ l)
        (y.is ∙ ap some (class_whole sw (class_of b) b l y.content q y.is)))

-- the same of what `part_of` answers
pub part_is : (sw : Switches) (s : List ℕ) (p : Part) → Keyed sw s → p ≡ part_of sw s → PartIs sw s p
part_is sw s p y e = subst (PartIs sw s) (sym e) (part_holds sw s y)

-- ---- what an answer of `next_token` says of the item at its place

-- whether it is a token
unfoldable pub is_token : Result Found ℕ → Bool
is_token (Ok (F.Gap e)) = false
is_token (Ok (F.Token k e)) = true
is_token (Err n) = false
is_token (Ok F.Nothing) = false

-- a token that begins at this place
unfoldable pub BeginsAt : (at : ℕ) → Result Next Refusal → Type 0
BeginsAt at (Ok (X.Token t)) = t.span.start ≡ at
BeginsAt at (Ok (X.End place)) = ⊥
BeginsAt at (Err f) = ⊥

module _ (sw : Switches) (s : List ℕ) (at : ℕ) (h : at ≤ length s) where
  pub token_here : (t : CT.Token) → first_of (tokens_from sw s at) ≡ Ok (X.Token t) → t.span.start ≡ at → found_at sw s at ≡ Ok (F.Token t.kind t.span.stop)
  token_here t e b = go (found_at sw s at) refl
    where
      go : (r : Result Found ℕ) → found_at sw s at ≡ r → r ≡ Ok (F.Token t.kind t.span.stop)
      go (Ok (F.Gap k)) q =
          let g = after_gap sw s at k q in
          let a = next_ahead sw s k t.kind t.span.start t.span.stop g.2 (ap first_of (sym g.0) ∙ e) in
          let w = a.after in absurd (omega arith)
      go (Ok (F.Token k z)) q =
          let p : token_next k at z ≡ Ok (X.Token t) = sym (at_token sw s at k z q) ∙ e in
          let u : ◌≡◌ {A = CT.Token} (record { kind = k; span = record { start = at; stop = z } }) t = cc in
          λ i. Ok (F.Token (u i).kind (u i).span.stop)
      go (Err n) q = let p : refused_next n at ≡ Ok (X.Token t) = sym (at_fault sw s at n q) ∙ e in let z : ◌≡◌ {A = ℕ} 0 1 = cc in absurd (omega arith)
      go (Ok F.Nothing) q = let p : Ok (X.End at) ≡ Ok (X.Token t) = sym (at_end_law sw s at q) ∙ e in let z : ◌≡◌ {A = ℕ} 0 1 = cc in absurd (omega arith)

  pub none_here : (r : Result Next Refusal) → first_of (tokens_from sw s at) ≡ r → (BeginsAt at r → ⊥) → is_token (found_at sw s at) ≡ false
  unfolding is_token BeginsAt
  none_here r e n = go (found_at sw s at) refl
    where
      go : (f : Result Found ℕ) → found_at sw s at ≡ f → is_token f ≡ false
      go (Ok (F.Gap k)) q = refl
      go (Ok (F.Token k z)) q = absurd (n (subst (BeginsAt at) (sym (at_token sw s at k z q) ∙ e) refl))
      go (Err m) q = refl
      go (Ok F.Nothing) q = refl

kind_content : (form : Form) → has_content (key_content form) ≡ holds_content (kind_of form)
unfolding has_content key_content holds_content kind_of
kind_content (mark b) = refl
kind_content (word s) = refl
kind_content (text s) = refl
kind_content (bytes s) = refl
kind_content (integer z) = refl
kind_content (decimal minus m p) = refl

item_none : (m : ℕ) (i : Item) → is_token (found 0 i) ≡ false → whole_item m i ≡ none
unfolding is_token found whole_item
item_none m (gap more) e = refl
item_none m (token form more) e = absurd (false≢true (sym e))
item_none m (fault number) e = refl

module _ (sw : Switches) where
  here : (b : ℕ) (l : List ℕ) → found_at sw (b ∷ l) 0 ≡ found 0 (item sw b l)
  unfolding found_at item_at
  here b l = rw (lt-ltb 0 (suc (length l)) (omega arith))

  pub no_token : (s : List ℕ) → is_token (found_at sw s 0) ≡ false → false ≡ has_content (token_content sw s)
  unfolding token_content has_content
  no_token [] e = refl
  no_token (b ∷ l) e = sym (ap has_content (item_none (length l) (item sw b l) (ap is_token (sym (here b l)) ∙ e)))

  -- a token, with what more of it there is than its first byte
  whole_token : (s : List ℕ) (k : TokenKind) (e : ℕ) → found_at sw s 0 ≡ Ok (F.Token k e)
      → (form : Form) × (more : ℕ) × (kind_of form ≡ k) × (e ≡ 0 + suc more) × (0 < length s)
      × (token_content sw s ≡ cond (eqb more (length s - 1)) (key_content form) none)
  unfolding token_content whole_item
  whole_token [] k e q = let h = item_there sw [] 0 (Ok (F.Token k e)) q (λ n. let z : ◌≡◌ {A = ℕ} 0 1 = cc in omega arith) in absurd (omega arith)
  whole_token (b ∷ l) k e q =
      let g = found_token 0 e k (item sw b l) (sym (here b l) ∙ q) in
      let j : length l ≡ suc (length l) - 1 = omega arith in (
        g.0,
        g.1,
        g.3,
        g.4,
        omega arith,
        ap (whole_item (length l)) g.2 ∙ ap (λ (n : ℕ). cond (eqb g.1 n) (key_content g.0) none) j,
      )

  pub token_all : (s : List ℕ) (k : TokenKind) (e : ℕ) → found_at sw s 0 ≡ Ok (F.Token k e) → e ≡ length s → holds_content k ≡ has_content (token_content sw s)
  token_all s k e q h =
      let w = whole_token s k e q in
      let m = w.3 in
      let j : w.1 ≡ length s - 1 = omega arith in
      sym (ap has_content (w.5 ∙ ap (λ (t : Bool). cond t (key_content w.0) none) (eq-eqb w.1 (length s - 1) j)) ∙ kind_content w.0 ∙ ap holds_content w.2)

  pub token_short : (s : List ℕ) (k : TokenKind) (e : ℕ) → found_at sw s 0 ≡ Ok (F.Token k e) → (e ≡ length s → ⊥) → false ≡ has_content (token_content sw s)
  unfolding has_content
  token_short s k e q h =
      let w = whole_token s k e q in
      let m = w.3 in
      let p = w.4 in
      let j : w.1 ≡ length s - 1 → ⊥ = λ x. h (omega arith) in
      sym (ap has_content (w.5 ∙ ap (λ (t : Bool). cond t (key_content w.0) none) (ne_eqb w.1 (length s - 1) j)))

  -- what is asked of the first token
  pub keyed_first : (s : List ℕ) (t : CT.Token) → first_of (tokens_from sw s 0) ≡ Ok (X.Token t)
      → has_content (token_content sw s) ≡ (eqb t.span.start 0 && (eqb t.span.stop (length s) && holds_content t.kind))
  unfolding BeginsAt
  keyed_first s t e = by (eqb t.span.start 0) refl (eqb t.span.stop (length s)) refl
    where
      by : (x : Bool) → eqb t.span.start 0 ≡ x → (y : Bool) → eqb t.span.stop (length s) ≡ y
          → has_content (token_content sw s) ≡ (x && (y && holds_content t.kind))
      by false p y q = sym (no_token s (none_here sw s 0 (omega arith) (Ok (X.Token t)) e (eqb-false _ _ p)))
      by true p false q = sym (token_short s t.kind t.span.stop (token_here sw s 0 (omega arith) t e (eqb-true _ _ p)) (eqb-false _ _ q))
      by true p true q = sym (token_all s t.kind t.span.stop (token_here sw s 0 (omega arith) t e (eqb-true _ _ p)) (eqb-true _ _ q))

  pub keyed_none : (s : List ℕ) (r : Result Next Refusal) → first_of (tokens_from sw s 0) ≡ r → ((t : CT.Token) → r ≡ Ok (X.Token t) → ⊥) → false ≡ has_content (token_content sw s)
  unfolding BeginsAt
  keyed_none s (Ok (X.Token t)) e n = absurd (n t refl)
  keyed_none s (Ok (X.End p)) e n = no_token s (none_here sw s 0 (omega arith) (Ok (X.End p)) e (λ z. z))
  keyed_none s (Err f) e n = no_token s (none_here sw s 0 (omega arith) (Err f) e (λ z. z))

-- ---- contents of what has been looked at

pub keyed_by : (sw : Switches) (s : List ℕ) → has_content (token_content sw s) ≡ true → Keyed sw s
unfolding has_content
keyed_by sw s e = by (token_content sw s) refl e
  where
    by : (o : Option (List ℕ)) → token_content sw s ≡ o → has_content o ≡ true → Keyed sw s
    by none q e = absurd (false≢true e)
    by (some c) q e = record { content = c; is = q }

pub no_key : (o : Option (List ℕ)) (out : List ℕ) → has_content o ≡ false → (W.Err NoContent ≡ fitted (length out) o) × (out ≡ placed o out)
unfolding has_content fitted placed
no_key none out e = (refl, refl)
no_key (some c) out e = absurd (false≢true (sym e))

-- a text's content is one of its bytes
pub part_content : (sw : Switches) (s l : List ℕ) (isText : Bool) (body : Body) → Keyed sw s → content_of sw isText body l ≡ token_content sw s
    → content sw body l ≡ token_content sw s
unfolding content_of only_utf8
part_content sw s l true body y e = only (content sw body l) (e ∙ y.is) ∙ sym y.is
  where
    only : (o : Option (List ℕ)) → only_utf8 o ≡ some y.content → o ≡ some y.content
    only none e = e
    only (some x) e = ap some (chosen (is_utf8 x) x y.content e).1
part_content sw s l false body y e = e

-- ---- a string or key against a body

pub part_same : (sw : Switches) (s : List ℕ) (p : Part) (body : Body) (t : List ℕ) → Keyed sw s → p ≡ part_of sw s
    → same_content (content sw p.body (take (p.span.stop - p.span.start) (drop p.span.start s))) (content sw body t)
    ≡ same_content (token_content sw s) (content sw body t)
part_same sw s p body t y e =
    let i = part_is sw s p y e in
    ap (λ (o : Option (List ℕ)). same_content o (content sw body t))
    (part_content sw s (take (p.span.stop - p.span.start) (drop p.span.start s)) p.is_text p.body y i.holds)
