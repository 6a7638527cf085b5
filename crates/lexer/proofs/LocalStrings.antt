-- Local lexing, of comments and strings: what closes depends on its own bytes alone.
-- Assumes nothing.
use mathlib.Core.Path.{◌≡◌, refl, sym, ap, ◌∙◌, subst}
use Prim.Native.Nat.{ℕ, suc, ◌+◌, ◌-◌, ◌≤◌, ◌<◌}
use native.Mathlib.Omega.{arith}
use mathlib.Core.Bool.{Bool, true, false, cond, ◌&&◌, true≢false, false≢true}
use mathlib.Core.Option.{Option, none, some}
use mathlib.Core.List.{List, [], ◌∷◌, ◌++◌}
use lib.Dec.{eqb}
use lib.ListN.{length, take, drop, length-drop}
use lib.Seq.{take-append-le, drop-append-le}
use Rattle.text.specs.declared.switches.Switches.{Switches}
use Rattle.text.specs.Bytes.{feed, front, starts_with, is, ascii}
use Rattle.text.proofs.Choice.{cond-case, cond-true, cond-false}
use Rattle.text.proofs.FeedLaws.{feed_stays, feed_append}
use Rattle.literals.specs.declared.decoder.Body.{Body}
use Rattle.literals.specs.declared.decoder.Body.TheVariants as Y
use Rattle.literals.specs.Content.{content_of}
use Rattle.lexer.specs.declared.closing.Closing.{Closing}
use Rattle.lexer.specs.declared.closing.Closing.TheVariants as C
use Rattle.lexer.specs.declared.closing.Block.{Block}
use Rattle.lexer.specs.declared.closing.Block.TheVariants as B
use Rattle.lexer.specs.Closing.{after_quote, after_other, closing_step, closing, block_step, block, not_newline}
use Rattle.lexer.specs.Internal.{block_read}
use Rattle.lexer.specs.Token.{Item, gap, fault, block_item, comment, content_item, closed_item, has_escapes, string_item, hash_count, raw_item}
use Rattle.lexer.proofs.ClosingLaws.{closing_bytes, closed_step, shut_step, is_closed, is_shut}
use Rattle.lexer.proofs.Seams.{EndsAt, ItemSeam}
use Rattle.lexer.proofs.LocalRuns.{front_less, front_local}

-- ---- machines that close: a state that no byte changes, reached with the last byte

module _ {A : Type 0} (step : A → ℕ → A) (count : A → ℕ) (shut : A → Bool)
    (stays : (st : A) → shut st ≡ true → (b : ℕ) → step st b ≡ st) (goes : (st : A) (b : ℕ) → shut st ≡ false → count (step st b) ≡ suc (count st)) where
  closes_later : (st : A) (z : List ℕ) (t : Bool) → shut st ≡ t → t ≡ false → shut (feed step st z) ≡ true → count st < count (feed step st z)
  unfolding feed
  closes_later st [] t e q h = let w : true ≡ false = sym h ∙ e ∙ q in absurd (true≢false w)
  closes_later st (b ∷ z) t e q h = on (shut (step st b)) refl (λ k. closes_later (step st b) z false k refl h)
    where
      up : count (step st b) ≡ suc (count st)
      up = goes st b (e ∙ q)

      on : (u : Bool) → shut (step st b) ≡ u → (shut (step st b) ≡ false → count (step st b) < count (feed step (step st b) z)) → count st < count (feed step (step st b) z)
      on true k f = let w = ap count (feed_stays step (step st b) (stays (step st b) k) z) in let v = up in omega arith
      on false k f = let w = f k in let v = up in omega arith

  pub closes_at : (st : A) (x z : List ℕ) → shut (feed step st (x ++ z)) ≡ true → count (feed step st (x ++ z)) ≡ count st + length x
      → feed step st x ≡ feed step st (x ++ z)
  unfolding feed
  closes_at st [] z h e = on (shut st) refl
    where
      on : (u : Bool) → shut st ≡ u → st ≡ feed step st z
      on true k = sym (feed_stays step st (stays st k) z)
      on false k = let w = closes_later st z false k refl h in absurd (omega arith)
  closes_at st (b ∷ x) z h e = on (shut st) refl (λ q. closes_at (step st b) x z h q)
    where
      on : (u : Bool) → shut st ≡ u
          → (count (feed step (step st b) (x ++ z)) ≡ count (step st b) + length x → feed step (step st b) x ≡ feed step (step st b) (x ++ z))
          → feed step (step st b) x ≡ feed step (step st b) (x ++ z)
      on true k f =
          let r = stays st k b in
          ap (λ (s : A). feed step s x) r ∙ feed_stays step st (stays st k) x ∙ sym (feed_stays step st (stays st k) (x ++ z)) ∙ ap (λ (s : A). feed step s (x ++ z)) (sym r)
      on false k f = let v = goes st b k in f (omega arith)

  -- what follows may be anything
  pub closes_local : (st : A) (x z z' : List ℕ) → shut (feed step st (x ++ z)) ≡ true → count (feed step st (x ++ z)) ≡ count st + length x
      → feed step st (x ++ z') ≡ feed step st (x ++ z)
  closes_local st x z z' h e =
      let w = closes_at st x z h e in
      feed_append step st x z' ∙ ap (λ (s : A). feed step s z') w ∙ feed_stays step (feed step st (x ++ z)) (stays (feed step st (x ++ z)) h) z'

-- ---- comments

no_true : {A : Type 0} → false ≡ true → A
no_true e = absurd (false≢true e)

pub no_false : {A : Type 0} → true ≡ false → A
no_false e = absurd (true≢false e)

cond_count : {A : Type 0} (count : A → ℕ) (n : ℕ) (b : Bool) (x y : A) → count x ≡ n → count y ≡ n → count (cond b x y) ≡ n
cond_count count n true x y p q = p
cond_count count n false x y p q = q

block_goes : (st : Block) (b : ℕ) → is_shut st ≡ false → block_read (block_step st b) ≡ suc (block_read st)
unfolding is_shut block_step block_read
block_goes (B.Inside n) b e = cond_count block_read (suc n) (is "*" b) (B.Starred (suc n)) (B.Inside (suc n)) refl refl
block_goes (B.Starred n) b e =
    cond_count block_read (suc n) (is "/" b) (B.Closed (suc n)) (cond (is "*" b) (B.Starred (suc n)) (B.Inside (suc n))) refl
    (cond_count block_read (suc n) (is "*" b) (B.Starred (suc n)) (B.Inside (suc n)) refl refl)
block_goes (B.Closed n) b e = no_false e

-- a block comment that ends
block_over : (n : ℕ) (c : Block) → EndsAt (suc n) (block_item c) → (is_shut c ≡ true) × (block_read c ≡ n)
unfolding block_item EndsAt is_shut block_read
block_over n (B.Inside m) h = absurd h
block_over n (B.Starred m) h = absurd h
block_over n (B.Closed m) h = (refl, omega arith)

block_local : (x z z' : List ℕ) → EndsAt (suc (length x)) (block_item (block (x ++ z)))
    → block (x ++ z') ≡ block (x ++ z)
unfolding block_read block
block_local x z z' h =
    let w = block_over (length x) (block (x ++ z)) h in
    closes_local block_step block_read is_shut shut_step block_goes (B.Inside 0) x z z' w.0 (omega arith)

and_true : (b : Bool) → b ≡ true → b && true ≡ true
and_true true e = refl
and_true false e = no_true e

pub comment_local : (x z z' : List ℕ) → EndsAt (length x) (comment (x ++ z)) → ItemSeam x (comment (x ++ z)) z z' → comment (x ++ z') ≡ comment (x ++ z)
unfolding comment EndsAt block_item ItemSeam starts_with
comment_local [] [] z' h s = absurd h
comment_local [] (c ∷ z) z' h s =
    cond-case (EndsAt 0) (comment z' ≡ comment (c ∷ z)) (is "/" c) h (λ _ q. absurd (omega arith))
    (λ _ q. cond-case (EndsAt 0) (comment z' ≡ comment (c ∷ z)) (is "*" c) q (λ _ r. absurd (no_block (block z) r)) (λ _ r. absurd r))
  where
    no_block : (c' : Block) → EndsAt 0 (block_item c') → ⊥
    no_block (B.Inside m) r = r
    no_block (B.Starred m) r = r
    no_block (B.Closed m) r = absurd (omega arith)
comment_local (c ∷ x) z z' h s = on (is "/" c) refl h s
  where
    other : List ℕ → Item
    other y = cond (is "*" c) (block_item (block (x ++ y))) (fault 3)

    on : (t : Bool) → is "/" c ≡ t → EndsAt (suc (length x)) (cond t (gap (suc (front not_newline (x ++ z)))) (other z))
        → ItemSeam (c ∷ x) (cond t (gap (suc (front not_newline (x ++ z)))) (other z)) z z'
        → cond (is "/" c) (gap (suc (front not_newline (x ++ z')))) (other z') ≡ cond (is "/" c) (gap (suc (front not_newline (x ++ z)))) (other z)
    on true e h' s' =
        let k : front not_newline (x ++ z) ≡ length x = omega arith in
        let q = front_local not_newline x z z' k (s' (and_true (is "/" c) e)) in
        ap (λ (n : ℕ). cond (is "/" c) (gap (suc n)) (other z')) (q ∙ sym k)
        ∙ cond-true (is "/" c) (gap (suc (front not_newline (x ++ z)))) (other z') e
        ∙ sym (cond-true (is "/" c) (gap (suc (front not_newline (x ++ z)))) (other z) e)
    on false e h' s' =
        cond-false (is "/" c) (gap (suc (front not_newline (x ++ z')))) (other z') e
        ∙ cond-case (EndsAt (suc (length x))) (other z' ≡ other z) (is "*" c) h'
        (λ _ r. ap (λ (y : Block). cond (is "*" c) (block_item y) (fault 3)) (block_local x z z' r)) (λ _ r. absurd r)
        ∙ sym (cond-false (is "/" c) (gap (suc (front not_newline (x ++ z)))) (other z) e)

-- ---- strings

module _ (escapes : Bool) (k : ℕ) where
  quote_count : (j n : ℕ) → closing_bytes (after_quote k j n) ≡ n
  unfolding after_quote closing_bytes
  quote_count j n = cond_count closing_bytes n (eqb j k) (C.Closed n) (C.Hashes j n) refl refl

  other_count : (n b : ℕ) → closing_bytes (after_other escapes k n b) ≡ suc n
  unfolding after_other closing_bytes
  other_count n b =
      cond_count closing_bytes (suc n) (is "\"" b) (after_quote k 0 (suc n)) (cond (is "\\" b && escapes) (C.Escaped (suc n)) (C.Inside (suc n)))
      (quote_count 0 (suc n)) (cond_count closing_bytes (suc n) (is "\\" b && escapes) (C.Escaped (suc n)) (C.Inside (suc n)) refl refl)

  pub close_goes : (st : Closing) (b : ℕ) → is_closed st ≡ false → closing_bytes (closing_step escapes k st b) ≡ suc (closing_bytes st)
  unfolding is_closed closing_step closing_bytes
  close_goes (C.Inside n) b e = other_count n b
  close_goes (C.Escaped n) b e = refl
  close_goes (C.Closed n) b e = no_false e
  close_goes (C.Hashes j n) b e =
      cond_count closing_bytes (suc n) (is "#" b) (after_quote k (suc j) (suc n)) (after_other escapes k n b) (quote_count (suc j) (suc n)) (other_count n b)

-- a closed string has read its last byte
content_over : (isText : Bool) (n more : ℕ) (c : Option (List ℕ)) → EndsAt n (content_item isText more c) → more ≡ n
unfolding content_item EndsAt
content_over isText n more (some c) h = h
content_over isText n more none h = absurd h

module _ (sw : Switches) (isText : Bool) (body : Body) (head k : ℕ) where
  closed_over : (n : ℕ) (s : List ℕ) (c : Closing) → EndsAt (head + n) (closed_item sw isText body head k s c) → (is_closed c ≡ true) × (closing_bytes c ≡ n)
  unfolding closed_item EndsAt is_closed closing_bytes
  closed_over n s (C.Closed m) h =
      let e = content_over isText (head + n) (head + m) (content_of sw isText body (take (m - suc k) s)) h in
      (refl, omega arith)
  closed_over n s (C.Inside m) h = absurd h
  closed_over n s (C.Escaped m) h = absurd h
  closed_over n s (C.Hashes j m) h = absurd h

  closed_same : (x z z' : List ℕ) (c : Closing) → closing_bytes c ≤ length x → closed_item sw isText body head k (x ++ z') c ≡ closed_item sw isText body head k (x ++ z) c
  unfolding closed_item closing_bytes
  closed_same x z z' (C.Closed m) h =
      let q : m - suc k ≤ length x = omega arith in
      ap (λ (l : List ℕ). content_item isText (head + m) (content_of sw isText body l)) (take-append-le (m - suc k) x z' q ∙ sym (take-append-le (m - suc k) x z q))
  closed_same x z z' (C.Inside m) h = refl
  closed_same x z z' (C.Escaped m) h = refl
  closed_same x z z' (C.Hashes j m) h = refl

  -- a string whose opening is `head` bytes after the first
  pub string_local : (x z z' : List ℕ) → EndsAt (head + length x) (string_item sw isText body head k (x ++ z))
      → string_item sw isText body head k (x ++ z') ≡ string_item sw isText body head k (x ++ z)
  unfolding string_item closing closing_bytes
  string_local x z z' h =
      let c = closing (has_escapes body) k (x ++ z) in
      let w = closed_over (length x) (x ++ z) c h in
      let e : closing_bytes c ≡ closing_bytes (C.Inside 0) + length x = omega arith in
      let q = closes_local (closing_step (has_escapes body) k) closing_bytes is_closed (closed_step (has_escapes body) k) (close_goes (has_escapes body) k) (C.Inside 0) x z z' w.0 e in
      let l : closing_bytes c ≤ length x = omega arith in
      ap (λ (d : Closing). closed_item sw isText body head k (x ++ z') d) q ∙ closed_same x z z' c l

  closed_head : (n : ℕ) (s : List ℕ) (c : Closing) → EndsAt n (closed_item sw isText body head k s c) → head ≤ n
  unfolding closed_item EndsAt
  closed_head n s (C.Closed m) h = let e = content_over isText n (head + m) (content_of sw isText body (take (m - suc k) s)) h in omega arith
  closed_head n s (C.Inside m) h = absurd h
  closed_head n s (C.Escaped m) h = absurd h
  closed_head n s (C.Hashes j m) h = absurd h

  pub string_head : (n : ℕ) (s : List ℕ) → EndsAt n (string_item sw isText body head k s) → head ≤ n
  unfolding string_item
  string_head n s h = closed_head n s (closing (has_escapes body) k s) h

-- a string whose opening stands within x
pub opened_local : (sw : Switches) (isText : Bool) (body : Body) (head : ℕ) (x z z' : List ℕ) → head ≤ length x
    → EndsAt (length x) (string_item sw isText body head 0 (drop head (x ++ z)))
    → string_item sw isText body head 0 (drop head (x ++ z')) ≡ string_item sw isText body head 0 (drop head (x ++ z))
opened_local sw isText body head x z z' l h =
    let put : List ℕ → Item = λ y. string_item sw isText body head 0 y in
    let d = length-drop head x in
    let e : length x ≡ head + length (drop head x) = omega arith in
    let r : EndsAt (head + length (drop head x)) (put (drop head x ++ z)) =
    subst (λ (n : ℕ). EndsAt n (put (drop head x ++ z))) e (subst (λ (y : List ℕ). EndsAt (length x) (put y)) (drop-append-le head x z l) h) in
    ap put (drop-append-le head x z' l) ∙ string_local sw isText body head 0 (drop head x) z z' r ∙ ap put (sym (drop-append-le head x z l))

pub begins_same : (w x z z' : List ℕ) → length w ≤ length x → starts_with w (x ++ z') ≡ starts_with w (x ++ z)
unfolding starts_with
begins_same [] x z z' h = refl
begins_same (e ∷ w) [] z z' h = absurd (omega arith)
begins_same (e ∷ w) (a ∷ x) z z' h = ap (λ (t : Bool). eqb a e && t) (begins_same w x z z' (omega arith))

-- a raw string with j hashes
unfoldable pub raw_at : Switches → (isText : Bool) → (head j : ℕ) → List ℕ → Item
raw_at sw isText head j s = cond (starts_with (ascii "\"") (drop j s)) (string_item sw isText Y.Raw (head + j + 1) j (drop (j + 1) s)) (fault 3)

module _ (sw : Switches) (isText : Bool) (head : ℕ) where
  pub raw_less : (n j : ℕ) (s : List ℕ) → EndsAt n (raw_at sw isText head j s) → head + j + 1 ≤ n
  unfolding raw_at EndsAt
  raw_less n j s h =
      cond-case (EndsAt n) (head + j + 1 ≤ n) (starts_with (ascii "\"") (drop j s)) h
      (λ _ q. string_head sw isText Y.Raw (head + j + 1) j n (drop (j + 1) s) q) (λ _ q. absurd q)

  raw_at_law : (j : ℕ) (x z z' : List ℕ) → j + 1 ≤ length x → EndsAt (head + length x) (raw_at sw isText head j (x ++ z))
      → raw_at sw isText head j (x ++ z') ≡ raw_at sw isText head j (x ++ z)
  unfolding raw_at EndsAt
  raw_at_law j x z z' l h =
      cond-case (EndsAt (head + length x)) (raw_at sw isText head j (x ++ z') ≡ raw_at sw isText head j (x ++ z)) (starts_with (ascii "\"") (drop j (x ++ z))) h
      (λ e q. cond-true (starts_with (ascii "\"") (drop j (x ++ z'))) (lit (x ++ z')) (fault 3) (same ∙ e) ∙ lits q ∙ sym (cond-true (starts_with (ascii "\"") (drop j (x ++ z))) (lit (x ++ z)) (fault 3) e))
      (λ _ q. absurd q)
    where
      lit : List ℕ → Item
      lit s = string_item sw isText Y.Raw (head + j + 1) j (drop (j + 1) s)

      split : (y : List ℕ) → drop (j + 1) (x ++ y) ≡ drop (j + 1) x ++ y
      split y = drop-append-le (j + 1) x y l

      same : starts_with (ascii "\"") (drop j (x ++ z')) ≡ starts_with (ascii "\"") (drop j (x ++ z))
      same =
          let m : j ≤ length x = omega arith in
          let d = length-drop j x in
          ap (starts_with (ascii "\"")) (drop-append-le j x z' m) ∙ begins_same (ascii "\"") (drop j x) z z' (omega arith) ∙ ap (starts_with (ascii "\"")) (sym (drop-append-le j x z m))

      lits : EndsAt (head + length x) (lit (x ++ z)) → lit (x ++ z') ≡ lit (x ++ z)
      lits q =
          let d = length-drop (j + 1) x in
          let e : head + length x ≡ head + j + 1 + length (drop (j + 1) x) = omega arith in
          let put : List ℕ → Item = λ l. string_item sw isText Y.Raw (head + j + 1) j l in
          let r : EndsAt (head + j + 1 + length (drop (j + 1) x)) (put (drop (j + 1) x ++ z)) =
          subst (λ (n : ℕ). EndsAt n (put (drop (j + 1) x ++ z))) e (subst (λ (l : List ℕ). EndsAt (head + length x) (put l)) (split z) q) in
          ap put (split z') ∙ string_local sw isText Y.Raw (head + j + 1) j (drop (j + 1) x) z z' r ∙ ap put (sym (split z))

  pub raw_long : (x z : List ℕ) → EndsAt (head + length x) (raw_item sw isText head (x ++ z)) → 1 ≤ length x
  unfolding raw_item raw_at
  raw_long x z h = let l = raw_less (head + length x) (hash_count (x ++ z)) (x ++ z) h in omega arith

  pub raw_local : (x z z' : List ℕ) → EndsAt (head + length x) (raw_item sw isText head (x ++ z)) → raw_item sw isText head (x ++ z') ≡ raw_item sw isText head (x ++ z)
  unfolding raw_item hash_count raw_at
  raw_local x z z' h =
      let l = raw_less (head + length x) (hash_count (x ++ z)) (x ++ z) h in
      let k : front (is "#") (x ++ z) < length x = omega arith in
      ap (λ (j : ℕ). raw_at sw isText head j (x ++ z')) (front_less (is "#") x z z' k) ∙ raw_at_law (hash_count (x ++ z)) x z z' (omega arith) h
