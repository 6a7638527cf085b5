-- The machines that find the end of a string and of a comment: what they count, and that they stay where they have ended.
-- Assumes nothing.
use mathlib.Core.Path.{◌≡◌, refl, sym, ap, ◌∙◌, subst}
use Prim.Native.Nat.{ℕ, suc, ◌+◌, ◌-◌, ◌*◌, ◌≤◌, ◌<◌}
use native.Mathlib.Omega.{arith}
use mathlib.Core.Bool.{Bool, true, false, not, cond, ◌&&◌, ◌||◌, false≢true}
use Rattle.std.specs.Prelude.{Some, None}
use mathlib.Core.List.{List, [], ◌∷◌}
use lib.Dec.{eqb, eqb→eq, T}
use lib.ListN.{length, drop, get_or}
use lib.Seq.{drop-drop}
use Rattle.text.specs.Bytes.{feed, front, is}
use Rattle.text.proofs.Choice.{cond_both}
use Rattle.text.proofs.FeedLaws.{feed_turn, feed_done, feed_stays, feed_le}
use Rattle.lexer.specs.declared.closing.Closing.{Closing}
use Rattle.lexer.specs.declared.closing.Closing.TheVariants as C
use Rattle.lexer.specs.declared.closing.Block.{Block}
use Rattle.lexer.specs.declared.closing.Block.TheVariants as B
use Rattle.lexer.specs.Closing.{after_quote, after_other, closing_step, closing, block_step, block}
use Rattle.lexer.specs.Internal.{closing_read, closed_at, block_read, shut_at}

-- ---- the end of a string

-- the bytes read
unfoldable pub closing_bytes : Closing → ℕ
closing_bytes (C.Inside n) = n
closing_bytes (C.Escaped n) = n
closing_bytes (C.Closed n) = n
closing_bytes (C.Hashes j n) = n

-- the string has ended
unfoldable pub is_closed : Closing → Bool
is_closed (C.Inside n) = false
is_closed (C.Escaped n) = false
is_closed (C.Hashes j n) = false
is_closed (C.Closed n) = true

pub closed_told : (c : Closing) (n : ℕ) → closed_at c ≡ Some n → c ≡ C.Closed n
unfolding closed_at
closed_told (C.Inside m) n e = cc
closed_told (C.Escaped m) n e = cc
closed_told (C.Hashes j m) n e = cc
closed_told (C.Closed m) n e = cc

-- what a closing shows of its hashes: they were read after a quote
unfoldable Held : (k : ℕ) → Closing → Type 0
Held k (C.Inside n) = Unit {0}
Held k (C.Escaped n) = Unit {0}
Held k (C.Hashes j n) = suc j ≤ n
Held k (C.Closed n) = suc k ≤ n

module _ (escapes : Bool) (k : ℕ) where
  quote_counts : (j n : ℕ) → closing_read (after_quote k j n) ≤ j + n
  unfolding after_quote closing_read
  quote_counts j n = cond_both (λ (c : Closing). closing_read c ≤ j + n) (eqb j k) (λ _. omega arith) (λ _. omega arith)

  other_counts : (n b : ℕ) → closing_read (after_other escapes k n b) ≤ n + 1
  unfolding after_other closing_read
  other_counts n b =
      cond_both (λ (c : Closing). closing_read c ≤ n + 1) (is "\"" b) (λ _. let q = quote_counts 0 (suc n) in omega arith)
      (λ _. cond_both (λ (c : Closing). closing_read c ≤ n + 1) (is "\\" b && escapes) (λ _. omega arith) (λ _. omega arith))

  -- one byte adds at most two to what is counted
  pub closing_counts : (c : Closing) (b : ℕ) → closing_read (closing_step escapes k c b) ≤ closing_read c + 2
  unfolding closing_step closing_read
  closing_counts (C.Inside n) b = let o = other_counts n b in omega arith
  closing_counts (C.Escaped n) b = omega arith
  closing_counts (C.Hashes j n) b =
      cond_both (λ (c : Closing). closing_read c ≤ j + n + 2) (is "#" b)
      (λ _. let q = quote_counts (suc j) (suc n) in omega arith)
      (λ _. let o = other_counts n b in omega arith)
  closing_counts (C.Closed n) b = omega arith

  -- the same for a loop that began at `from` and has gone from i to i + 1
  pub closing_turn : (c next : Closing) (b from i : ℕ) → next ≡ closing_step escapes k c b → closing_read c + 2 * from ≤ 2 * i
      → closing_read next + 2 * from ≤ 2 * (i + 1)
  closing_turn c next b from i e h = let n = closing_counts c b in rw e (omega arith)

  quote_one : (j n : ℕ) → closing_bytes (after_quote k j n) ≤ n
  unfolding after_quote closing_bytes
  quote_one j n = cond_both (λ (c : Closing). closing_bytes c ≤ n) (eqb j k) (λ _. omega arith) (λ _. omega arith)

  other_one : (n b : ℕ) → closing_bytes (after_other escapes k n b) ≤ suc n
  unfolding after_other closing_bytes
  other_one n b =
      cond_both (λ (c : Closing). closing_bytes c ≤ suc n) (is "\"" b) (λ _. quote_one 0 (suc n))
      (λ _. cond_both (λ (c : Closing). closing_bytes c ≤ suc n) (is "\\" b && escapes) (λ _. omega arith) (λ _. omega arith))

  closing_one : (c : Closing) (b : ℕ) → closing_bytes (closing_step escapes k c b) ≤ suc (closing_bytes c)
  unfolding closing_step closing_bytes
  closing_one (C.Inside n) b = other_one n b
  closing_one (C.Escaped n) b = omega arith
  closing_one (C.Closed n) b = omega arith
  closing_one (C.Hashes j n) b =
      cond_both (λ (c : Closing). closing_bytes c ≤ suc n) (is "#" b) (λ _. quote_one (suc j) (suc n)) (λ _. other_one n b)

  pub closing_le : (s : List ℕ) → closing_bytes (closing escapes k s) ≤ length s
  unfolding closing closing_bytes
  closing_le s = let h = feed_le closing_bytes (closing_step escapes k) closing_one (C.Inside 0) s in omega arith

  quote_held : (j n : ℕ) → suc j ≤ n → Held k (after_quote k j n)
  unfolding after_quote Held
  quote_held j n h = cond_both (Held k) (eqb j k) (λ t. let e = eqb→eq j k t in omega arith) (λ _. h)

  other_held : (n b : ℕ) → Held k (after_other escapes k n b)
  unfolding after_other Held
  other_held n b =
      cond_both (Held k) (is "\"" b) (λ _. quote_held 0 (suc n) (omega arith))
      (λ _. cond_both (Held k) (is "\\" b && escapes) (λ _. tt) (λ _. tt))

  step_held : (c : Closing) (b : ℕ) → Held k c → Held k (closing_step escapes k c b)
  unfolding closing_step Held
  step_held (C.Inside n) b h = other_held n b
  step_held (C.Escaped n) b h = tt
  step_held (C.Closed n) b h = h
  step_held (C.Hashes j n) b h = cond_both (Held k) (is "#" b) (λ _. quote_held (suc j) (suc n) (omega arith)) (λ _. other_held n b)

  feed_held : (c : Closing) (s : List ℕ) → Held k c → Held k (feed (closing_step escapes k) c s)
  unfolding feed
  feed_held c [] h = h
  feed_held c (b ∷ s) h = feed_held (closing_step escapes k c b) s (step_held c b h)

  -- a string that closes ends within the text, and a quote and k hashes are its last bytes
  pub closed_within : (s : List ℕ) (n : ℕ) → closing escapes k s ≡ C.Closed n → (suc k ≤ n) × (n ≤ length s)
  unfolding closing closing_bytes Held
  closed_within s n e =
      let h = closing_le s in
      let f = ap closing_bytes e in
      let g = subst (Held k) e (feed_held (C.Inside 0) s tt) in
      (g, omega arith)

  pub closed_step : (c : Closing) → is_closed c ≡ true → (b : ℕ) → closing_step escapes k c b ≡ c
  unfolding closing_step is_closed
  closed_step (C.Inside n) e b = absurd (false≢true e)
  closed_step (C.Escaped n) e b = absurd (false≢true e)
  closed_step (C.Hashes j n) e b = absurd (false≢true e)
  closed_step (C.Closed n) e b = refl

  pub closed_stays : (c : Closing) → is_closed c ≡ true → (l : List ℕ) → feed (closing_step escapes k) c l ≡ c
  closed_stays c e l = feed_stays (closing_step escapes k) c (closed_step c e) l

  -- the ways out of a loop that has read up to i
  pub closing_ended : (s text : List ℕ) (i : ℕ) (c next : Closing) (n : ℕ) → closing escapes k s ≡ feed (closing_step escapes k) c (drop i text) → i < length text
      → next ≡ closing_step escapes k c (get_or text i 0) → next ≡ C.Closed n → Some n ≡ closed_at (closing escapes k s)
  unfolding closed_at is_closed
  closing_ended s text i c next n e h t d =
      rw (e ∙ feed_turn (closing_step escapes k) c next text i h t ∙ ap (λ (x : Closing). feed (closing_step escapes k) x (drop (i + 1) text)) d ∙ closed_stays (C.Closed n) refl _)

  pub closing_open : (s text : List ℕ) (i : ℕ) (c : Closing) → closing escapes k s ≡ feed (closing_step escapes k) c (drop i text) → length text ≤ i
      → closed_at c ≡ None → None ≡ closed_at (closing escapes k s)
  closing_open s text i c e h o = sym (ap closed_at (e ∙ feed_done (closing_step escapes k) c text i h) ∙ o)

pub not_closed : (c : Closing) → ((n : ℕ) → c ≡ C.Closed n → ⊥) → closed_at c ≡ None
unfolding closed_at
not_closed (C.Inside n) f = refl
not_closed (C.Escaped n) f = refl
not_closed (C.Hashes j n) f = refl
not_closed (C.Closed n) f = absurd (f n refl)

-- ---- bytes that are neither a quote nor a backslash

-- the same test as in the contract of `plain_end`
abbrev pub plain : ℕ → Bool
plain b = not (eqb b 0x22 || eqb b 0x5C)

-- a choice whose first two tests fail
third : {A : Type 0} (q s e : Bool) (x y z : A) → T (not (q || s)) → cond q x (cond (s && e) y z) ≡ z
third true s e x y z h = absurd h
third false true e x y z h = absurd h
third false false e x y z h = refl

module _ (escapes : Bool) (k : ℕ) where
  -- such a byte only counts
  plain_step_law : (n b : ℕ) → T (plain b) → closing_step escapes k (C.Inside n) b ≡ C.Inside (suc n)
  unfolding closing_step after_other
  plain_step_law n b h = third (eqb b 0x22) (eqb b 0x5C) escapes (after_quote k 0 (suc n)) (C.Escaped (suc n)) (C.Inside (suc n)) h

  -- so do all of them at the front
  plain_front : (s : List ℕ) (n : ℕ)
      → feed (closing_step escapes k) (C.Inside n) s ≡ feed (closing_step escapes k) (C.Inside (n + front plain s)) (drop (front plain s) s)
  unfolding feed front
  plain_front [] n = ap C.Inside (omega arith)
  plain_front (b ∷ s) n =
      cond_both
      (λ (m : ℕ). feed (closing_step escapes k) (C.Inside n) (b ∷ s) ≡ feed (closing_step escapes k) (C.Inside (n + m)) (drop m (b ∷ s)))
      (plain b)
      (λ t.
      let e : suc n + front plain s ≡ n + suc (front plain s) = omega arith in
      ap (λ (c : Closing). feed (closing_step escapes k) c s) (plain_step_law n b t) ∙ plain_front s (suc n)
      ∙ ap (λ (m : ℕ). feed (closing_step escapes k) (C.Inside m) (drop (front plain s) s)) e)
      (λ _. let e : n ≡ n + 0 = omega arith in ap (λ (m : ℕ). feed (closing_step escapes k) (C.Inside m) (b ∷ s)) e)

  -- a loop that goes from i to r, the end of such bytes, counts them and goes on from there
  pub plain_skip : (text : List ℕ) (n i r : ℕ) → r ≡ i + front plain (drop i text)
      → feed (closing_step escapes k) (C.Inside n) (drop i text) ≡ feed (closing_step escapes k) (C.Inside (n + (r - i))) (drop r text)
  plain_skip text n i r e =
      let m : front plain (drop i text) ≡ r - i = omega arith in
      let w : i + (r - i) ≡ r = omega arith in
      plain_front (drop i text) n
      ∙ ap (λ (d : ℕ). feed (closing_step escapes k) (C.Inside (n + d)) (drop d (drop i text))) m
      ∙ ap (λ (l : List ℕ). feed (closing_step escapes k) (C.Inside (n + (r - i))) l)
      (drop-drop (r - i) i text ∙ ap (λ (d : ℕ). drop d text) w)

  -- the same at the string's first byte: a loop may begin at r
  pub plain_start : (text : List ℕ) (from r : ℕ) → r ≡ from + front plain (drop from text)
      → closing escapes k (drop from text) ≡ feed (closing_step escapes k) (C.Inside (r - from)) (drop r text)
  unfolding closing
  plain_start text from r e =
      let z : 0 + (r - from) ≡ r - from = omega arith in
      plain_skip text 0 from r e ∙ ap (λ (m : ℕ). feed (closing_step escapes k) (C.Inside m) (drop r text)) z

  -- the same from a state that is told by an equation
  pub plain_turn : (text : List ℕ) (c : Closing) (n i r : ℕ) → c ≡ C.Inside n → r ≡ i + front plain (drop i text)
      → feed (closing_step escapes k) c (drop i text) ≡ feed (closing_step escapes k) (C.Inside (n + (r - i))) (drop r text)
  plain_turn text c n i r e h = ap (λ (x : Closing). feed (closing_step escapes k) x (drop i text)) e ∙ plain_skip text n i r h

  -- what such a state has counted after a turn of the loop
  pub plain_counts : (c next : Closing) (b n from i : ℕ) → next ≡ closing_step escapes k c b → closing_read c + 2 * from ≤ 2 * i
      → next ≡ C.Inside n → n + 2 * from ≤ 2 * (i + 1)
  unfolding closing_read
  plain_counts c next b n from i e h f =
      let r = closing_turn escapes k c next b from i e h in
      let g : closing_read next ≡ n = ap closing_read f in
      omega arith

-- ---- the end of a block comment

block_counts : (c : Block) (b : ℕ) → block_read (block_step c b) ≤ suc (block_read c)
unfolding block_step block_read
block_counts (B.Inside n) b = cond_both (λ (c : Block). block_read c ≤ suc n) (is "*" b) (λ _. omega arith) (λ _. omega arith)
block_counts (B.Starred n) b =
    cond_both (λ (c : Block). block_read c ≤ suc n) (is "/" b) (λ _. omega arith)
    (λ _. cond_both (λ (c : Block). block_read c ≤ suc n) (is "*" b) (λ _. omega arith) (λ _. omega arith))
block_counts (B.Closed n) b = omega arith

pub block_turn : (c next : Block) (b i : ℕ) → next ≡ block_step c b → block_read c ≤ i → block_read next ≤ i + 1
block_turn c next b i e h = let n = block_counts c b in rw e (omega arith)

pub block_le : (s : List ℕ) → block_read (block s) ≤ length s
unfolding block block_read
block_le s = let h = feed_le block_read block_step block_counts (B.Inside 0) s in omega arith

-- the comment has ended
unfoldable pub is_shut : Block → Bool
is_shut (B.Inside n) = false
is_shut (B.Starred n) = false
is_shut (B.Closed n) = true

pub shut_told : (c : Block) (n : ℕ) → shut_at c ≡ Some n → c ≡ B.Closed n
unfolding shut_at
shut_told (B.Inside m) n e = cc
shut_told (B.Starred m) n e = cc
shut_told (B.Closed m) n e = cc

-- a comment ends within the text
pub shut_le : (s : List ℕ) (n : ℕ) → shut_at (block s) ≡ Some n → n ≤ length s
unfolding block_read
shut_le s n e = let h = block_le s in let f = ap block_read (shut_told (block s) n e) in omega arith

pub shut_step : (c : Block) → is_shut c ≡ true → (b : ℕ) → block_step c b ≡ c
unfolding block_step is_shut
shut_step (B.Inside n) e b = absurd (false≢true e)
shut_step (B.Starred n) e b = absurd (false≢true e)
shut_step (B.Closed n) e b = refl

pub shut_stays : (c : Block) → is_shut c ≡ true → (l : List ℕ) → feed block_step c l ≡ c
shut_stays c e l = feed_stays block_step c (shut_step c e) l

-- the ways out of a loop that has read up to i
pub block_ended : (s text : List ℕ) (i : ℕ) (c next : Block) (n : ℕ) → block s ≡ feed block_step c (drop i text) → i < length text
    → next ≡ block_step c (get_or text i 0) → next ≡ B.Closed n → Some n ≡ shut_at (block s)
unfolding shut_at is_shut
block_ended s text i c next n e h t d =
    rw (e ∙ feed_turn block_step c next text i h t ∙ ap (λ (x : Block). feed block_step x (drop (i + 1) text)) d ∙ shut_stays (B.Closed n) refl _)

pub block_open : (s text : List ℕ) (i : ℕ) (c : Block) → block s ≡ feed block_step c (drop i text) → length text ≤ i → shut_at c ≡ None
    → None ≡ shut_at (block s)
block_open s text i c e h o = sym (ap shut_at (e ∙ feed_done block_step c text i h) ∙ o)

pub not_shut : (c : Block) → ((n : ℕ) → c ≡ B.Closed n → ⊥) → shut_at c ≡ None
unfolding shut_at
not_shut (B.Inside n) f = refl
not_shut (B.Starred n) f = refl
not_shut (B.Closed n) f = absurd (f n refl)
