-- Laws of `feed` for loops: a loop that has read i bytes stands at `feed step s (drop i text)`.
-- Assumes nothing.
use mathlib.Core.Path.{◌≡◌, refl, ap, ◌∙◌}
use Prim.Native.Nat.{ℕ, suc, ◌+◌, ◌≤◌, ◌<◌}
use native.Mathlib.Numerals.{add-one}
use native.Mathlib.Omega.{arith}
use mathlib.Core.List.{List, [], ◌∷◌, ◌++◌}
use lib.ListN.{length, drop, get_or, drop_of_length-le}
use lib.Seq.{drop-cons}
use Rattle.text.specs.Bytes.{feed}

module _ {S : Type 0} (step : S → ℕ → S) where
  -- one byte more
  pub feed_next : (s : S) (text : List ℕ) (i : ℕ) → i < length text
      → feed step s (drop i text) ≡ feed step (step s (get_or text i 0)) (drop (suc i) text)
  unfolding feed
  feed_next s text i h = ap (feed step s) (drop-cons text i 0 h)

  -- a loop's turn: the state `next` is the step's, and the index has gone up by one
  pub feed_turn : (s next : S) (text : List ℕ) (i : ℕ) → i < length text → next ≡ step s (get_or text i 0)
      → feed step s (drop i text) ≡ feed step next (drop (i + 1) text)
  feed_turn s next text i h e = rw (add-one, e) (feed_next s text i h)

  -- no byte left
  pub feed_done : (s : S) (text : List ℕ) (i : ℕ) → length text ≤ i → feed step s (drop i text) ≡ s
  unfolding feed
  feed_done s text i h = ap (feed step s) (drop_of_length-le text h)

  -- a state that no byte changes
  pub feed_stays : (s : S) → ((b : ℕ) → step s b ≡ s) → (l : List ℕ) → feed step s l ≡ s
  unfolding feed
  feed_stays s e [] = refl
  feed_stays s e (b ∷ l) = ap (λ (t : S). feed step t l) (e b) ∙ feed_stays s e l

  -- two runs of bytes, one after the other
  pub feed_append : (s : S) (a b : List ℕ) → feed step s (a ++ b) ≡ feed step (feed step s a) b
  unfolding feed
  feed_append s [] b = refl
  feed_append s (x ∷ a) b = feed_append (step s x) a b

-- a machine that counts at most one for each byte counts at most the bytes
pub feed_le : {A : Type 0} (count : A → ℕ) (step : A → ℕ → A) → ((st : A) (b : ℕ) → count (step st b) ≤ suc (count st))
    → (st : A) (s : List ℕ) → count (feed step st s) ≤ count st + length s
unfolding feed
feed_le count step one st [] = omega arith
feed_le count step one st (b ∷ s) = let h = feed_le count step one (step st b) s in omega (arith, one st b)
