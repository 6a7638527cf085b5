-- A content measured from the front: what the loop of `measure` knows.
-- Assumes nothing.
use mathlib.Core.Path.{◌≡◌, refl, sym, ap, ◌∙◌, subst}
use Prim.Native.Nat.{ℕ, zero, suc, ◌+◌, ◌<◌, ◌≤◌}
use native.Mathlib.Omega.{arith}
use mathlib.Core.Bool.{Bool, true, false, not, cond, ◌&&◌, ◌||◌}
use mathlib.Core.Option.{Option, none, some}
use mathlib.Core.List.{List, [], ◌∷◌, ◌++◌}
use lib.ListN.{length, drop, get_or, length-append}
use Rattle.std.specs.List.{between}
use Rattle.std.proofs.lemmas.List.Edits.{get_or-between, length-between}
use borrow.Author.Tests.{le-leb}
use Rattle.text.specs.declared.switches.Switches.{Switches}
use Rattle.text.specs.declared.utf8.Utf8.{Utf8}
use Rattle.text.specs.declared.utf8.Utf8.TheVariants.{Whole}
use Rattle.text.specs.declared.few.Few.TheVariants.{One}
use Rattle.text.specs.Bytes.{feed}
use Rattle.text.specs.Utf8.{lead, utf8_step, utf8, is_utf8, is_whole, listed}
use Rattle.text.specs.Internal.{bytes_read}
use Rattle.text.proofs.FeedLaws.{feed_append}
use Rattle.literals.specs.declared.decoder.Body.{Body}
use Rattle.literals.specs.declared.decoder.Body.TheVariants.{Quoted, Raw, Base64, Word}
use Rattle.literals.specs.declared.decoder.Decoder.{Decoder}
use Rattle.literals.specs.declared.decoder.Decoded.{Decoded}
use Rattle.std.specs.declared.option.Option as M
use Rattle.std.specs.declared.option.Option.TheVariants.{Some, None}
use Rattle.literals.specs.Content.{gives, decode_step, may_end, prepend, decoded, start_of, content, only_utf8, content_of, measured}
use Rattle.literals.specs.InternalContent.{bit_room, Sound, AsWritten}
use Rattle.text.proofs.FewLaws.{read_feed}
use Rattle.literals.proofs.StepLaws.{spent, good_next, decoded_turn, decoded_end}

-- the measure of a content of which n bytes have gone by, by which the UTF-8 machine stands at u
unfoldable pub tally : Bool → Utf8 → ℕ → Option (List ℕ) → M.Option ℕ
tally text u n none = None
tally text u n (some c) = cond (not text || is_whole (feed utf8_step u c)) (Some (n + length c)) None

tally_prepend : (text : Bool) (u : Utf8) (n : ℕ) (xs : List ℕ) (o : Option (List ℕ))
    → tally text u n (prepend xs o) ≡ tally text (feed utf8_step u xs) (n + length xs) o
unfolding tally prepend
tally_prepend text u n xs none = refl
tally_prepend text u n xs (some c) =
    let l = length-append xs c in
    let p : n + length (xs ++ c) ≡ n + length xs + length c = omega arith in
    λ z. cond (not text || is_whole (feed_append utf8_step u xs c z)) (Some (p z)) None

-- what the machine stands at is asked of texts only
tally_text_only : (text : Bool) (u v : Utf8) (n : ℕ) (o : Option (List ℕ)) → tally text v n o ≡ tally text (cond text v u) n o
unfolding tally
tally_text_only true u v n o = refl
tally_text_only false u v n none = refl
tally_text_only false u v n (some c) = refl

read_text : (text : Bool) (u : Utf8) (xs : List ℕ) → bytes_read (cond text (feed utf8_step u xs) u) ≤ bytes_read u + length xs
read_text true u xs = read_feed u xs
read_text false u xs = omega arith

tally_whole : (text : Bool) (o : Option (List ℕ)) → measured (cond text (only_utf8 o) o) ≡ tally text (Whole 0) 0 o
unfolding tally measured only_utf8 is_utf8 utf8
tally_whole true none = refl
tally_whole false none = refl
tally_whole true (some c) = go (is_whole (feed utf8_step (Whole 0) c))
  where
    none_more : length c ≡ 0 + length c
    none_more = omega arith

    go : (b : Bool) → measured (cond b (some c) none) ≡ cond b (Some (0 + length c)) None
    go true = ap Some none_more
    go false = refl
tally_whole false (some c) = let e : length c ≡ 0 + length c = omega arith in ap Some e

pub start_sound : (body : Body) → Sound (start_of body) × (spent (start_of body) ≡ 0)
unfolding Sound start_of spent bit_room
start_sound Quoted = (tt, refl)
start_sound Raw = (tt, refl)
start_sound Base64 = (omega arith, refl)
start_sound Word = (tt, refl)

-- the bytes of `s` from `from` on: the one at j is there, and it is the one of `s` at from + j
pub past : (s : List ℕ) (from j : ℕ) → j < length (between from (length s) s)
    → (from + j < length s) × (get_or (between from (length s) s) j 0 ≡ get_or s (from + j) 0)
past s from j h =
    let l = length-between s from (length s) (omega arith) in
    let k : from + j < length s = omega arith in
    (k, get_or-between s from (length s) j 0 k)

-- what the loop knows at i, where the decoder was at `first` at the start
pub record Tallied (sw : Switches) (text : Bool) (first : Decoder) (s : List ℕ) (st : Decoder) (u : Utf8) (n i : ℕ) : Type 0 where
  pub within : i ≤ length s
  pub sound : Sound st
  pub spends : spent st + n ≤ i
  pub read : bytes_read u ≤ n
  pub same : tally text (Whole 0) 0 (decoded sw first s) ≡ tally text u n (decoded sw st (drop i s))

pub tally_start : (sw : Switches) (text : Bool) (body : Body) (s : List ℕ) (st : Decoder) → st ≡ start_of body → Tallied sw text st s st (Whole 0) 0 0
unfolding bytes_read
tally_start sw text body s st e =
    let g = start_sound body in
    let z : spent (start_of body) + 0 ≤ 0 = omega arith in
    record {
      within = omega arith;
      sound = rw e g.0;
      spends = rw e z;
      read = omega arith;
      same = refl;
    }

-- an ASCII byte between characters
feed_ascii : (n b : ℕ) → b ≤ 0x7F → feed utf8_step (Whole n) (b ∷ []) ≡ Whole (n + 1)
unfolding feed utf8_step lead
feed_ascii n b h = rw (le-leb b 0x7F h)

-- the loop may start after the bytes at the front that stand for themselves
module _ (sw : Switches) (text : Bool) (body : Body) (s : List ℕ) (st : Decoder) (e : st ≡ start_of body) (f : ℕ) (W : AsWritten body s f) where
  skip_step : (n : ℕ) → n < f → gives st (One (get_or s n 0)) ≡ decode_step sw st (get_or s n 0)
  skip_step n h = rw e (sym (W.same sw n h))

  skip_same : (n : ℕ) → n < f → tally text (Whole n) n (decoded sw st (drop n s)) ≡ tally text (Whole (n + 1)) (n + 1) (decoded sw st (drop (n + 1) s))
  unfolding listed
  skip_same n h =
      let w = W.inside in
      ap (tally text (Whole n) n) (decoded_turn sw st (gives st (One (get_or s n 0))) s n (omega arith) (skip_step n h))
      ∙ tally_prepend text (Whole n) n (get_or s n 0 ∷ []) (decoded sw st (drop (n + 1) s))
      ∙ ap (λ (u : Utf8). tally text u (n + 1) (decoded sw st (drop (n + 1) s))) (feed_ascii n (get_or s n 0) (W.low n h))

  skip_to : (n : ℕ) → n ≤ f → Tallied sw text st s st (Whole n) n n
  unfolding bytes_read
  skip_to zero h = tally_start sw text body s st e
  skip_to (suc n) h =
      let A = skip_to n (omega arith) in
      let a = A.spends in
      let w = W.inside in
      let p : n + 1 ≡ suc n = omega arith in
      subst (λ (m : ℕ). Tallied sw text st s st (Whole m) m m) p
      (record {
        within = omega arith;
        sound = A.sound;
        spends = omega arith;
        read = omega arith;
        same = A.same ∙ skip_same n (omega arith);
      })

  pub tally_skip : Tallied sw text st s st (Whole f) f f
  tally_skip = skip_to f (omega arith)

module _ {sw : Switches} {text : Bool} {first : Decoder} {s : List ℕ} {st : Decoder} {u : Utf8} {n i : ℕ} (A : Tallied sw text first s st u n i) where
  -- the count after a step still counts bytes of the slice
  pub tally_room : (d : Decoded) → d ≡ decode_step sw st (get_or s i 0) → n + length (listed d.out) ≤ i + 1
  tally_room d e =
      let g = good_next sw st (get_or s i 0) d A.sound e in
      let a = A.spends in
      omega arith

  pub tally_turn : (d : Decoded) (v : Utf8) (k : ℕ) → i < length s → d ≡ decode_step sw st (get_or s i 0) → v ≡ cond text (feed utf8_step u (listed d.out)) u
      → k ≡ length (listed d.out) → Tallied sw text first s d.state v (n + k) (i + 1)
  tally_turn d v k h e f l =
      let g = good_next sw st (get_or s i 0) d A.sound e in
      let a = A.spends in
      let r = A.read in
      let q = read_text text u (listed d.out) in
      let w : bytes_read (cond text (feed utf8_step u (listed d.out)) u) ≤ n + k = omega arith in
      record {
        within = omega arith;
        sound = g.0;
        spends = omega arith;
        read = rw f w;
        same =
            A.same ∙ ap (tally text u n) (decoded_turn sw st d s i h e)
            ∙ tally_prepend text u n (listed d.out) (decoded sw d.state (drop (i + 1) s))
            ∙ tally_text_only text u (feed utf8_step u (listed d.out)) (n + length (listed d.out)) (decoded sw d.state (drop (i + 1) s))
            ∙ sym (λ z. tally text (f z) (n + l z) (decoded sw d.state (drop (i + 1) s)));
      }

  module _ (body : Body) (from : first ≡ start_of body) (past : length s ≤ i) where
    whole : measured (content_of sw text body s) ≡ tally text (Whole 0) 0 (decoded sw first s)
    unfolding content_of content
    whole = tally_whole text (decoded sw (start_of body) s) ∙ ap (λ (d : Decoder). tally text (Whole 0) 0 (decoded sw d s)) (sym from)

    at_end_law : (b : Bool) → may_end st ≡ b → measured (content_of sw text body s) ≡ tally text u n (cond b (some []) none)
    at_end_law b e = whole ∙ A.same ∙ ap (tally text u n) (decoded_end sw st s i past ∙ ap (λ (x : Bool). cond x (some []) none) e)

    none_left : n + 0 ≡ n
    none_left = omega arith

    ends : may_end st ≡ true → measured (content_of sw text body s) ≡ cond (not text || is_whole u) (Some n) None
    unfolding tally feed
    ends e = at_end_law true e ∙ ap (λ (k : ℕ). cond (not text || is_whole u) (Some k) None) none_left

    pub tally_cut : may_end st ≡ false → measured (content_of sw text body s) ≡ None
    unfolding tally
    tally_cut e = at_end_law false e

    pub tally_some : may_end st ≡ true → (not text || is_whole u) ≡ true → Some n ≡ measured (content_of sw text body s)
    tally_some e w = sym (ends e ∙ (λ z. cond (w z) (Some n) None))

    pub tally_end : measured (content_of sw text body s) ≡ cond (may_end st && (not text || is_whole u)) (Some n) None
    tally_end = by_end (may_end st) refl
      where
        by_end : (b : Bool) → may_end st ≡ b → measured (content_of sw text body s) ≡ cond (may_end st && (not text || is_whole u)) (Some n) None
        by_end true e = ends e ∙ (λ z. cond (sym e z && (not text || is_whole u)) (Some n) None)
        by_end false e = tally_cut e ∙ (λ z. cond (sym e z && (not text || is_whole u)) (Some n) None)
