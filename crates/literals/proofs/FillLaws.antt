-- A content written from the front: what the loop of `fill_front` knows, and how a measured content fits.
-- Assumes nothing.
use mathlib.Core.Path.{◌≡◌, refl, sym, ap, ◌∙◌, subst}
use Prim.Native.Nat.{ℕ, ◌+◌, ◌<◌, ◌≤◌}
use native.Mathlib.Omega.{arith}
use mathlib.Core.Bool.{Bool, true, false, cond}
use mathlib.Core.Option.{Option, none, some}
use mathlib.Core.List.{List, [], ◌++◌, append_assoc, append-nil}
use lib.ListN.{length, take, drop, get_or, length-append, take-append-drop}
use lib.Seq.{sets, length-sets, length-take-le, drop-drop}
use borrow.Author.Tests.{le-leb, lt-leb}
use Rattle.text.specs.declared.switches.Switches.{Switches}
use Rattle.text.specs.Utf8.{is_utf8, listed}
use Rattle.literals.specs.declared.decoder.Body.{Body}
use Rattle.literals.specs.declared.decoder.Decoder.{Decoder}
use Rattle.literals.specs.declared.decoder.Decoded.{Decoded}
use Rattle.std.specs.declared.option.Option.TheVariants as M
use Rattle.std.specs.declared.result.Result.TheVariants as W
use Rattle.literals.specs.declared.content.ContentError.TheVariants.{NoContent, NoRoom}
use Rattle.literals.specs.Content.{decode_step, may_end, prepend, decoded, start_of, content, only_utf8, content_of, measured, fitted, placed}
use Rattle.literals.specs.InternalContent.{Sound, HasRoom}
use Rattle.text.proofs.ListLaws.{take_sets, drop_sets}
use Rattle.literals.proofs.StepLaws.{good_next, decoded_turn, decoded_end}
use Rattle.literals.proofs.TallyLaws.{start_sound}

pub prepend_both : (a b : List ℕ) (o : Option (List ℕ)) → prepend a (prepend b o) ≡ prepend (a ++ b) o
unfolding prepend
prepend_both a b none = refl
prepend_both a b (some c) = ap some (sym (append_assoc a b c))

pub prepend_none : (o : Option (List ℕ)) → o ≡ prepend [] o
unfolding prepend
prepend_none none = refl
prepend_none (some c) = refl

room_front : (a : List ℕ) (o : Option (List ℕ)) (m : ℕ) → HasRoom (prepend a o) m → length a ≤ m
unfolding prepend HasRoom
room_front a none m h = absurd h
room_front a (some c) m h = let l = length-append a c in omega arith

-- what the loop knows at i, where the decoder was at `first` at the start and the output held `was`
pub record Filled (sw : Switches) (first : Decoder) (s was : List ℕ) (out : List ℕ) (st : Decoder) (k i : ℕ) : Type 0 where
  pub within : i ≤ length s
  pub sound : Sound st
  pub room : HasRoom (decoded sw first s) (length was)
  pub long : length out ≡ length was
  pub fits : k ≤ length out
  pub same : decoded sw first s ≡ prepend (take k out) (decoded sw st (drop i s))
  pub rest : drop k out ≡ drop k was

pub fill_start : (sw : Switches) (body : Body) (s out : List ℕ) (st : Decoder) → st ≡ start_of body → HasRoom (content sw body s) (length out)
    → Filled sw st s out out st 0 0
unfolding content
fill_start sw body s out st e h =
    let g = start_sound body in
    record {
      within = omega arith;
      sound = rw e g.0;
      room = rw e h;
      long = refl;
      fits = omega arith;
      same = prepend_none (decoded sw st s);
      rest = refl;
    }

module _ {sw : Switches} {first : Decoder} {s was out : List ℕ} {st : Decoder} {k i : ℕ} (A : Filled sw first s was out st k i) where
  module _ (d : Decoded) (h : i < length s) (e : d ≡ decode_step sw st (get_or s i 0)) where
    next_same : decoded sw first s ≡ prepend (take k out ++ listed d.out) (decoded sw d.state (drop (i + 1) s))
    next_same =
        A.same ∙ ap (prepend (take k out)) (decoded_turn sw st d s i h e)
        ∙ prepend_both (take k out) (listed d.out) (decoded sw d.state (drop (i + 1) s))

    -- the bytes of a step have room
    pub fill_room : k + length (listed d.out) ≤ length out
    fill_room =
        let r = room_front (take k out ++ listed d.out) (decoded sw d.state (drop (i + 1) s)) (length was)
        (subst (λ (o : Option (List ℕ)). HasRoom o (length was)) next_same A.room) in
        let l = length-append (take k out) (listed d.out) in
        let t = length-take-le k out A.fits in
        let w = A.long in
        omega arith

    pub fill_turn : (next : List ℕ) (n : ℕ) → next ≡ sets out k (listed d.out) → n ≡ length (listed d.out)
        → Filled sw first s was next d.state (k + n) (i + 1)
    fill_turn next n p q =
        let g = good_next sw st (get_or s i 0) d A.sound e in
        let l = length-sets out k (listed d.out) in
        let r = fill_room in
        let w = A.long in
        rw (p, q)
        (record {
          within = omega arith;
          sound = g.0;
          room = A.room;
          long = l ∙ w;
          fits = omega arith;
          same =
              next_same
              ∙ ap (λ (t : List ℕ). prepend t (decoded sw d.state (drop (i + 1) s))) (sym (take_sets out (listed d.out) k fill_room));
          rest =
              drop_sets out (listed d.out) k fill_room ∙ sym (drop-drop (length (listed d.out)) k out)
              ∙ ap (drop (length (listed d.out))) A.rest ∙ drop-drop (length (listed d.out)) k was;
        })

  last : (b : Bool) → HasRoom (prepend (take k out) (cond b (some []) none)) (length was) → out ≡ placed (prepend (take k out) (cond b (some []) none)) was
  unfolding HasRoom prepend placed
  last false h = absurd h
  last true h = rw (append-nil (take k out), length-take-le k out A.fits, le-leb k (length was) (omega arith), ← A.rest) (sym (take-append-drop k out))

  -- the whole content stands in front
  pub fill_end : (body : Body) → first ≡ start_of body → length s ≤ i → out ≡ placed (content sw body s) was
  unfolding content
  fill_end body e h =
      let a : decoded sw first s ≡ prepend (take k out) (cond (may_end st) (some []) none) =
      A.same ∙ ap (prepend (take k out)) (decoded_end sw st s i h) in
      last (may_end st) (subst (λ (o : Option (List ℕ)). HasRoom o (length was)) a A.room)
      ∙ ap (λ (o : Option (List ℕ)). placed o was) (sym a ∙ ap (λ (x : Decoder). decoded sw x s) e)

-- ---- how a measured content fits

module _ (out : List ℕ) where
  pub fit_refused : (o : Option (List ℕ)) → measured o ≡ M.None → (W.Err NoContent ≡ fitted (length out) o) × (out ≡ placed o out)
  unfolding measured fitted placed
  fit_refused none e = (refl, refl)
  fit_refused (some c) e = (cc, cc)

  pub fit_not : (o : Option (List ℕ)) (n : ℕ) → measured o ≡ M.Some n → length out < n → (W.Err NoRoom ≡ fitted (length out) o) × (out ≡ placed o out)
  unfolding measured fitted placed
  fit_not none n e h = (cc, cc)
  fit_not (some c) n e h =
      let z : length c ≡ n = cc in
      let y : length out < length c = omega arith in
      rw (lt-leb (length c) (length out) y) (refl, refl)

  pub fit_bytes : (o : Option (List ℕ)) (n : ℕ) → measured o ≡ M.Some n → n ≤ length out → W.Ok n ≡ fitted (length out) o
  unfolding measured fitted
  fit_bytes none n e h = cc
  fit_bytes (some c) n e h =
      let z : length c ≡ n = cc in
      let y : length c ≤ length out = omega arith in
      rw (le-leb (length c) (length out) y, z)

  fit_room : (o : Option (List ℕ)) (n : ℕ) → measured o ≡ M.Some n → n ≤ length out → HasRoom o (length out)
  unfolding measured HasRoom
  fit_room none n e h = let z : ◌≡◌ {A = ℕ} 0 1 = cc in absurd (omega arith)
  fit_room (some c) n e h = let z : length c ≡ n = cc in omega arith

  whole_one : (text : Bool) (o : Option (List ℕ)) (n : ℕ) → measured (cond text (only_utf8 o) o) ≡ M.Some n → cond text (only_utf8 o) o ≡ o
  unfolding measured only_utf8
  whole_one false o n e = refl
  whole_one true none n e = refl
  whole_one true (some c) n e = go (is_utf8 c) e
    where
      go : (b : Bool) → measured (cond b (some c) none) ≡ M.Some n → cond b (some c) none ≡ some c
      go true e = refl
      go false e = cc

  module _ (sw : Switches) (text : Bool) (body : Body) (s : List ℕ) (n : ℕ) (e : measured (content_of sw text body s) ≡ M.Some n) where
    -- what has been measured, UTF-8 included, is the content
    pub fit_same : content_of sw text body s ≡ content sw body s
    unfolding content_of
    fit_same = whole_one text (content sw body s) n e

    pub fit_content : n ≤ length out → HasRoom (content sw body s) (length out)
    fit_content h = subst (λ (o : Option (List ℕ)). HasRoom o (length out)) fit_same (fit_room (content_of sw text body s) n e h)
