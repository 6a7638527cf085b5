-- A content written in one go: what the loop of `copy_content` knows.
-- Assumes nothing.
use Rattle.std.specs.Prelude.{Some, None}
use mathlib.Core.Path.{◌≡◌, refl, sym, ap, ◌∙◌}
use Prim.Native.Nat.{ℕ, ◌+◌, ◌-◌, ◌<◌, ◌≤◌}
use native.Mathlib.Omega.{arith}
use mathlib.Core.Bool.{Bool, true, false, cond}
use mathlib.Core.Option.{Option, none, some}
use mathlib.Core.List.{List, [], ◌++◌, append-nil}
use lib.ListN.{length, take, drop, get_or, length-append, length-drop, drop_of_length-le}
use lib.Seq.{sets, length-sets, length-take-le, drop-append-le}
use Rattle.text.specs.declared.switches.Switches.{Switches}
use Rattle.text.specs.declared.few.Few.TheVariants.{One}
use Rattle.text.specs.Utf8.{listed}
use Rattle.text.proofs.ListLaws.{take_sets}
use Rattle.literals.specs.declared.decoder.Body.{Body}
use Rattle.literals.specs.declared.decoder.Decoder.{Decoder}
use Rattle.literals.specs.declared.decoder.Decoded.{Decoded}
use Rattle.literals.specs.Content.{gives, decode_step, may_end, prepend, decoded, start_of, content}
use Rattle.literals.specs.InternalContent.{Sound, OwnByteIf, Copied}
use Rattle.literals.proofs.StepLaws.{good_next, decoded_turn, decoded_end}
use Rattle.literals.proofs.TallyLaws.{start_sound}
use Rattle.literals.proofs.FillLaws.{prepend_both, prepend_none}

-- ---- the loop

-- what the loop knows at i, where the decoder was at `first` at the start
pub record Copying (sw : Switches) (first : Decoder) (s : List ℕ) (size : ℕ) (out : List ℕ) (st : Decoder) (at k i : ℕ) : Type 0 where
  pub within : i ≤ length s
  pub sound : Sound st
  pub long : length out ≡ size
  pub ahead : at ≤ k
  pub fits : k ≤ length out
  pub same : decoded sw first s ≡ prepend (drop at (take k out)) (decoded sw st (drop i s))

nothing_yet : (l : List ℕ) (at : ℕ) → at ≤ length l → drop at (take at l) ≡ []
nothing_yet l at h = let t = length-take-le at l h in drop_of_length-le (take at l) {i = at} (omega arith)

pub copy_start : {sw : Switches} (body : Body) {s out : List ℕ} {st : Decoder} {at : ℕ} → st ≡ start_of body → at ≤ length out → Copying sw st s (length out) out st at at 0
copy_start {sw} body {s} {out} {st} {at} e h =
    record {
      within = omega arith;
      sound = rw e (start_sound body).0;
      long = refl;
      ahead = omega arith;
      fits = h;
      same = prepend_none (decoded sw st s) ∙ ap (λ (l : List ℕ). prepend l (decoded sw st s)) (sym (nothing_yet out at h));
    }

-- a content that begins with some bytes is as long as they are
prepend_long : (a : List ℕ) (o : Option (List ℕ)) (w : List ℕ) → prepend a o ≡ some w → length a ≤ length w
unfolding prepend
prepend_long a none w e = let z : ◌≡◌ {A = ℕ} 0 1 = cc in absurd (omega arith)
prepend_long a (some c) w e = let v : a ++ c ≡ w = cc in let l = length-append a c in let m = ap (length {A = ℕ}) v in omega arith

prepend_end : (a : List ℕ) (b : Bool) (w : List ℕ) → prepend a (cond b (some []) none) ≡ some w → a ≡ w
unfolding prepend
prepend_end a true w e = let v : a ++ [] ≡ w = cc in sym (append-nil a) ∙ v
prepend_end a false w e = let z : ◌≡◌ {A = ℕ} 0 1 = cc in absurd (omega arith)

module _ {sw : Switches} {first : Decoder} {s : List ℕ} {size : ℕ} {out : List ℕ} {st : Decoder} {at k i : ℕ} (A : Copying sw first s size out st at k i) where
  written : length (drop at (take k out)) ≡ k - at
  written = let l = length-drop at (take k out) in let t = length-take-le k out A.fits in omega arith

  module _ (d : Decoded) (h : i < length s) (e : d ≡ decode_step sw st (get_or s i 0)) where
    next_same : decoded sw first s ≡ prepend (drop at (take k out) ++ listed d.out) (decoded sw d.state (drop (i + 1) s))
    next_same =
        A.same ∙ ap (prepend (drop at (take k out))) (decoded_turn sw st d s i h e)
        ∙ prepend_both (drop at (take k out)) (listed d.out) (decoded sw d.state (drop (i + 1) s))

    pub copy_turn : (next : List ℕ) (n : ℕ) → n ≡ length (listed d.out) → k + n ≤ length out → next ≡ sets out k (listed d.out)
        → Copying sw first s size next d.state at (k + n) (i + 1)
    copy_turn next n q r p =
        let g = good_next sw st (get_or s i 0) d A.sound e in
        let l = length-sets out k (listed d.out) in
        let t = length-take-le k out A.fits in
        let u : k + length (listed d.out) ≤ length out = omega arith in
        rw (p, q)
        (record {
          within = omega arith;
          sound = g.0;
          long = l ∙ A.long;
          ahead = let a = A.ahead in omega arith;
          fits = omega arith;
          same =
              next_same
              ∙ ap (λ (x : List ℕ). prepend x (decoded sw d.state (drop (i + 1) s)))
              (sym (ap (drop at) (take_sets out (listed d.out) k u) ∙ drop-append-le at (take k out) (listed d.out) (let a = A.ahead in omega arith)));
        })

    -- no room
    pub copy_long : (n : ℕ) → n ≡ length (listed d.out) → length out < k + n → (body : Body) → first ≡ start_of body → Copied (content sw body s) at out None
    unfolding content
    copy_long n q r body f =
        record {
          is =
              λ w c.
              let a = prepend_long (drop at (take k out) ++ listed d.out) (decoded sw d.state (drop (i + 1) s)) w (sym next_same ∙ ap (λ (x : Decoder). decoded sw x s) f ∙ c) in
              let l = length-append (drop at (take k out)) (listed d.out) in
              let u = written in
              let v = A.ahead in
              record { is = omega arith };
        }

  pub copy_end : (body : Body) → first ≡ start_of body → length s ≤ i → Copied (content sw body s) at out (Some k)
  unfolding content
  copy_end body f h =
      record {
        is =
            λ w c.
            let a = prepend_end (drop at (take k out)) (may_end st) w
            (ap (prepend (drop at (take k out))) (sym (decoded_end sw st s i h)) ∙ sym A.same ∙ ap (λ (x : Decoder). decoded sw x s) f ∙ c) in
            let u = written in
            let v = A.ahead in
            let g = ap (length {A = ℕ}) a in
            let o = A.fits in
            record { is = (omega arith, omega arith, a) };
      }

-- a byte that stands for itself, as a step of the decoder
pub own_step : (sw : Switches) {st : Decoder} {b c : ℕ} {r : Bool} → OwnByteIf st b r → r ≡ true → b ≡ c → gives st (One b) ≡ decode_step sw st c
own_step sw {st} {b} {c} {r} O e q = sym (O.is e sw) ∙ ap (decode_step sw st) q
