-- Buffers written over: with zeros, and one part after another.
-- Assumes nothing.
use mathlib.Core.Path.{◌≡◌, sym, ap, ap₂, ◌∙◌}
use Prim.Native.Nat.{ℕ, ◌+◌, ◌-◌, ◌≤◌, max}
use native.Mathlib.Omega.{arith}
use mathlib.Core.List.{List, ◌++◌, append_assoc}
use lib.ListN.{length, take, drop, replicate, take-append-drop, length-append, length-drop, length-replicate}
use lib.Seq.{take_all, drop-drop, length-take-le}
use Rattle.text.specs.Buffers.{overwritten}
use Rattle.editor.specs.Edit.{splice, with_text}
use Rattle.text.proofs.BufferLaws.{over_join}

-- zeros from `from` to before `to`, as a store of that part leaves them
pub zeros_put : (d : List ℕ) (from to : ℕ) (zeros : List ℕ) → from ≤ to → to ≤ length d → zeros ≡ replicate (length (take (to - from) (drop from d))) 0
    → take from d ++ (zeros ++ drop (to - from) (drop from d)) ≡ overwritten from (replicate (to - from) 0) d
unfolding overwritten
zeros_put d from to zeros h k e =
    let n = length-replicate {A = ℕ} (to - from) 0 in
    let l : length (take (to - from) (drop from d)) ≡ to - from = let a = length-drop from d in length-take-le (to - from) (drop from d) (omega arith) in
    let f : from + (to - from) ≡ from + length (replicate {A = ℕ} (to - from) 0) = omega arith in
    ap₂ (λ (x y : List ℕ). take from d ++ (x ++ y)) (e ∙ ap (λ (m : ℕ). replicate m 0) l) (drop-drop (to - from) from d ∙ ap (λ (m : ℕ). drop m d) f)

-- no zeros, where there is nothing between
pub no_zeros : (d : List ℕ) (from to : ℕ) → to ≤ from → d ≡ overwritten from (replicate (to - from) 0) d
unfolding overwritten
no_zeros d from to h =
    let e : to - from ≡ 0 = omega arith in
    let z : from + 0 ≡ from = omega arith in
    sym (ap (λ (k : ℕ). take from d ++ (replicate k 0 ++ drop (from + length (replicate {A = ℕ} k 0)) d)) e ∙ ap (λ (k : ℕ). take from d ++ drop k d) z ∙ take-append-drop from d)

-- a new text, and zeros after it
pub over_text : (used : ℕ) (new d : List ℕ) → length new ≤ length d
    → overwritten (length new) (replicate (used - length new) 0) (overwritten 0 new d) ≡ with_text used new d
unfolding with_text overwritten
over_text used new d h =
    let zeros : List ℕ = replicate (used - length new) 0 in
    let l = length-append new zeros in
    let n = length-replicate {A = ℕ} (used - length new) 0 in
    let e : 0 + length (new ++ zeros) ≡ max used (length new) = omega arith in
    over_join 0 new zeros d (length new) (omega arith) (omega arith)
    ∙ append_assoc new zeros (drop (0 + length (new ++ zeros)) d)
    ∙ ap (λ (k : ℕ). new ++ (zeros ++ drop k d)) e

-- a text's front, a replacement, and the text's rest, which is lent as a part of so many bytes
pub over_splice : (start stop : ℕ) (r t d : List ℕ) → start ≤ length t → start + length r ≤ length d
    → overwritten (start + length r) (take (length t - stop) (drop stop t)) (overwritten start r (overwritten 0 (take start t) d))
    ≡ overwritten 0 (splice start stop r t) d
unfolding splice
over_splice start stop r t d h k =
    let l = length-take-le start t h in
    let m = length-append (take start t) r in
    let n = length-drop stop t in
    let e : take (length t - stop) (drop stop t) ≡ drop stop t = take_all (length t - stop) (drop stop t) (omega arith) in
    ap₂ (overwritten (start + length r)) e (over_join 0 (take start t) r d start (omega arith) (omega arith))
    ∙ over_join 0 (take start t ++ r) (drop stop t) d (start + length r) (omega arith) (omega arith)
    ∙ ap (λ (x : List ℕ). overwritten 0 x d) (append_assoc (take start t) r (drop stop t))
