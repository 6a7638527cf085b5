-- Numbers of four bytes, and entries, as the code writes and reads them.
-- Assumes nothing.
use mathlib.Core.Path.{◌≡◌, refl, sym, ap, ◌∙◌}
use Prim.Native.Nat.{ℕ, ◌+◌, ◌*◌, ◌≤◌}
use native.Mathlib.Omega.{arith}
use mathlib.Core.List.{List, ◌++◌, append_assoc}
use lib.ListN.{length, drop, get_or, length-append}
use lib.Seq.{get_or-drop}
use Rattle.text.specs.Buffers.{overwritten}
use Rattle.editor.specs.Edit.{le32, from_le32, trailer, trailer_bytes}
use Rattle.text.proofs.BufferLaws.{over_join}

-- the four loads
pub number_read : (s : List ℕ) (at : ℕ)
    → get_or s at 0 + get_or s (at + 1) 0 * 256 + get_or s (at + 2) 0 * 65536 + get_or s (at + 3) 0 * 16777216 ≡ from_le32 (drop at s)
unfolding from_le32
number_read s at =
    let e : at ≡ at + 0 = omega arith in
    let z : get_or s at 0 ≡ get_or (drop at s) 0 0 = ap (λ (k : ℕ). get_or s k 0) e ∙ sym (get_or-drop at s 0 0) in
    λ i. z i + sym (get_or-drop at s 1 0) i * 256 + sym (get_or-drop at s 2 0) i * 65536 + sym (get_or-drop at s 3 0) i * 16777216

length_le32 : (n : ℕ) → length (le32 n) ≡ 4
unfolding le32
length_le32 n = refl

-- the old bytes, and the three numbers of the trailer
pub entry_put : (d old : List ℕ) (at start new : ℕ) → at + length old + trailer_bytes ≤ length d
    → overwritten (at + length old + 8) (le32 (length old + trailer_bytes))
    (overwritten (at + length old + 4) (le32 new) (overwritten (at + length old) (le32 start) (overwritten at old d)))
    ≡ overwritten at (old ++ trailer start new (length old)) d
unfolding trailer
entry_put d old at start new h =
    let a : List ℕ = le32 start in
    let b : List ℕ = le32 new in
    let c : List ℕ = le32 (length old + trailer_bytes) in
    let la = length_le32 start in
    let lb = length_le32 new in
    let l₁ = length-append old a in
    let l₂ = length-append (old ++ a) b in
    ap (λ (x : List ℕ). overwritten (at + length old + 8) c (overwritten (at + length old + 4) b x))
    (over_join at old a d (at + length old) refl (omega arith))
    ∙ ap (overwritten (at + length old + 8) c) (over_join at (old ++ a) b d (at + length old + 4) (omega arith) (omega arith))
    ∙ over_join at (old ++ a ++ b) c d (at + length old + 8) (omega arith) (omega arith)
    ∙ ap (λ (x : List ℕ). overwritten at x d) (append_assoc (old ++ a) b c ∙ append_assoc old a (b ++ c))
