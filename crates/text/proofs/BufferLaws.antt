-- Buffers written over: byte by byte, and one part after another.
-- Assumes nothing.
use mathlib.Core.Path.{◌≡◌, refl, sym, ap, ap₂, ◌∙◌}
use Prim.Native.Nat.{ℕ, ◌+◌, ◌<◌, ◌≤◌}
use native.Mathlib.Omega.{arith}
use native.Mathlib.Numerals.{add-one}
use mathlib.Core.List.{List, ◌++◌, append_assoc}
use borrow.Rule.Slice.PartMut.{put_mid}
use Rattle.std.proofs.lemmas.Slice.{put_mid-paste}
use lib.ListN.{length, take, drop, get_or, set, length-append, length-drop}
use lib.Seq.{paste, paste-suc, take-length, take_at, drop_at, drop-drop, length-take-le}
use Rattle.text.specs.Buffers.{overwritten}

pub length_overwritten : (k : ℕ) (x buf : List ℕ) → k + length x ≤ length buf → length (overwritten k x buf) ≡ length buf
unfolding overwritten
length_overwritten k x buf h =
    let a = length-append (take k buf) (x ++ drop (k + length x) buf) in
    let b = length-append x (drop (k + length x) buf) in
    let c = length-take-le k buf (omega arith) in
    let d = length-drop (k + length x) buf in
    omega arith

pub take_overwritten : (k : ℕ) (x buf : List ℕ) → k + length x ≤ length buf → take (k + length x) (overwritten k x buf) ≡ take k buf ++ x
unfolding overwritten
take_overwritten k x buf h =
    let c = length-take-le k buf (omega arith) in
    ap (take (k + length x)) (sym (append_assoc (take k buf) x (drop (k + length x) buf)))
    ∙ take_at (take k buf ++ x) (drop (k + length x) buf) (k + length x) (length-append (take k buf) x ∙ ap (λ (n : ℕ). n + length x) c)

-- ---- a loop that writes `s` over `d` from `at` on, a byte a turn: after n turns it is `paste d at s n`

pub paste_next : (d : List ℕ) (at : ℕ) (s : List ℕ) (j : ℕ) → at + j < length d → j < length s
    → set (paste d at s j) (at + j) (get_or s j 0) ≡ paste d at s (j + 1)
paste_next d at s j h k = paste-suc d at s j 0 h k ∙ ap (paste d at s) (sym (add-one j))

pub paste_whole : (d : List ℕ) (at : ℕ) (s : List ℕ) (n : ℕ) → n ≡ length s → paste d at s n ≡ overwritten at s d
unfolding overwritten
paste_whole d at s n e =
    ap (paste d at s) e
    ∙ ap (λ (l : List ℕ). take at d ++ l ++ drop (at + length s) d) (take-length s)
    ∙ append_assoc (take at d) s (drop (at + length s) d)

-- ---- `s` copied to the part of `d` from `at` on

pub put_mid_whole : (at k : ℕ) (s part d : List ℕ) → k ≡ length s → part ≡ s → put_mid at k d part ≡ overwritten at s d
unfolding overwritten
put_mid_whole at k s part d e f =
    put_mid-paste at k d part s (length s) f (sym e) refl
    ∙ ap (λ (l : List ℕ). take at d ++ l ++ drop (at + length s) d) (take-length s)
    ∙ append_assoc (take at d) s (drop (at + length s) d)

-- ---- one part after another

pub drop_overwritten : (at : ℕ) (a d : List ℕ) → at + length a ≤ length d → drop (at + length a) (overwritten at a d) ≡ drop (at + length a) d
unfolding overwritten
drop_overwritten at a d h =
    let t = length-take-le at d (omega arith) in
    ap (drop (at + length a)) (sym (append_assoc (take at d) a (drop (at + length a) d)))
    ∙ drop_at (take at d ++ a) (drop (at + length a) d) (at + length a) (length-append (take at d) a ∙ ap (λ (n : ℕ). n + length a) t)

-- b, where a ended
pub over_join : (at : ℕ) (a b d : List ℕ) (n : ℕ) → n ≡ at + length a → at + length a ≤ length d
    → overwritten n b (overwritten at a d) ≡ overwritten at (a ++ b) d
unfolding overwritten
over_join at a b d n e h =
    let m : List ℕ = overwritten at a d in
    let l = length-append a b in
    let f : at + length a + length b ≡ at + length (a ++ b) = omega arith in
    ap (λ (k : ℕ). take k m ++ (b ++ drop (k + length b) m)) e
    ∙ ap₂ (λ (x y : List ℕ). x ++ (b ++ y)) (take_overwritten at a d h)
    (sym (drop-drop (length b) (at + length a) m) ∙ ap (drop (length b)) (drop_overwritten at a d h) ∙ drop-drop (length b) (at + length a) d
    ∙ ap (λ (k : ℕ). drop k d) f)
    ∙ append_assoc (take at d) a (b ++ drop (at + length (a ++ b)) d)
    ∙ ap (λ (x : List ℕ). take at d ++ x) (sym (append_assoc a b (drop (at + length (a ++ b)) d)))
