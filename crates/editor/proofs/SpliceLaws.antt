-- Parts of a text put in place of others, and buffers with a new text: how long they are, and what stands in front.
-- Assumes nothing.
use mathlib.Core.Path.{◌≡◌, sym, ap, ap₂, ◌∙◌}
use Prim.Native.Nat.{ℕ, ◌+◌, ◌-◌, ◌≤◌, max}
use native.Mathlib.Omega.{arith}
use mathlib.Core.List.{List, ◌++◌, append_assoc}
use lib.ListN.{length, take, drop, replicate, length-append, length-drop, take-append-drop, length-replicate}
use lib.Seq.{take_at, drop_at, take-add, length-take-le, take-append_seam}
use Rattle.reader.specs.Content.{part}
use Rattle.editor.specs.Edit.{splice, with_text}

-- ---- texts

pub length_part : (s e : ℕ) (t : List ℕ) → s ≤ e → e ≤ length t → length (part s e t) ≡ e - s
length_part s e t h k = let d = length-drop s t in length-take-le (e - s) (drop s t) (omega arith)

pub parts : (s e : ℕ) (t : List ℕ) → s ≤ e → take s t ++ (part s e t ++ drop e t) ≡ t
parts s e t h =
    let q : s + (e - s) ≡ e = omega arith in
    sym (append_assoc (take s t) (part s e t) (drop e t))
    ∙ ap (λ (l : List ℕ). l ++ drop e t) (sym (take-add s (e - s) t) ∙ ap (λ (n : ℕ). take n t) q)
    ∙ take-append-drop e t

-- a replaced part put back
pub splice_back : (s e : ℕ) (r t : List ℕ) → s ≤ e → e ≤ length t → splice s (s + length r) (part s e t) (splice s e r t) ≡ t
unfolding splice
splice_back s e r t h k =
    let a : length (take s t) ≡ s = length-take-le s t (omega arith) in
    let b : length (take s t ++ r) ≡ s + length r = length-append (take s t) r ∙ ap (λ (n : ℕ). n + length r) a in
    ap₂ (λ (x y : List ℕ). x ++ (part s e t ++ y))
    (take_at (take s t) (r ++ drop e t) s a)
    (ap (drop (s + length r)) (sym (append_assoc (take s t) r (drop e t))) ∙ drop_at (take s t ++ r) (drop e t) (s + length r) b)
    ∙ parts s e t h

pub length_splice : (s e : ℕ) (r t : List ℕ) → s ≤ e → e ≤ length t → length (splice s e r t) ≡ s + (length r + (length t - e))
unfolding splice
length_splice s e r t h k =
    length-append (take s t) (r ++ drop e t)
    ∙ ap₂ ◌+◌ (length-take-le s t (omega arith)) (length-append r (drop e t) ∙ ap (λ (n : ℕ). length r + n) (length-drop e t))

-- ---- buffers

pub length_with_text : (u : ℕ) (x buf : List ℕ) → u ≤ length buf → length x ≤ length buf → length (with_text u x buf) ≡ length buf
unfolding with_text
length_with_text u x buf h k =
    let a = length-append x (replicate (u - length x) 0 ++ drop (max u (length x)) buf) in
    let b = length-append (replicate (u - length x) 0) (drop (max u (length x)) buf) in
    let c = length-replicate {A = ℕ} (u - length x) 0 in
    let d = length-drop (max u (length x)) buf in
    omega arith

pub take_with_text : (u : ℕ) (x buf : List ℕ) → take (length x) (with_text u x buf) ≡ x
unfolding with_text
take_with_text u x buf = take-append_seam x (replicate (u - length x) 0 ++ drop (max u (length x)) buf)
