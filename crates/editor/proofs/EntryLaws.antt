-- Numbers of 32 bits, low byte first, and the trailer at a journal's end: what is read back is what was written.
-- Assumes nothing.
use mathlib.Core.Path.{◌≡◌, refl, sym, ap, ◌∙◌}
use Prim.Native.Nat.{ℕ, ◌+◌, ◌-◌, ◌*◌, ◌/◌, ◌%◌, ◌≤◌, ◌<◌}
use native.Mathlib.Omega.{arith}
use native.Mathlib.Nat.{div-div-eq-div-mul, div-add-mod', mod-eq_of_lt, div-lt_iff_lt-mul}
use mathlib.Core.List.{List, [], ◌++◌}
use lib.Dec.{lit<}
use lib.ListN.{length, drop, length-append}
use lib.Seq.{drop-append-add}
use Rattle.editor.specs.Edit.{le32, from_le32, trailer, trailer_bytes, trailer_number, entry_start, entry_new, entry_size}

sum4 : (n q₁ q₂ q₃ r₀ r₁ r₂ r₃ : ℕ) → q₁ * 256 + r₀ ≡ n → q₂ * 256 + r₁ ≡ q₁ → q₃ * 256 + r₂ ≡ q₂ → r₃ ≡ q₃
    → r₀ + r₁ * 256 + r₂ * 65536 + r₃ * 16777216 ≡ n
sum4 n q₁ q₂ q₃ r₀ r₁ r₂ r₃ e₁ e₂ e₃ e₄ = omega arith

le32_sum : (n : ℕ) → n < 4294967296
    → n % 256 + n / 256 % 256 * 256 + n / 65536 % 256 * 65536 + n / 16777216 % 256 * 16777216 ≡ n
le32_sum n h =
    sum4 n (n / 256) (n / 65536) (n / 16777216) (n % 256) (n / 256 % 256) (n / 65536 % 256) (n / 16777216 % 256)
    (div-add-mod' n 256)
    (ap (λ (q : ℕ). q * 256 + n / 256 % 256) (sym (div-div-eq-div-mul n 256 256)) ∙ div-add-mod' (n / 256) 256)
    (ap (λ (q : ℕ). q * 256 + n / 65536 % 256) (sym (div-div-eq-div-mul n 65536 256)) ∙ div-add-mod' (n / 65536) 256)
    (mod-eq_of_lt ((div-lt_iff_lt-mul (lit< tt)).1 h))

pub from_le32_law : (n : ℕ) (l : List ℕ) → n < 4294967296 → from_le32 (le32 n ++ l) ≡ n
unfolding from_le32 le32
from_le32_law n l h = le32_sum n h

pub length_trailer : (a m o : ℕ) → length (trailer a m o) ≡ trailer_bytes
unfolding trailer le32
length_trailer a m o = refl

-- the three numbers of a trailer at a journal's end
trailer_at : (x : List ℕ) (a m o : ℕ) (i : ℕ) → i ≤ 2
    → trailer_number i (x ++ trailer a m o) ≡ from_le32 (drop (4 * i) (trailer a m o))
unfolding trailer_number
trailer_at x a m o i h =
    let n : length (x ++ trailer a m o) ≡ length x + trailer_bytes = length-append x (trailer a m o) ∙ ap (λ (k : ℕ). length x + k) (length_trailer a m o) in
    let e : length (x ++ trailer a m o) - trailer_bytes + 4 * i ≡ length x + 4 * i = omega arith in
    ap (λ (k : ℕ). from_le32 (drop k (x ++ trailer a m o))) e
    ∙ ap from_le32 (drop-append-add x (trailer a m o) (4 * i))

pub trailer_start : (x : List ℕ) (a m o : ℕ) → a < 4294967296 → entry_start (x ++ trailer a m o) ≡ a
unfolding trailer le32
trailer_start x a m o h = trailer_at x a m o 0 (omega arith) ∙ from_le32_law a (le32 m ++ le32 (o + trailer_bytes)) h

pub trailer_new : (x : List ℕ) (a m o : ℕ) → m < 4294967296 → entry_new (x ++ trailer a m o) ≡ m
unfolding trailer le32
trailer_new x a m o h = trailer_at x a m o 1 (omega arith) ∙ from_le32_law m (le32 (o + trailer_bytes)) h

pub trailer_size : (x : List ℕ) (a m o : ℕ) → o + trailer_bytes < 4294967296 → entry_size (x ++ trailer a m o) ≡ o + trailer_bytes
unfolding trailer le32
trailer_size x a m o h = trailer_at x a m o 2 (omega arith) ∙ from_le32_law (o + trailer_bytes) [] h
