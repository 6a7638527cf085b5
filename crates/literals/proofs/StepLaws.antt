-- Laws of one step of the decoder: its numbers keep their room, and it never gives more bytes than it has taken.
-- Assumes nothing.
use mathlib.Core.Path.{◌≡◌, ap}
use Prim.Native.Nat.{ℕ, zero, suc, ◌+◌, ◌-◌, ◌*◌, ◌%◌, ◌<◌, ◌≤◌}
use native.Mathlib.Omega.{arith}
use native.Mathlib.Numerals.{add-one}
use mathlib.Core.Bool.{Bool, true, false, cond, ◌&&◌}
use mathlib.Core.Option.{Option, none, some}
use mathlib.Core.List.{List, []}
use lib.Dec.{ltb, ltb→lt}
use lib.ListN.{length, drop, get_or, drop_of_length-le}
use lib.Seq.{drop-cons}
use Rattle.text.specs.declared.switches.Switches.{Switches}
use Rattle.text.specs.Bytes.{is, is_space, is_digit_in, digit_value}
use Rattle.text.specs.Utf8.{is_scalar, encode, listed}
use Rattle.text.proofs.Choice.{cond_both}
use Rattle.literals.specs.declared.decoder.Decoder.{Decoder}
use Rattle.literals.specs.declared.decoder.Decoder.TheVariants.{Plain, Escape, Hex, Verbatim, Letters, Digits, Pads, Bad}
use Rattle.literals.specs.declared.decoder.Decoded.{Decoded}
use Rattle.literals.specs.Content.{on, one_letter, hex_done, hex_digit, hex_step, quoted_refuses, plain_step, many_digits, escaped, escape_step, raw_refuses, raw_step, sextet, base64_digit, whole_bytes, pad, digits_step, pads_step, decode_step, may_end, prepend, decoded}
use Rattle.literals.specs.InternalContent.{hex_room, bit_room, Sound}
use Rattle.text.proofs.FewLaws.{few_short}

-- bytes that have been taken and of which nothing has been given yet, at least
unfoldable pub spent : Decoder → ℕ
spent Plain = 0
spent Escape = 1
spent (Hex byte left v) = 3 - left
spent Verbatim = 0
spent Letters = 0
spent (Digits q rest) = 0
spent (Pads left) = 0
spent Bad = 0

-- what a step gives, with at most m bytes taken so far
unfoldable pub Good : ℕ → Decoded → Type 0
Good m d = Sound d.state × (spent d.state + length (listed d.out) ≤ m)

module _ (m : ℕ) where
  bad_good : Good m (on Bad)
  unfolding Good Sound spent listed
  bad_good = (tt, omega arith)

  pad_good : (left : ℕ) → Good m (pad left)
  unfolding Good Sound spent listed pad
  pad_good zero = (tt, omega arith)
  pad_good (suc left) = (tt, omega arith)

plain_good : (sw : Switches) (b : ℕ) → Good 1 (plain_step sw b)
unfolding Good Sound spent listed plain_step
plain_good sw b =
    cond_both (Good 1) (is "\\" b) (λ _. (tt, omega arith))
    (λ _. cond_both (Good 1) (quoted_refuses sw b) (λ _. bad_good 1) (λ _. (tt, omega arith)))

many_good : (sw : Switches) (b : ℕ) → Good 2 (many_digits sw b)
unfolding Good Sound spent listed many_digits hex_room
many_good sw b =
    cond_both (Good 2) (is "x" b) (λ _. (omega arith, omega arith))
    (λ _. cond_both (Good 2) (is "u" b) (λ _. (omega arith, omega arith))
    (λ _. cond_both (Good 2) (sw.long_escape && is "U" b) (λ _. (omega arith, omega arith)) (λ _. bad_good 2)))

escaped_good : (sw : Switches) (b : ℕ) (o : Option ℕ) → Good 2 (escaped sw b o)
unfolding Good Sound spent listed escaped
escaped_good sw b none = many_good sw b
escaped_good sw b (some v) = (tt, omega arith)

done_good : (byte : Bool) (v : ℕ) → Good 4 (hex_done byte v)
unfolding Good Sound spent listed hex_done
done_good true v = (tt, omega arith)
done_good false v =
    cond_both (Good 4) (is_scalar v) (λ _. (tt, let h = few_short (encode v) in omega arith)) (λ _. bad_good 4)

hex_good : (byte : Bool) (left v d : ℕ) → v < hex_room byte left → d < 16 → Good (3 - left + 1) (hex_digit byte left (v * 16 + d))
unfolding Good Sound spent listed hex_digit hex_room
hex_good byte zero v d h k = done_good byte (v * 16 + d)
hex_good byte (suc left) v d h k = (omega arith, omega arith)

raw_good : (sw : Switches) (b : ℕ) → Good 1 (raw_step sw b)
unfolding Good Sound spent listed raw_step
raw_good sw b = cond_both (Good 1) (raw_refuses sw b) (λ _. bad_good 1) (λ _. (tt, omega arith))

base64_good : (q rest v : ℕ) → rest < bit_room q → v < 64 → Good 1 (base64_digit q rest v)
unfolding Good Sound spent listed base64_digit bit_room
base64_good zero rest v h k = (k, omega arith)
base64_good (suc zero) rest v h k = (omega arith, omega arith)
base64_good (suc (suc zero)) rest v h k = (omega arith, omega arith)
base64_good (suc (suc (suc q))) rest v h k = (omega arith, omega arith)

digits_good : (q rest b : ℕ) → rest < bit_room q → Good 1 (digits_step q rest b)
unfolding Good Sound spent listed digits_step
digits_good q rest b h =
    cond_both (Good 1) (is_space b) (λ _. (h, omega arith))
    (λ _. cond_both (Good 1) (is "=" b)
    (λ _. cond_both (Good 1) (whole_bytes q rest) (λ _. pad_good 1 ((4 - q) % 4)) (λ _. bad_good 1))
    (λ _. cond_both (Good 1) (ltb (sextet b) 64) (λ t. base64_good q rest (sextet b) h (ltb→lt (sextet b) 64 t)) (λ _. bad_good 1)))

pads_good : (left b : ℕ) → Good 1 (pads_step left b)
unfolding Good Sound spent listed pads_step
pads_good left b =
    cond_both (Good 1) (is_space b) (λ _. (tt, omega arith))
    (λ _. cond_both (Good 1) (is "=" b) (λ _. pad_good 1 left) (λ _. bad_good 1))

pub good_step : (sw : Switches) (st : Decoder) (b : ℕ) → Sound st → Good (spent st + 1) (decode_step sw st b)
unfolding Good Sound spent listed decode_step escape_step hex_step
good_step sw Plain b s = plain_good sw b
good_step sw Escape b s = escaped_good sw b (one_letter b)
good_step sw (Hex byte left v) b s =
    cond_both (Good (3 - left + 1)) (is_digit_in 16 b) (λ t. hex_good byte left v (digit_value b) s (ltb→lt (digit_value b) 16 t))
    (λ _. bad_good (3 - left + 1))
good_step sw Verbatim b s = raw_good sw b
good_step sw Letters b s = (tt, omega arith)
good_step sw (Digits q rest) b s = digits_good q rest b s
good_step sw (Pads left) b s = pads_good left b
good_step sw Bad b s = bad_good 1

-- the same for the code's answer
pub good_next : (sw : Switches) (st : Decoder) (b : ℕ) (d : Decoded) → Sound st → d ≡ decode_step sw st b
    → Sound d.state × (spent d.state + length (listed d.out) ≤ spent st + 1)
unfolding Good
good_next sw st b d s e = rw e (good_step sw st b s)

-- a content, one byte on
pub decoded_turn : (sw : Switches) (st : Decoder) (d : Decoded) (s : List ℕ) (i : ℕ) → i < length s → d ≡ decode_step sw st (get_or s i 0)
    → decoded sw st (drop i s) ≡ prepend (listed d.out) (decoded sw d.state (drop (i + 1) s))
unfolding decoded
decoded_turn sw st d s i h e = rw (e, add-one, drop-cons s i 0 h)

-- and at its end
pub decoded_end : (sw : Switches) (st : Decoder) (s : List ℕ) (i : ℕ) → length s ≤ i → decoded sw st (drop i s) ≡ cond (may_end st) (some []) none
unfolding decoded
decoded_end sw st s i h = ap (decoded sw st) (drop_of_length-le s h)
