-- Laws of bytes that stand for themselves: printable ASCII other than the backslash, in every body but base64.
-- Assumes nothing.
use mathlib.Core.Path.{◌≡◌, refl}
use Prim.Native.Nat.{ℕ}
use native.Mathlib.Omega.{arith}
use mathlib.Core.Bool.{Bool, true, false, false≢true}
use mathlib.Core.List.{List}
use lib.ListN.{get_or}
use Rattle.text.specs.declared.switches.Switches.{Switches}
use Rattle.text.specs.declared.few.Few.TheVariants.{One}
use Rattle.literals.specs.declared.decoder.Body.{Body}
use Rattle.literals.specs.declared.decoder.Body.TheVariants.{Quoted, Raw, Base64, Word}
use Rattle.literals.specs.declared.decoder.Decoder.{Decoder}
use Rattle.literals.specs.declared.decoder.Decoder.TheVariants.{Plain, Escape, Hex, Verbatim, Letters, Digits, Pads, Bad}
use Rattle.literals.specs.Content.{gives, quoted_refuses, raw_refuses, plain_step, raw_step, decode_step, start_of}
use Rattle.literals.specs.InternalContent.{PlainByte, PlainFront, OwnByteIf, AsWritten}
use Rattle.std.proofs.lemmas.Grind.{common_steps}

-- ---- what the decoder does with them

module _ (sw : Switches) (b : ℕ) (B : PlainByte b) where
  pub quoted_plain : decode_step sw Plain b ≡ gives Plain (One b)
  unfolding decode_step plain_step quoted_refuses
  quoted_plain = grind (arith, common_steps)

  pub raw_plain : decode_step sw Verbatim b ≡ gives Verbatim (One b)
  unfolding decode_step raw_step raw_refuses
  raw_plain = grind (arith, common_steps)

  pub word_plain : decode_step sw Letters b ≡ gives Letters (One b)
  unfolding decode_step
  word_plain = refl

-- where they stand for themselves
unfoldable pub plainly : Decoder → Bool
plainly Plain = true
plainly Escape = false
plainly (Hex byte left v) = false
plainly Verbatim = true
plainly Letters = true
plainly (Digits q rest) = false
plainly (Pads left) = false
plainly Bad = false

own_step : (sw : Switches) (st : Decoder) (b : ℕ) → plainly st ≡ true → PlainByte b → decode_step sw st b ≡ gives st (One b)
unfolding plainly
own_step sw Plain b e B = quoted_plain sw b B
own_step sw Escape b e B = absurd (false≢true e)
own_step sw (Hex byte left v) b e B = absurd (false≢true e)
own_step sw Verbatim b e B = raw_plain sw b B
own_step sw Letters b e B = word_plain sw b B
own_step sw (Digits q rest) b e B = absurd (false≢true e)
own_step sw (Pads left) b e B = absurd (false≢true e)
own_step sw Bad b e B = absurd (false≢true e)

-- the same for the code's answers: a byte, and those at a body's front
pub own_byte : (st : Decoder) (b : ℕ) (r : Bool) → plainly st ≡ true → (r ≡ true → PlainByte b) → OwnByteIf st b r
own_byte st b r e f = record { is = λ t sw. own_step sw st b e (f t) }

start_plainly : (body : Body) → (body ≡ Base64 → ⊥) → plainly (start_of body) ≡ true
unfolding plainly start_of
start_plainly Quoted n = refl
start_plainly Raw n = refl
start_plainly Base64 n = absurd (n refl)
start_plainly Word n = refl

pub written_plain : (body : Body) (s : List ℕ) (n : ℕ) → (body ≡ Base64 → ⊥) → PlainFront s n → AsWritten body s n
written_plain body s n e A =
    record {
      inside = A.inside;
      low = λ k h. let m = (A.plain k h).high in omega arith;
      same = λ sw k h. own_step sw (start_of body) (get_or s k 0) (start_plainly body e) (A.plain k h);
    }
