-- The content of strings and keys (document 01, "Values", "Strings"): a function of what stands between the quotes; none is refusal 4.
-- The decoder's states are the code's own enum, src/decoder.rt; here their numbers are unbounded.
-- Assumes nothing.
use Rattle.std.specs.Prelude.{ℕ, zero, suc, ◌+◌, ◌-◌, ◌*◌, ◌/◌, ◌%◌, Bool, true, false, not, cond, ◌&&◌, ◌||◌, List, [], ◌∷◌, ◌++◌, leb, ltb, eqb, length, drop}
use Prim.Native.Char.{code}
use Rattle.std.proofs.Math.Option.{Option, none, some}
use Rattle.text.specs.declared.switches.Switches.{Switches}
use Rattle.text.specs.declared.few.Few.{Few}
use Rattle.text.specs.declared.few.Few.TheVariants.{Zero, One}
use Rattle.text.specs.Bytes.{is, within, is_space, is_capital, is_small, is_digit, is_digit_in, digit_value, same_bytes}
use Rattle.text.specs.Utf8.{is_utf8, is_scalar, encode, listed}
use Rattle.literals.specs.declared.decoder.Body.{Body}
use Rattle.literals.specs.declared.decoder.Body.TheVariants.{Quoted, Raw, Base64, Word}
use Rattle.literals.specs.declared.decoder.Decoder.{Decoder}
use Rattle.literals.specs.declared.decoder.Decoder.TheVariants.{Plain, Escape, Hex, Verbatim, Letters, Digits, Pads, Bad}
use Rattle.literals.specs.declared.decoder.Decoded.{Decoded}
use Rattle.std.specs.declared.option.Option as M
use Rattle.std.specs.declared.result.Result as W
use Rattle.literals.specs.declared.content.ContentError.{ContentError}
use Rattle.literals.specs.declared.content.ContentError.TheVariants.{NoContent, NoRoom}

-- the decoder's next state, and the bytes of content known with it
abbrev pub gives : Decoder → Few → Decoded
gives state out = record { state = state; out = out }

-- the next state, with no byte of content
abbrev pub on : Decoder → Decoded
on state = gives state Zero

-- ---- the quoted forms, `"` and `b"`

-- "Escapes, quoted forms only: `\0 \b \t \n \f \r \" \\`": the byte that each gives, by 000's table
unfoldable pub one_letter : ℕ → Option ℕ
one_letter b =
    cond (is "0" b) (some 0x00)
    (cond (is "b" b) (some 0x08)
    (cond (is "t" b) (some 0x09)
    (cond (is "n" b) (some 0x0A)
    (cond (is "f" b) (some 0x0C)
    (cond (is "r" b) (some 0x0D)
    (cond (is "\"" b) (some (code "\""))
    (cond (is "\\" b) (some (code "\\"))
    none)))))))

-- "`\u` and `\U` must name scalar values .. and give their UTF-8 .. `\x` gives one byte"
unfoldable pub hex_done : (byte : Bool) (v : ℕ) → Decoded
hex_done true v = gives Plain (One v)
hex_done false v = cond (is_scalar v) (gives Plain (encode v)) (on Bad)

-- a hex digit has been read: v is the value with it, and `left` digits are due
unfoldable pub hex_digit : (byte : Bool) (left v : ℕ) → Decoded
hex_digit byte zero v = hex_done byte v
hex_digit byte (suc left) v = on (Hex byte left v)

-- a byte where a hex digit is due and `left` more after it: v is the value so far
unfoldable pub hex_step : (byte : Bool) (left v b : ℕ) → Decoded
hex_step byte left v b = cond (is_digit_in 16 b) (hex_digit byte left (v * 16 + digit_value b)) (on Bad)

module _ (sw : Switches) where
  -- "Unescaped 00 to 09, 0B to 1F and 7F are refused with 4"; whether 09 and 0A are among them is the edition's
  unfoldable pub quoted_refuses : ℕ → Bool
  quoted_refuses b =
      leb b 0x08
      || eqb b 0x09 && not sw.quoted_tab
      || eqb b 0x0A && not sw.quoted_feed
      || within 0x0B 0x1F b
      || eqb b 0x7F

  -- a byte outside an escape: a backslash opens one, any other byte that isn't refused stands for itself
  unfoldable pub plain_step : ℕ → Decoded
  plain_step b = cond (is "\\" b) (on Escape) (cond (quoted_refuses b) (on Bad) (gives Plain (One b)))

  -- "`\xHH`, `\uHHHH`, `\UHHHHHHHH`; no others, so JSON's `\/` is refused"; whether `\U` is one is the edition's
  unfoldable pub many_digits : ℕ → Decoded
  many_digits b =
      cond (is "x" b) (on (Hex true 1 0))
      (cond (is "u" b) (on (Hex false 3 0))
      (cond (sw.long_escape && is "U" b) (on (Hex false 7 0))
      (on Bad)))

  -- the byte after a backslash, with what a one-letter escape gives if it is one
  unfoldable pub escaped : ℕ → Option ℕ → Decoded
  escaped b (some v) = gives Plain (One v)
  escaped b none = many_digits b

  -- the byte after a backslash
  unfoldable pub escape_step : ℕ → Decoded
  escape_step b = escaped b (one_letter b)

-- ---- the raw forms, `r` and `br`: no escapes

module _ (sw : Switches) where
  -- "Unescaped 00 to 09, 0B to 1F and 7F are refused with 4"; whether 0D is among them is the edition's
  unfoldable pub raw_refuses : ℕ → Bool
  raw_refuses b =
      leb b 0x09
      || within 0x0B 0x0C b
      || eqb b 0x0D && not sw.raw_return
      || within 0x0E 0x1F b
      || eqb b 0x7F

  -- a byte of a raw string: if it isn't refused, it stands for itself
  unfoldable pub raw_step : ℕ → Decoded
  raw_step b = cond (raw_refuses b) (on Bad) (gives Verbatim (One b))

-- ---- `b64"`: RFC 4648, section 4

-- "the alphabet of RFC 4648 section 4": the value of each of its bytes; 64 for any other byte
unfoldable pub sextet : ℕ → ℕ
sextet b =
    cond (is_capital b) (b - code "A")
    (cond (is_small b) (b - code "a" + 26)
    (cond (is_digit b) (b - code "0" + 52)
    (cond (is "+" b) 62
    (cond (is "/" b) 63
    64))))

-- a digit of value v, after q digits modulo 4 that left the bits `rest`
unfoldable pub base64_digit : (q rest v : ℕ) → Decoded
base64_digit zero rest v = on (Digits 1 v)
base64_digit (suc zero) rest v = gives (Digits 2 (v % 16)) (One (rest * 4 + v / 16))
base64_digit (suc (suc zero)) rest v = gives (Digits 3 (v % 4)) (One (rest * 16 + v / 4))
base64_digit (suc (suc (suc q))) rest v = gives (Digits 0 0) (One (rest * 64 + v))

-- "With d digits: d mod 4 is not 1; .. unused bits of the last digit zero"
unfoldable pub whole_bytes : (q rest : ℕ) → Bool
whole_bytes q rest = not (eqb q 1) && eqb rest 0

-- a pad where `left` may stand
unfoldable pub pad : (left : ℕ) → Decoded
pad zero = on Bad
pad (suc left) = on (Pads left)

-- "spaces ignored anywhere, pads last", "pads at most (4 - d mod 4) mod 4"
unfoldable pub digits_step : (q rest b : ℕ) → Decoded
digits_step q rest b =
    cond (is_space b) (on (Digits q rest))
    (cond (is "=" b) (cond (whole_bytes q rest) (pad ((4 - q) % 4)) (on Bad))
    (cond (ltb (sextet b) 64) (base64_digit q rest (sextet b)) (on Bad)))

-- a byte after a pad, where `left` more may stand: "spaces ignored anywhere, pads last"
unfoldable pub pads_step : (left b : ℕ) → Decoded
pads_step left b = cond (is_space b) (on (Pads left)) (cond (is "=" b) (pad left) (on Bad))

-- ---- the decoder

-- one byte more of a body
unfoldable pub decode_step : Switches → Decoder → ℕ → Decoded
decode_step sw Plain b = plain_step sw b
decode_step sw Escape b = escape_step sw b
decode_step sw (Hex byte left v) b = hex_step byte left v b
decode_step sw Verbatim b = raw_step sw b
decode_step sw Letters b = gives Letters (One b)
decode_step sw (Digits q rest) b = digits_step q rest b
decode_step sw (Pads left) b = pads_step left b
decode_step sw Bad b = on Bad

-- whether a body may end here
unfoldable pub may_end : Decoder → Bool
may_end Plain = true
may_end Escape = false
may_end (Hex byte left v) = false
may_end Verbatim = true
may_end Letters = true
may_end (Digits q rest) = whole_bytes q rest
may_end (Pads left) = true
may_end Bad = false

-- bytes before a content, if there is one
unfoldable pub prepend : List ℕ → Option (List ℕ) → Option (List ℕ)
prepend bytes none = none
prepend bytes (some rest) = some (bytes ++ rest)

-- the content of the bytes that a decoder is still fed
unfoldable pub decoded : Switches → Decoder → List ℕ → Option (List ℕ)
decoded sw st [] = cond (may_end st) (some []) none
decoded sw st (b ∷ s) = prepend (listed (decode_step sw st b).out) (decoded sw (decode_step sw st b).state s)

-- the decoder before a body's first byte
unfoldable pub start_of : Body → Decoder
start_of Quoted = Plain
start_of Raw = Verbatim
start_of Base64 = Digits 0 0
start_of Word = Letters

-- the content of a whole body, its UTF-8 not looked at
unfoldable pub content : Switches → Body → List ℕ → Option (List ℕ)
content sw body s = decoded sw (start_of body) s

-- "a text's whole content must be UTF-8"
unfoldable pub only_utf8 : Option (List ℕ) → Option (List ℕ)
only_utf8 none = none
only_utf8 (some out) = cond (is_utf8 out) (some out) none

-- the content of a text, or of bytes, of which UTF-8 is not asked
unfoldable pub content_of : Switches → (text : Bool) → Body → List ℕ → Option (List ℕ)
content_of sw text body s = cond text (only_utf8 (content sw body s)) (content sw body s)

-- ---- what the functions answer

-- how long a content is, if there is one
unfoldable pub measured : Option (List ℕ) → M.Option ℕ
measured none = M.TheVariants.None
measured (some bytes) = M.TheVariants.Some (length bytes)

-- what writing a content answers: its length, or that there is none, or no room for it
unfoldable pub fitted : (room : ℕ) → Option (List ℕ) → W.Result ℕ ContentError
fitted room none = W.TheVariants.Err NoContent
fitted room (some bytes) = cond (leb (length bytes) room) (W.TheVariants.Ok (length bytes)) (W.TheVariants.Err NoRoom)

-- "writes its content at the output's front; the rest of the output stays"; where it has no room, nothing is written
unfoldable pub placed : Option (List ℕ) → List ℕ → List ℕ
placed none out = out
placed (some bytes) out = cond (leb (length bytes) (length out)) (bytes ++ drop (length bytes) out) out

-- "equal when their contents are equal bytes"; what has no content equals nothing
unfoldable pub same_content : Option (List ℕ) → Option (List ℕ) → Bool
same_content none other = false
same_content (some a) none = false
same_content (some a) (some b) = same_bytes a b
