-- What only the contracts inside the crate cite, of contents: nothing here must be believed by a reader.
-- Assumes nothing.
use Rattle.std.specs.Prelude.{ℕ, zero, suc, ◌+◌, ◌-◌, ◌*◌, ◌/◌, ◌<◌, ◌≤◌, ◌≡◌, Bool, true, cond, List, [], ◌∷◌, length, take, drop, get_or, Some, None}
use Rattle.std.proofs.Math.Option.{Option, none, some}
use Rattle.std.specs.declared.option.Option as Rust
use Rattle.text.specs.declared.switches.Switches.{Switches}
use Rattle.text.specs.declared.few.Few.{Few}
use Rattle.text.specs.declared.few.Few.TheVariants.{One}
use Rattle.text.specs.Utf8.{listed}
use Rattle.literals.specs.declared.decoder.Body.{Body}
use Rattle.literals.specs.declared.decoder.Decoder.{Decoder}
use Rattle.literals.specs.declared.decoder.Decoder.TheVariants.{Plain, Escape, Hex, Verbatim, Letters, Digits, Pads, Bad}
use Rattle.literals.specs.declared.compare.Cursor.{Cursor}
use Rattle.literals.specs.declared.compare.Piece.{Piece}
use Rattle.literals.specs.declared.compare.Piece.TheVariants as P
use Rattle.literals.specs.Content.{gives, decode_step, start_of, prepend, decoded}

-- an escape's value so far is below this, where `left` digits are due after the next one: then a byte, or 32 bits, hold it at the end
unfoldable pub hex_room : (byte : Bool) (left : ℕ) → ℕ
hex_room byte zero = cond byte 0x10 0x10000000
hex_room byte (suc left) = hex_room byte left / 16

-- the bits that no byte has been given of yet are below this, after q digits modulo 4
unfoldable pub bit_room : (q : ℕ) → ℕ
bit_room zero = 1
bit_room (suc zero) = 64
bit_room (suc (suc zero)) = 16
bit_room (suc (suc (suc zero))) = 4
bit_room (suc (suc (suc (suc q)))) = 0

-- the decoder's numbers have room for what is due
unfoldable pub Sound : Decoder → Type 0
Sound Plain = Unit {0}
Sound Escape = Unit {0}
Sound (Hex byte left v) = v < hex_room byte left
Sound Verbatim = Unit {0}
Sound Letters = Unit {0}
Sound (Digits q rest) = rest < bit_room q
Sound (Pads left) = Unit {0}
Sound Bad = Unit {0}

-- there is a content, and room for it
unfoldable pub HasRoom : Option (List ℕ) → (room : ℕ) → Type 0
HasRoom none room = ⊥
HasRoom (some bytes) room = length bytes ≤ room

-- where a content w ends that was written from `at` on; or that it has no room
abbrev pub CopyIs : (w : List ℕ) (at : ℕ) (out : List ℕ) → Rust.Option ℕ → Type 0
CopyIs w at out (Some r) = (r ≡ at + length w) × (r ≤ length out) × (drop at (take r out) ≡ w)
CopyIs w at out None = length out < at + length w

-- the same as a record
pub record CopiedAs (w : List ℕ) (at : ℕ) (out : List ℕ) (r : Rust.Option ℕ) : Type 0 where
  pub is : CopyIs w at out r

-- the same of a body, if it has a content
pub record Copied (o : Option (List ℕ)) (at : ℕ) (out : List ℕ) (r : Rust.Option ℕ) : Type 0 where
  pub is : (w : List ℕ) → o ≡ some w → CopiedAs w at out r

-- ---- bytes that stand for themselves

-- printable ASCII other than the backslash
pub record PlainByte (b : ℕ) : Type 0 where
  pub low : 0x20 ≤ b
  pub high : b ≤ 0x7E
  pub apart : b ≡ 0x5C → ⊥

-- the first n bytes are such
pub record PlainFront (s : List ℕ) (n : ℕ) : Type 0 where
  pub inside : n ≤ length s
  pub plain : (k : ℕ) → k < n → PlainByte (get_or s k 0)

-- the first n bytes of a body are ASCII and stand for themselves, and the decoder is then where it was at the start
pub record AsWritten (body : Body) (s : List ℕ) (n : ℕ) : Type 0 where
  pub inside : n ≤ length s
  pub low : (k : ℕ) → k < n → get_or s k 0 ≤ 0x7F
  pub same : (sw : Switches) (k : ℕ) → k < n → decode_step sw (start_of body) (get_or s k 0) ≡ gives (start_of body) (One (get_or s k 0))

-- a byte stands for itself and leaves the decoder in its state, if the answer is true
pub record OwnByteIf (st : Decoder) (b : ℕ) (r : Bool) : Type 0 where
  pub is : r ≡ true → (sw : Switches) → decode_step sw st b ≡ gives st (One b)

-- ---- cursors

-- a cursor from its parts
abbrev pub cursor_at : ℕ → Decoder → Few → Cursor
cursor_at place state out = record { place = place; state = state; out = out }

-- the content from a cursor on
unfoldable pub rest : Switches → List ℕ → Cursor → Option (List ℕ)
rest sw s c = prepend (listed c.out) (decoded sw c.state (drop c.place s))

-- goes down with every byte that is asked for
unfoldable pub weight : List ℕ → Cursor → ℕ
weight s c = 5 * (length s - c.place) + length (listed c.out)

-- the byte b, and then the content from the cursor k on
pub record Step (sw : Switches) (s : List ℕ) (c : Cursor) (b : ℕ) (k : Cursor) : Type 0 where
  pub is : rest sw s c ≡ prepend (b ∷ []) (rest sw s k)
  pub sound : Sound k.state
  pub less : weight s k < weight s c

-- what the content from a cursor on is, by the code's answer
abbrev pub PieceIs : Switches → List ℕ → Cursor → Piece → Type 0
PieceIs sw s c (P.Byte b k) = Step sw s c b k
PieceIs sw s c P.End = rest sw s c ≡ some []
PieceIs sw s c P.Bad = rest sw s c ≡ none

-- the same as a record
pub record Pieced (sw : Switches) (s : List ℕ) (c : Cursor) (r : Piece) : Type 0 where
  pub is : PieceIs sw s c r
