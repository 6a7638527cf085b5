-- Laws of the decoder's numbers: what they have room for.
-- Assumes nothing.
use Prim.Native.Nat.{ℕ, zero, suc, ◌<◌, ◌≤◌}
use native.Mathlib.Omega.{arith}
use mathlib.Core.Bool.{Bool, true, false}
use Rattle.literals.specs.InternalContent.{hex_room, bit_room}

-- ---- escapes of several digits

pub room_small : (byte : Bool) (left : ℕ) → hex_room byte left ≤ 0x10000000
unfolding hex_room
room_small true zero = omega arith
room_small false zero = omega arith
room_small byte (suc left) = let h = room_small byte left in omega arith

-- ---- base64

pub bits_few : (q rest : ℕ) → rest < bit_room q → q < 4
unfolding bit_room
bits_few zero rest h = omega arith
bits_few (suc zero) rest h = omega arith
bits_few (suc (suc zero)) rest h = omega arith
bits_few (suc (suc (suc zero))) rest h = omega arith
bits_few (suc (suc (suc (suc q)))) rest h = absurd (omega arith)
