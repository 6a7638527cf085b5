-- Laws of refusals by their numbers.
-- Assumes nothing.
use Prim.Native.Nat.{◌<◌}
use native.Mathlib.Omega.{arith}
use Rattle.text.specs.declared.refusal.Reason.{Reason}
use Rattle.text.specs.declared.refusal.Reason.TheVariants.{TooLong, NotUtf8, Malformed, BadContent, TooWide, Temporal, Unexpected, DuplicateKey, TooDeep, NoNodeLeft, LengthInUse, NoSuchNode, NotOneValue, TextFull, JournalFull, Unreadable, NothingToUndo, BadEntry, NoString, OutputFull, NoRecords, NoChild, TooManyLines, TooLarge}
use Rattle.text.specs.Refusal.{number_of}

-- no reason has the number 0
pub number_positive : (r : Reason) → 0 < number_of r
number_positive TooLong = omega arith
number_positive NotUtf8 = omega arith
number_positive Malformed = omega arith
number_positive BadContent = omega arith
number_positive TooWide = omega arith
number_positive Temporal = omega arith
number_positive Unexpected = omega arith
number_positive DuplicateKey = omega arith
number_positive TooDeep = omega arith
number_positive NoNodeLeft = omega arith
number_positive LengthInUse = omega arith
number_positive NoSuchNode = omega arith
number_positive NotOneValue = omega arith
number_positive TextFull = omega arith
number_positive JournalFull = omega arith
number_positive Unreadable = omega arith
number_positive NothingToUndo = omega arith
number_positive BadEntry = omega arith
number_positive NoString = omega arith
number_positive OutputFull = omega arith
number_positive NoRecords = omega arith
number_positive NoChild = omega arith
number_positive TooManyLines = omega arith
number_positive TooLarge = omega arith
