-- Refusals, by document 01's numbers.
-- Assumes nothing.
use Rattle.std.specs.Prelude.{ℕ, ◌≡◌, Result, Ok, Err}
use Rattle.text.specs.declared.refusal.Reason.{Reason}
use Rattle.text.specs.declared.refusal.Reason.TheVariants.{
  TooLong,
  NotUtf8,
  Malformed,
  BadContent,
  TooWide,
  Temporal,
  Unexpected,
  DuplicateKey,
  TooDeep,
  NoNodeLeft,
  LengthInUse,
  NoSuchNode,
  NotOneValue,
  TextFull,
  JournalFull,
  Unreadable,
  NothingToUndo,
  BadEntry,
  NoString,
  OutputFull,
  NoRecords,
  NoChild,
  TooManyLines,
  TooLarge,
}
use Rattle.text.specs.declared.refusal.UnknownReason.{UnknownReason}
use Rattle.text.specs.declared.refusal.Refusal as Code

-- "Numbers of refusal": the number of each reason
abbrev pub number_of : Reason → ℕ
number_of TooLong = 1
number_of NotUtf8 = 2
number_of Malformed = 3
number_of BadContent = 4
number_of TooWide = 5
number_of Temporal = 6
number_of Unexpected = 7
number_of DuplicateKey = 8
number_of TooDeep = 9
number_of NoNodeLeft = 10
number_of LengthInUse = 11
number_of NoSuchNode = 12
number_of NotOneValue = 13
number_of TextFull = 14
number_of JournalFull = 15
number_of Unreadable = 16
number_of NothingToUndo = 17
number_of BadEntry = 18
number_of NoString = 19
number_of OutputFull = 20
number_of NoRecords = 21
number_of NoChild = 23
number_of TooManyLines = 27
number_of TooLarge = 28

-- the reason that has a number; if it is refused, no reason has it
pub record Names (number : ℕ) (r : Result Reason UnknownReason) : Type 0 where
  pub named : (reason : Reason) → r ≡ Ok reason → number_of reason ≡ number
  pub unknown : (e : UnknownReason) → r ≡ Err e → (reason : Reason) → number_of reason ≡ number → ⊥

-- a refusal, by its number and its place
pub record Refusal : Type 0 where
  pub number : ℕ
  pub place : ℕ

abbrev pub refusal : (number place : ℕ) → Refusal
refusal number place = record { number = number; place = place }

-- what the code's refusal says
abbrev pub told_by : Code.Refusal → Refusal
told_by f = refusal (number_of f.reason) f.place

-- an answer of the code, its refusal by number and place
abbrev pub told : {T : Type 0} → Result T Code.Refusal → Result T Refusal
told (Ok x) = Ok x
told (Err f) = Err (told_by f)

-- one that is refused for a reason and at no place
abbrev pub numbered : {T : Type 0} → Result T Reason → Result T ℕ
numbered (Ok x) = Ok x
numbered (Err r) = Err (number_of r)
