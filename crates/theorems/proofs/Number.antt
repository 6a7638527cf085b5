-- Numbers by their grammar: digits; a number of the grammar has its meaning; any other is malformed; leading zeros; and the examples.
pub mod DigitLaws
pub mod MeantLaw
pub mod MalformedLaw
pub mod ZerosLaw
pub mod Computed
