-- Req 09: the steps of a path, the indices in them, the numbers of an answer, and the examples.
pub mod StepsLaw
pub mod IndexLaw
pub mod AnswerLaw
pub mod Computed
