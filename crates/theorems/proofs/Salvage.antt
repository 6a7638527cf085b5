-- Req 14: the same run one container further in, trees moved, a line in an array, what is written read, the lines of a log, what a call comes
-- to, its numbers, and the examples.
pub mod OntoLaws
pub mod MovedLaws
pub mod LineLaws
pub mod ArrayLaws
pub mod SplitLaw
pub mod ReadLaw
pub mod CallLaw
pub mod Computed
