-- The laws that the proofs of the calls go by, and demand 3 of the calls.
pub mod NumberLaws
pub mod ChangeLaws
pub mod MadeLaws
pub mod SummaryLaws
pub mod SalvageLaws
