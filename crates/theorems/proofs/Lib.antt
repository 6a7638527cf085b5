-- The proofs of what specs/ claims, and the laws that only they need.
pub mod Utf8
pub mod Number
pub mod Insertion
pub mod Nesting
pub mod NodeLaws
pub mod Path
pub mod Summary
pub mod Salvage
pub mod CallLaws
