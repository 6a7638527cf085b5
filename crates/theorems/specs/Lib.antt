-- What is claimed of the definitions and of the calls by their contracts, beside the sentences that ask for it.
pub mod Utf8
pub mod Number
pub mod Insertion
pub mod Nesting
pub mod Nodes
pub mod Path
pub mod Summary
pub mod Salvage
pub mod Calls
pub mod Example
