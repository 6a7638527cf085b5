-- The numbers that the calls for C and Rust answer, and demand 3 of these calls.
pub mod Numbers
pub mod Calls
pub mod Internal
