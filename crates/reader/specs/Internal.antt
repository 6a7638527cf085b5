-- What only the contracts of this crate's inner functions cite, and of those that are public for its modules or for the crates above
-- alone. Nothing below has to be believed: the other public contracts don't name it.
pub mod Tokens
pub mod Ahead
pub mod Values
pub mod Keys
pub mod Siblings
pub mod Index
pub mod Few
pub mod Whole
