-- The UTF-8 check: the longest valid front, the walk with its eights, and the examples.
pub mod FrontLaw
pub mod WalkLaw
pub mod Computed
