-- Laws of paths: their steps, what one step leads to, and where a path leads.
pub mod StepLaws
pub mod FollowLaws
pub mod FoundLaws
