-- Laws about the definitions of `text`, for the proofs of this crate and of the crates above it.
pub mod Choice
pub mod ListLaws
pub mod BufferLaws
pub mod Table
pub mod ClassLaws
pub mod FeedLaws
pub mod FrontLaws
pub mod Utf8Laws
pub mod FewLaws
pub mod EightLaws
pub mod Utf8Join
pub mod SameLaws
pub mod RefusalLaws
