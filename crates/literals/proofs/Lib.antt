-- Laws about the definitions of `literals`, for the proofs of this crate and of the crates above it.
pub mod NumberLaws
pub mod Signed
pub mod DecoderLaws
pub mod StepLaws
pub mod PlainLaws
pub mod TallyLaws
pub mod FillLaws
pub mod CopyLaws
pub mod PairLaws
pub mod CursorLaws
