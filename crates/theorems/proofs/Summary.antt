-- Req 05: heights by arithmetic, the shape of a text that has a summary, the heights as floats, the call's numbers, and the examples.
pub mod ExactLaw
pub mod ShapeLaw
pub mod FloatLaw
pub mod CallLaw
pub mod Computed
