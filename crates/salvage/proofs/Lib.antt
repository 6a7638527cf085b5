-- Laws about the definitions of `salvage`, and those that the proofs of its functions go by.
pub mod LineLaws
pub mod KeptLaws
pub mod WalkLaws
pub mod CallLaws
