-- Comments do not touch data: what is inserted, the items of the text, the tokens of the new text, the rows of its table.
pub mod Computed
pub mod GapLaws
pub mod CuttingLaws
pub mod InterleaveLaws
pub mod RowLaws
pub mod CommentsLaw
