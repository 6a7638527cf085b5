-- Laws of heights, of records and of their tally.
pub mod ScaleLaws
pub mod HeightLaws
pub mod RecordLaws
pub mod TallyLaws
pub mod SummaryLaws
pub mod AnswerLaws
