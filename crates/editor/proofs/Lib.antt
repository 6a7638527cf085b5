-- The laws of the editor's definitions, demand 3's theorem, and document 01's starred cases.
pub mod SpliceLaws
pub mod EntryLaws
pub mod BufferLaws
pub mod JournalLaws
pub mod ReadLaws
pub mod CallLaws
pub mod TrialLaws
pub mod CorrectLaws
pub mod LastEntryLaws
pub mod UndoCallLaws
pub mod BookLaws
pub mod UndoLaws
pub mod Demand3
pub mod MadeLaws
pub mod Cause
pub mod Computing
pub mod Cases
