pub mod EntryLaws
pub mod HeaderFields
pub mod ReadLaws
pub mod StageLaws
