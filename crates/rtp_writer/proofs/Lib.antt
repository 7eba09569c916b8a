pub mod FrontLaws
pub mod WriteLaws
pub mod EntryLaws
