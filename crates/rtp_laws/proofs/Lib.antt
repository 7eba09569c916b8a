pub mod EntryLaws
pub mod RefusalLaws
pub mod LentLaws
