pub mod Answers
pub mod Filing
