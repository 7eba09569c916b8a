pub mod Location
pub mod Header
pub mod Answers
