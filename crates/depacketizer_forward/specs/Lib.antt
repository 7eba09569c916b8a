pub mod Forward
pub mod SentOn
