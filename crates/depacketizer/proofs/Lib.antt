pub mod AdmitLaws
pub mod ArriveLaws
pub mod DecideLaws
