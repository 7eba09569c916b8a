pub mod Kept
pub mod Run
