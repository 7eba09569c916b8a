pub mod Frames
pub mod Session
pub mod Told
pub mod Written
