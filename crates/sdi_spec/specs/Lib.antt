pub mod Packets
pub mod Line
pub mod Answers
pub mod Passes
pub mod Refuses
