pub mod Tolerant
pub mod Received
