pub mod Buffers
pub mod Frames
pub mod Run
pub mod Turns
pub mod Walk
