pub mod File
pub mod Cut
pub mod Refuses
