pub mod LaneLaws
pub mod Rows
