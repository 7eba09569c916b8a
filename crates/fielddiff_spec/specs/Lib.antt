pub mod Diff
pub mod Order
pub mod Text
pub mod Rest
