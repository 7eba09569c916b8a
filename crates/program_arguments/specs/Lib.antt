pub mod Files
pub mod Options
pub mod Port
