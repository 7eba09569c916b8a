pub mod Examples
pub mod FrameLaws
pub mod SessionLaws
pub mod WrittenLaws
