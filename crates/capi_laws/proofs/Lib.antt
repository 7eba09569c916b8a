pub mod KeptLaws
pub mod RunLaws
