pub mod Examples
pub mod KeptLaws
pub mod RowLaws
