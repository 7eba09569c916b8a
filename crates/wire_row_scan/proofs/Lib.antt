pub mod SumLaws
pub mod ClearLaws
