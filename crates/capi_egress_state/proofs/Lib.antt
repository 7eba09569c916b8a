pub mod FitLaws
pub mod RowLaws
pub mod HandedOn
pub mod ChangeLaws
