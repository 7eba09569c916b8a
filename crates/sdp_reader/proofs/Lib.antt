pub mod GatherLaws
pub mod StoreLaws
