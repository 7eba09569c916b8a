pub mod FilterLaws
pub mod WantedLaws
pub mod FilterExamples
