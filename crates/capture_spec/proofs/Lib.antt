pub mod Examples
pub mod LongerLaws
pub mod StepLaws
pub mod WrittenLaws
pub mod ShortLaws
