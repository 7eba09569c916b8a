mod SizeTaken
pub mod StageLaws
