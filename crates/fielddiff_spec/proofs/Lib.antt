pub mod UpToLaws
pub mod PlaceLaws
pub mod DiffLaws
pub mod LineLaws
pub mod TextLaws
pub mod Examples
pub mod FromLaws
pub mod RestLaws
