pub mod LocationLaws
pub mod HeaderLaws
pub mod FrontLaws
pub mod FoundLaws
pub mod Examples
