pub mod Examples
pub mod FrontLaws
pub mod WritesLaws
pub mod FileLaws
pub mod CutFile
pub mod WholeFile
pub mod Refusals
