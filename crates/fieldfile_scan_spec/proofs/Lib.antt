pub mod FrontLaws
pub mod WindowLaws
pub mod StoreLaws
pub mod Examples
