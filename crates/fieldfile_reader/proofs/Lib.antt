pub mod HeadFields
pub mod ReadLaws
