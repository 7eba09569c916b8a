pub mod RegionLaws
pub mod ReadLaws
