pub mod HeadOctets
pub mod WriteLaws
