pub mod FactorLaws
pub mod Fields
