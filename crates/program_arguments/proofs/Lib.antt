pub mod Examples
pub mod OptionLaws
pub mod PortLaws
