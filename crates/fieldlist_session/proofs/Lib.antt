pub mod Examples
pub mod StreamLaws
pub mod TurnLaws
