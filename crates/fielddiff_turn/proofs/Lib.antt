pub mod PlaceLaws
pub mod RecordLaws
pub mod TurnLaws
pub mod RunLaws
