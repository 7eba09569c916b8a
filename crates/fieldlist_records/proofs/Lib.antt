pub mod WordLines
pub mod RecordsLeft
pub mod TextLaws
pub mod Examples
