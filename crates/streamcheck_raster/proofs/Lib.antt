pub mod RecordsLeft
