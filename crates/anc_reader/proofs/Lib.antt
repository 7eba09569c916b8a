pub mod PacketLaws
pub mod RecordLaws
pub mod RunLaws
