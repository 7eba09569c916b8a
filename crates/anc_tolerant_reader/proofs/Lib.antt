pub mod PacketLaws
pub mod RunLaws
