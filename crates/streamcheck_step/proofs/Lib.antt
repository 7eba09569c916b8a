pub mod ReservedLaws
pub mod PacketLaws
