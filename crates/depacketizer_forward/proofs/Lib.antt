pub mod PacketLaws
pub mod SentOnLaws
