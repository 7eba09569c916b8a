pub mod RunLaws
pub mod StrictLaws
pub mod PacketLaws
pub mod ThroughLaws
pub mod Examples
pub mod OrderLaws
