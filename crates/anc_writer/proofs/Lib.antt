pub mod FourOctets
pub mod ListRun
pub mod ListFront
pub mod PacketBits
pub mod RunLeft
pub mod ListedLaws
