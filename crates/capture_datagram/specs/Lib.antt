pub mod Answer
pub mod Udp
pub mod Ip
pub mod Link
pub mod Wrapped
