pub mod Queues
pub mod Places
pub mod Step
pub mod Calls
pub mod Laws
