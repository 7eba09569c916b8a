pub mod Laws
pub mod Step
pub mod Stream
pub mod Table
pub mod Memory
pub mod Delivery
