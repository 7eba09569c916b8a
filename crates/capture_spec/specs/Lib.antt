pub mod Numbers
pub mod Items
pub mod Step
pub mod Written
