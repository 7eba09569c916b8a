pub mod AllFiled
pub mod Examples
pub mod FiledLaws
pub mod FormedLaws
pub mod StoreLaws
