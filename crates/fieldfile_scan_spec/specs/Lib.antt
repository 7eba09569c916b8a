pub mod Window
pub mod Store
