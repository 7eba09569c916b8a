pub mod DifferText
