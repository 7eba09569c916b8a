pub mod BufferLaws
pub mod FrameLaws
pub mod RunLaws
pub mod StepLaws
pub mod TurnLaws
pub mod WalkLaws
