pub mod Archive
pub mod Any
pub mod AnyArchive
pub mod Capture
pub mod Replay
pub mod Exact
pub mod Program
