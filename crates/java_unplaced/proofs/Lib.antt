pub mod Bare
pub mod Computed
pub mod Kept
pub mod Ruled
pub mod Seen
pub mod Typed
