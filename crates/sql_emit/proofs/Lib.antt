pub mod Emitting
pub mod Existing
pub mod Flagged
