pub mod Copies
pub mod Moved
pub mod Places
pub mod Ranges
