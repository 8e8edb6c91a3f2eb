pub mod ExactParts
pub mod Onto
pub mod Stored
