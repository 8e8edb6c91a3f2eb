pub mod Bytes
pub mod Offsets
pub mod Answers
