pub mod Copied
pub mod Digits
