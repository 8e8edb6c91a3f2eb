pub mod Collected
pub mod Lowered
pub mod Numbering
pub mod Placing
pub mod Spelling
pub mod UpTo
