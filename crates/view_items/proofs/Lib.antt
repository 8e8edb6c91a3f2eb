pub mod Bytewise
pub mod Computed
pub mod Kept
pub mod Marks
pub mod Matched
pub mod Read
