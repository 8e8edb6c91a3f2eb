pub mod Choices
pub mod Columns
pub mod Entries
pub mod Going
pub mod Names
pub mod Report
