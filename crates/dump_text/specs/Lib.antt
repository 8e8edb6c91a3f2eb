pub mod Entries
pub mod Text
pub mod Worked
