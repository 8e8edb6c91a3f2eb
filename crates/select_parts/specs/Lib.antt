pub mod Selects
pub mod Worked
