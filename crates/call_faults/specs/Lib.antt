pub mod Larger
pub mod Worked
