pub mod Patching
pub mod Worked
