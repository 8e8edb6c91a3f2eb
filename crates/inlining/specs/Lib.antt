pub mod Endings
pub mod Inlined
pub mod Walked
pub mod Worked
