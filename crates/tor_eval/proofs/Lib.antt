pub mod Evaluated
pub mod Steps
pub mod Shown
