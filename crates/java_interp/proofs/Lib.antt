pub mod Branches
pub mod Called
pub mod Passing
pub mod Turns
