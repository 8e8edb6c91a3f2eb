pub mod Conditions
pub mod Lent
pub mod Levels
pub mod Short
pub mod Soundness
pub mod Worked
pub mod Sought
pub mod Outlines
