pub mod Called
pub mod Kinds
pub mod Marks
