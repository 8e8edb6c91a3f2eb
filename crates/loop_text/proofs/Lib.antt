pub mod Indexed
pub mod Trees
