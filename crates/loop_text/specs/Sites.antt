pub mod Bound
pub mod Groups
pub mod Indexed
pub mod Reading
pub mod Sites
