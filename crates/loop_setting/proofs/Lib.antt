pub mod Following
pub mod Gathered
pub mod Grouped
pub mod KeptNumbers
pub mod Updated
