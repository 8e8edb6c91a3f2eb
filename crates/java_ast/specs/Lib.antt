pub mod Names
pub mod Path
pub mod Placed
pub mod Reading
pub mod Spans
pub mod Tree
pub mod Unplaced
