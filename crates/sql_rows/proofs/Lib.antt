pub mod Finding
pub mod Meeting
pub mod Numbers
pub mod Ordered
pub mod Placed
pub mod Sorted
pub mod Valued
pub mod Values
