pub mod Reading
pub mod Marking
pub mod Ends
pub mod Members
pub mod Claiming
pub mod Fits
