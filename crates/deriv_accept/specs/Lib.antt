pub mod Accepted
pub mod Ends
