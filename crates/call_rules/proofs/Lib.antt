pub mod Counted
pub mod Ends
pub mod Found
pub mod Joined
pub mod Numbers
pub mod Ways
