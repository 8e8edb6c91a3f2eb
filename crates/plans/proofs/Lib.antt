pub mod Called
pub mod Fetched
pub mod Lined
pub mod Loading
pub mod Opened
