pub mod Reading
mod Sending
pub mod Naming
