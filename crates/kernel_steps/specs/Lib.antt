pub mod Stops
pub mod Put
