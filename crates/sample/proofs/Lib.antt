pub mod Classes
pub mod Schema
pub mod Typed
