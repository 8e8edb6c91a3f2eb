pub mod Enclosed
pub mod Patches
pub mod Sites
