pub mod Known
pub mod Located
pub mod Lowerings
pub mod Ruled
pub mod Staying
