pub mod Longs
pub mod Placed
