pub mod Scalars
pub mod Identical
pub mod Sums
pub mod Pushed
