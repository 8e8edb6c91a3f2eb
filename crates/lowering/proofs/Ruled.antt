pub mod CappedPools
pub mod Judged
pub mod LoweredCounts
