pub mod LoweredBeside
pub mod LoweredLists
pub mod Tallies
