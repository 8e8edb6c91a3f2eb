pub mod Asks
pub mod AtNumbers
pub mod FirstBroken
pub mod Runs
pub mod RunsThere
