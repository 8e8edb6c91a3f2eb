pub mod Blocks
pub mod Found
pub mod Members
pub mod Mentions
pub mod Prefixes
pub mod Statements
pub mod Uses
pub mod Worked
