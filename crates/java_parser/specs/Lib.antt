pub mod Exact
pub mod Kept
pub mod Parsed
pub mod RuleNames
