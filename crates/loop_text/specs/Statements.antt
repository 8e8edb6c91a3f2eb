pub mod Fragment
pub mod KeptStatements
pub mod Loops
pub mod Setting
pub mod Updated
pub mod Walking
pub mod Wanted
