pub mod NumberApart
pub mod NumberEntries
pub mod NumberKept
pub mod NumberLists
pub mod NumberSame
pub mod Numberings
