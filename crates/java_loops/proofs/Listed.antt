pub mod Listed
pub mod ListedRows
pub mod ListedSeen
pub mod ListedSites
pub mod ListedWalk
