pub mod Asking
pub mod GivesWay
pub mod KeptNumbers
pub mod LoopStands
pub mod Lowers
pub mod Means
pub mod Members
