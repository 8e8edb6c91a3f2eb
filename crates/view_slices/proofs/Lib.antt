pub mod Computed
pub mod Got
pub mod Knowing
pub mod Members
mod Numbered
mod Once
