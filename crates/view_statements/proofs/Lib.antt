mod Bodied
mod Changed
pub mod Computed
pub mod Nodes
mod Pushed
