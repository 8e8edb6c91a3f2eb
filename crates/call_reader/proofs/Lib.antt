pub mod Answered
pub mod Computed
pub mod Fits
pub mod Places
pub mod Pushed
pub mod Spelled
pub mod Without
