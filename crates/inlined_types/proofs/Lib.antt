pub mod Computed
pub mod Typed
pub mod Ends
pub mod Fit
