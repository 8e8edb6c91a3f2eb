pub mod Lists
pub mod Pascal
pub mod Ranks
pub mod Shorter
