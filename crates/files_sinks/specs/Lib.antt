pub mod Held
pub mod Outside
pub mod Room
