pub mod Among
pub mod Chosen
pub mod Sound
pub mod Steps
pub mod Texts
