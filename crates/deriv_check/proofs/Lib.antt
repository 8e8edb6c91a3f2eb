pub mod Numbers
pub mod Steps
pub mod Derivations
pub mod Bundled
