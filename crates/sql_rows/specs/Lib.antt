pub mod Reading
pub mod Firsts
pub mod Keyed
pub mod Lookups
