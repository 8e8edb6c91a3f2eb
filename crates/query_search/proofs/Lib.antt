mod Alone
mod Choosing
pub mod Counts
pub mod Firsts
mod Hits
mod Judged
mod Kept
mod Parts
pub mod Refuted
