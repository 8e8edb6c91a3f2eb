pub mod Binomial
pub mod Numbered
pub mod Worked
