pub mod Found
pub mod Folds
pub mod Answered
pub mod Early
pub mod Narrows
pub mod Wishes
pub mod Worked
