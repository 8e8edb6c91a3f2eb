pub mod Choices
pub mod Chars
pub mod Scalars
