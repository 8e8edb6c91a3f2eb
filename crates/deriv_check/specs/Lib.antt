pub mod Bundles
pub mod Texts
pub mod Grammar
pub mod Reading
pub mod Answers
