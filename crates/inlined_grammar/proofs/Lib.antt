pub mod Computed
pub mod IllTyped
pub mod InGrammar
pub mod Plain
pub mod Shapes
pub mod Written
