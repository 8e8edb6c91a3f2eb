pub mod Kernel
pub mod Sites
pub mod Statements
