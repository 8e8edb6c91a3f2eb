pub mod Roles
pub mod Layout
pub mod Tokens
pub mod Worked
