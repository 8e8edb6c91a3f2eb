pub mod Lent
pub mod UpTo
