pub mod Alone
pub mod Anew
pub mod Worked
