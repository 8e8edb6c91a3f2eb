pub mod PlainTypes
pub mod Worked
