pub mod Declared
pub mod Joined
pub mod Lexed
