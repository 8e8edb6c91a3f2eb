pub mod Brackets
pub mod Bytes
pub mod Items
pub mod Known
pub mod Opened
pub mod Pieces
pub mod Plain
pub mod Worked
