pub mod Bytes
pub mod Pieces
pub mod Scan
pub mod Splitting
pub mod Statements
