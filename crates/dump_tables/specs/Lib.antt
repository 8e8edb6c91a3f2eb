pub mod Columns
pub mod Numbered
pub mod Parting
pub mod Parts
pub mod Tables
pub mod Types
pub mod Words
