pub mod Calls
pub mod Lines
pub mod Opening
pub mod Results
pub mod Tables
pub mod Words
