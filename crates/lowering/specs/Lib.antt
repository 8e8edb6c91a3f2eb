pub mod Asked
pub mod AskedWorked
pub mod InCode
pub mod Lowers
