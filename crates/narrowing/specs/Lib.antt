pub mod Bodies
pub mod Lent
pub mod Narrowing
pub mod Reasons
pub mod Replacing
pub mod Reports
pub mod Rows
pub mod Worked
