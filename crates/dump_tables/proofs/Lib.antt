pub mod Dotted
pub mod Found
pub mod Marked
pub mod Named
pub mod Parted
