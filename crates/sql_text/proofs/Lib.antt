pub mod Computed
pub mod Depths
pub mod Printed
