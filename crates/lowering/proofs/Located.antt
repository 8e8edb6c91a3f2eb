pub mod Locations
pub mod Placed
pub mod SettingThere
