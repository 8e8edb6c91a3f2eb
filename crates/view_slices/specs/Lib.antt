pub mod Bounds
pub mod Kept
pub mod Reading
pub mod Shown
pub mod Slices
pub mod Views
pub mod Words
pub mod Worked
