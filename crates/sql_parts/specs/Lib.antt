pub mod Emitted
pub mod Given
pub mod Numbered
pub mod Reading
pub mod Scopes
pub mod Worked
