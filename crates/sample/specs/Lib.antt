pub mod Class
pub mod Given
