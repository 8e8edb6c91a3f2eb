pub mod Adding
pub mod Later
pub mod Fitted
pub mod Entered
pub mod Given
pub mod Known
pub mod Recalled
