pub mod Numbers
pub mod RunsThere
