pub mod KeptLaws
pub mod ParsedLaws
