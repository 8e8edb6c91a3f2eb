pub mod ExactChoices
pub mod ExactChars
pub mod ExactTexts
pub mod ExactScalars
mod CharLoops
