pub mod Seen
pub mod SpelledOut
pub mod WithCalls
pub mod Worked
