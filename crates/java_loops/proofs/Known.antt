pub mod KnownAnswers
pub mod KnownEntries
pub mod KnownFew
pub mod KnownGiven
pub mod KnownLeaves
pub mod KnownLists
pub mod KnownNumbers
