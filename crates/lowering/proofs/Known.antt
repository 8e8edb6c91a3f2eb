pub mod KnownArguments
pub mod KnownColumn
pub mod KnownHeld
pub mod KnownList
pub mod KnownLoop
pub mod KnownQueries
pub mod KnownTests
pub mod KnownWorked
