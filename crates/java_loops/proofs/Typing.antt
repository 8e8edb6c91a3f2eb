pub mod BoundSteps
pub mod BoundTyping
pub mod TypedAccumulators
pub mod TypedFragment
pub mod TypedMembers
pub mod TypedPlaces
pub mod TypedUpdates
pub mod Visible
