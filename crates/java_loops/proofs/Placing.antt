pub mod PathsLead
pub mod Place
pub mod PlaceLoop
pub mod PlaceRuns
pub mod PlaceSpelled
pub mod PlaceTyped
pub mod PlaceTypes
