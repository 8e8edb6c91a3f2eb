pub mod Standing
pub mod StandingKnown
pub mod StandingRules
pub mod StandingSites
pub mod StandingWithin
