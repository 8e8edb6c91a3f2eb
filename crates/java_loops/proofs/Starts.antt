pub mod Start
pub mod StartCounter
pub mod StartCounting
pub mod StartCountingApart
pub mod StartCountingText
