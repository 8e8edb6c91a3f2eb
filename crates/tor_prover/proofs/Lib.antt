pub mod Positions
pub mod Stuck
pub mod OpenAtom
pub mod First
pub mod Good
pub mod Unfold
pub mod Ended
pub mod Made
pub mod Accepted
pub mod Nested
pub mod Derived
pub mod ByHead
pub mod Reducing
pub mod Memorised
mod Settled
mod Settling
