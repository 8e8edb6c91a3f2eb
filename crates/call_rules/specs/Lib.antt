pub mod Faults
pub mod Noted
pub mod Cycles
pub mod Candidates
