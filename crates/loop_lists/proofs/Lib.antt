pub mod FirstLoops
pub mod LoopSites
pub mod MethodLoops
pub mod Windows
