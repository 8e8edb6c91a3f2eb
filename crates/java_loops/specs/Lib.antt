pub mod Kernel
pub mod Lowering
pub mod Meant
pub mod Walks
