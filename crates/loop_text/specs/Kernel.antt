pub mod Counting
pub mod KernelConditions
pub mod KernelForms
pub mod KernelLists
pub mod KernelLoop
pub mod KernelStarts
pub mod KernelStatements
