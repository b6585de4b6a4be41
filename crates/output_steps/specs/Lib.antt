pub mod Wanted
pub mod Outputs
pub mod AllTree
