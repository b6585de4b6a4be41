pub mod Asks
pub mod Code
pub mod Depex
pub mod DepexNames
pub mod Report
pub mod TextTrees
