pub mod Moved
pub mod Holds
pub mod Sections
pub mod MovedBytes
