pub mod Numbering
pub mod Turning
pub mod Looping
