pub mod Sums
pub mod Homes
pub mod Kept
pub mod Turns
pub mod Placing
pub mod Whole
