pub mod Names
pub mod Listing
pub mod Assignments
pub mod Views
