pub mod Head
pub mod Sections
pub mod Files
pub mod Volume
pub mod Written
pub mod Lines
pub mod Listing
