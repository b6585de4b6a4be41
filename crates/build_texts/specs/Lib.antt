pub mod Code
pub mod Guids
pub mod Named
pub mod Report
pub mod Views
pub mod Words
