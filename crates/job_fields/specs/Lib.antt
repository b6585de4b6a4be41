pub mod Values
pub mod Fields
pub mod Readings
pub mod HasWords
