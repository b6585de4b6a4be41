pub mod Words
pub mod Own
pub mod Folders
