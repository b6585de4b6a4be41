pub mod Contents
pub mod Fits
pub mod Folders
pub mod Readers
pub mod Settings
pub mod Stems
pub mod Volumes
pub mod VpdLines
