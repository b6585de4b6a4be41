pub mod Statements
pub mod Bodies
pub mod InfLines
pub mod VolumeKeys
pub mod VolumeLines
