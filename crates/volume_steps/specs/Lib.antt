pub mod Asks
pub mod Based
pub mod Devices
pub mod VolumeTrees
pub mod Volumes
pub mod VpdTree
