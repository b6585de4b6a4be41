pub mod Asks
pub mod Choices
pub mod HeldInfs
pub mod ModuleTrees
pub mod Near
pub mod Parts
pub mod Pcds
pub mod Skus
