pub mod Count
pub mod Texts
pub mod Tree
