pub mod Standard
pub mod Bytes
pub mod Module
pub mod Blocks
pub mod Moves
pub mod Files
pub mod Rebase
pub mod Changes
