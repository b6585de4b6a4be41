pub mod Rules
pub mod Modules
