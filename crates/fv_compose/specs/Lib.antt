pub mod Pads
pub mod Header
pub mod Place
pub mod Files
pub mod Volume
pub mod Turns
pub mod Places
