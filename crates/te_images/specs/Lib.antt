pub mod Standard
pub mod Pe
pub mod Headers
pub mod Te
