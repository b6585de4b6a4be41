pub mod Files
pub mod Either
