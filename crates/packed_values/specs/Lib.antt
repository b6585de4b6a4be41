pub mod Encoding
pub mod Plain
pub mod Parts
pub mod Arms
pub mod Base
