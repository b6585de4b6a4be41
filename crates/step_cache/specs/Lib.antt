pub mod Numbered
pub mod Pools
pub mod Places
pub mod CacheText
pub mod Decoding
pub mod Checking
pub mod Known
pub mod Agreement
