pub mod Hashing
pub mod Keys
pub mod KeyLaws
pub mod Packed
