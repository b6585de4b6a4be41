pub mod Words
pub mod Pcds
pub mod Package
pub mod Module
pub mod Platform
pub mod Volume
pub mod Flash
pub mod Made
