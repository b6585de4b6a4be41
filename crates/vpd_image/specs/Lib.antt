pub mod Entries
pub mod Orders
pub mod Places
pub mod Rooms
pub mod Tables
pub mod Vpd
