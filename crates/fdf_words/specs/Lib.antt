pub mod Words
pub mod Keys
pub mod Numbers
pub mod DataBytes
pub mod SetLines
pub mod DeviceLines
