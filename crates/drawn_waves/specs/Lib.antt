pub mod Drawing
pub mod Seats
pub mod Pieces
