pub mod LineAbove
pub mod Moves
