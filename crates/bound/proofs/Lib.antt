pub mod Crossing
pub mod LastTick
