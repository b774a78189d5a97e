pub mod Halving
pub mod Periods
