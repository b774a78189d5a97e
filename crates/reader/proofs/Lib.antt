pub mod Whole
pub mod Progress
pub mod Zeros
pub mod Promises
